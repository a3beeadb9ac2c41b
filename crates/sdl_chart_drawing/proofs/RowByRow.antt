-- What rows have, row by row.
use Rattle.std.proofs.Common.{◌≡◌, ℕ, zero, suc, ◌+◌, ◌<◌, List, [], ◌∷◌, ◌++◌, length, take, get_or, ap, sym, ◌∙◌, append_assoc, append-nil, add-zero, add-one, arith, ◌≤◌, Option, None, option_map, unwrap_or, slice_get}
use Rattle.std.proofs.lemmas.Option.{slice_get_past}
use Rattle.sdl_chart_page.specs.declared.page.Row.{Row}
use Rattle.sdl_chart_drawing.specs.Traffic.{rows_from, all_at}

module _ {X : Type 0} (f : ℕ → Row → List X) where
  rows_take : (start n : ℕ) (rows : List Row) (r : Row) → n < length rows → rows_from f start (take (suc n) rows) ≡ rows_from f start (take n rows) ++ f (start + n) (get_or rows n r)
  rows_take start n [] r less = absurd (omega arith)
  rows_take start zero (x ∷ xs) r less = append-nil (f start x) ∙ ap (λ (m : ℕ). f m x) (sym (add-zero start))
  rows_take start (suc n) (x ∷ xs) r less =
      let number : (start + 1) + n ≡ start + suc n = omega arith in
      ap (λ (l : List X). f start x ++ l) (rows_take (start + 1) n xs r (omega arith))
      ∙ (sym (append_assoc (f start x) (rows_from f (start + 1) (take n xs)) (f ((start + 1) + n) (get_or xs n r)))
      ∙ ap (λ (m : ℕ). (f start x ++ rows_from f (start + 1) (take n xs)) ++ f m (get_or xs n r)) number)

  -- what the first rows have, and one more
  pub rows_more : (start n : ℕ) (rows : List Row) (r : Row) → n < length rows → rows_from f start (take (n + 1) rows) ≡ rows_from f start (take n rows) ++ f (start + n) (get_or rows n r)
  rows_more start n rows r less = ap (λ (m : ℕ). rows_from f start (take m rows)) (add-one n) ∙ rows_take start n rows r less

  pub rows_next : (start n m : ℕ) (rows : List Row) (r : Row) (old new : List X) → n < length rows → m ≡ start + n
      → old ≡ rows_from f start (take n rows) → new ≡ old ++ f m (get_or rows n r) → new ≡ rows_from f start (take (n + 1) rows)
  rows_next start n m rows r old new less number before one =
      one
      ∙ (ap (λ (l : List X). l ++ f m (get_or rows n r)) before
      ∙ (ap (λ (k : ℕ). rows_from f start (take n rows) ++ f k (get_or rows n r)) number
      ∙ sym (rows_more start n rows r less)))

-- nothing more
pub none_more : {X : Type 0} (xs ys : List X) → ys ≡ [] → xs ≡ xs ++ ys
none_more {X} xs ys e = sym (append-nil xs) ∙ ap (λ (l : List X). xs ++ l) (sym e)

pub all_at_none : {X Y : Type 0} (f : X → List Y) (xs : List X) (n : ℕ) → slice_get xs n ≡ None → all_at f xs n ≡ []
all_at_none {X} {Y} f xs n none = ap (λ (o : Option X). unwrap_or (option_map f o) []) none

pub all_at_past : {X Y : Type 0} (f : X → List Y) (xs : List X) (n : ℕ) → length xs ≤ n → all_at f xs n ≡ []
all_at_past f xs n past = all_at_none f xs n (slice_get_past xs n past)
