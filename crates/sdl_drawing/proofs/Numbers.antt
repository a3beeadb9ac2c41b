-- The parts that are shown, one by one.
use Rattle.std.proofs.Common.{◌≡◌, ℕ, ◌+◌, List, [], ◌∷◌, ◌++◌, map, sym, ap, ◌∙◌, append_assoc, arith}
use Rattle.std.specs.List.{range_with_len}
use Rattle.std.proofs.lemmas.List.{map_push}
use Rattle.std.proofs.lemmas.List.FromFn.{map-range_with_len_more}

-- one more shape, of the next number
pub numbered_next : {X Y : Type 0} (f : ℕ → Y) (g : X → Y) (xs ys : List X) (n : ℕ) (x : X)
    → map g xs ≡ map f (range_with_len 0 n) → ys ≡ xs ++ x ∷ [] → g x ≡ f n
    → map g ys ≡ map f (range_with_len 0 (n + 1))
numbered_next {X} {Y} f g xs ys n x so_far e this =
    ap (map g) e
    ∙ (map_push g xs x
    ∙ (ap (λ (l : List Y). l ++ g x ∷ []) so_far
    ∙ (ap (λ (y : Y). map f (range_with_len 0 n) ++ y ∷ []) this
    ∙ sym (map-range_with_len_more f 0 n n (omega arith)))))

-- the same behind shapes that stood there before
pub numbered_more : {X Y : Type 0} (f : ℕ → Y) (g : X → Y) (before : List Y) (xs ys : List X) (n : ℕ) (x : X)
    → map g xs ≡ before ++ map f (range_with_len 0 n) → ys ≡ xs ++ x ∷ [] → g x ≡ f n
    → map g ys ≡ before ++ map f (range_with_len 0 (n + 1))
numbered_more {X} {Y} f g before xs ys n x so_far e this =
    ap (map g) e
    ∙ (map_push g xs x
    ∙ (ap (λ (l : List Y). l ++ g x ∷ []) so_far
    ∙ (append_assoc before (map f (range_with_len 0 n)) (g x ∷ [])
    ∙ (ap (λ (y : Y). before ++ (map f (range_with_len 0 n) ++ y ∷ [])) this
    ∙ ap (λ (l : List Y). before ++ l) (sym (map-range_with_len_more f 0 n n (omega arith)))))))
