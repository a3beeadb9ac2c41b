-- The numbers of the rows that fit a wish, row by row.
use Rattle.std.proofs.Common.{◌≡◌, ℕ, zero, suc, ◌+◌, ◌<◌, List, [], ◌∷◌, ◌++◌, length, take, Some, None, slice_get, inl, inr, refl, ap, sym, ◌∙◌, subst, arith}
use Rattle.std.proofs.Math.Seq.{take-length}
use Rattle.sdl_routes.specs.declared.route.TableRow.{TableRow}
use Rattle.sdl_routes.specs.declared.route.Wish.{Wish}
use Rattle.sdl_routes.specs.Routes.{Fits, AreFitting}

fits_same : (w : Wish) (a b : TableRow) → Some a ≡ Some b → Fits b w → Fits a w
fits_same w a b e fits = let f : b ≡ a = cc in subst (λ (r : TableRow). Fits r w) f fits

none_some : (row : TableRow) → None ≡ Some row → ⊥
none_some row e = cc

pub fit_more : (w : Wish) (n : ℕ) (rows : List TableRow) (i : ℕ) (row : TableRow) (fs : List ℕ) (m : ℕ) → slice_get rows i ≡ Some row → Fits row w → m ≡ n + i
    → AreFitting w n (take i rows) fs → AreFitting w n (take (suc i) rows) (fs ++ m ∷ [])
fit_more w n [] i row fs m at fits is h = absurd (none_some row at)
fit_more w n (r ∷ rows) zero row fs m at fits is h =
    let number : m ≡ n = omega arith in
    inl (fits_same w r row at fits, ([], ap (λ l. l ++ m ∷ []) h ∙ ap (λ k. k ∷ []) number, refl))
fit_more w n (r ∷ rows) (suc i) row fs m at fits is h =
    elim h [
      | inl (first, (more, e, rest)) ↦ inl (first, (more ++ m ∷ [], ap (λ l. l ++ m ∷ []) e, fit_more w (suc n) rows i row more m at fits (omega arith) rest))
      | inr (never, rest) ↦ inr (never, fit_more w (suc n) rows i row fs m at fits (omega arith) rest)
    ]

pub fit_less : (w : Wish) (n : ℕ) (rows : List TableRow) (i : ℕ) (row : TableRow) (fs : List ℕ) → slice_get rows i ≡ Some row → ¬ Fits row w
    → AreFitting w n (take i rows) fs → AreFitting w n (take (suc i) rows) fs
fit_less w n [] i row fs at never h = absurd (none_some row at)
fit_less w n (r ∷ rows) zero row fs at never h = inr ((λ fits. never (fits_same w row r (sym at) fits)), h)
fit_less w n (r ∷ rows) (suc i) row fs at never h =
    elim h [
      | inl (first, (more, e, rest)) ↦ inl (first, (more, e, fit_less w (suc n) rows i row more at never rest))
      | inr (other, rest) ↦ inr (other, fit_less w (suc n) rows i row fs at never rest)
    ]

-- none fits below a number
pub none_fit : (w : Wish) (n : ℕ) (rows : List TableRow) (low : ℕ) → ((k : ℕ) (row : TableRow) → slice_get rows k ≡ Some row → k < low → ¬ Fits row w)
    → AreFitting w n (take low rows) []
none_fit w n rows zero none = refl
none_fit w n [] (suc low) none = refl
none_fit w n (r ∷ rows) (suc low) none =
    inr (none 0 r refl (omega arith), none_fit w (suc n) rows low (λ k row at lt. none (suc k) row at (omega arith)))

-- all rows
pub whole : (w : Wish) (rows : List TableRow) (fs : List ℕ) → AreFitting w 0 (take (length rows) rows) fs → AreFitting w 0 rows fs
whole w rows fs are = subst (λ (l : List TableRow). AreFitting w 0 l fs) (take-length rows) are
