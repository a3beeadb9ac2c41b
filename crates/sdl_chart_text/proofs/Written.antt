-- What is written one after another.
use Rattle.std.proofs.Common.{◌≡◌, ℕ, zero, suc, ◌+◌, ◌<◌, List, [], ◌∷◌, ◌++◌, length, take, get_or, ap, sym, ◌∙◌, append_assoc, append-nil, add-zero, add-one, arith}
use Rattle.sdl_chart_page.specs.declared.page.Row.{Row}
use Rattle.sdl_chart_text.specs.Rows.{gathered_from}
pub use Rattle.sdl_chart_page.proofs.Texts.{on_ok}

module _ {X : Type 0} (give : ℕ → Row → List X) where
  gathered_take : (start n : ℕ) (rows : List Row) (r : Row) → n < length rows → gathered_from give start (take (suc n) rows) ≡ gathered_from give start (take n rows) ++ give (start + n) (get_or rows n r)
  gathered_take start n [] r less = absurd (omega arith)
  gathered_take start zero (x ∷ xs) r less = append-nil (give start x) ∙ ap (λ (m : ℕ). give m x) (sym (add-zero start))
  gathered_take start (suc n) (x ∷ xs) r less =
      let number : (start + 1) + n ≡ start + suc n = omega arith in
      ap (λ (l : List X). give start x ++ l) (gathered_take (start + 1) n xs r (omega arith))
      ∙ (sym (append_assoc (give start x) (gathered_from give (start + 1) (take n xs)) (give ((start + 1) + n) (get_or xs n r)))
      ∙ ap (λ (m : ℕ). (give start x ++ gathered_from give (start + 1) (take n xs)) ++ give m (get_or xs n r)) number)

  -- what the first rows give, and one more
  pub gathered_more : (start n : ℕ) (rows : List Row) (r : Row) → n < length rows → gathered_from give start (take (n + 1) rows) ≡ gathered_from give start (take n rows) ++ give (start + n) (get_or rows n r)
  gathered_more start n rows r less = ap (λ (m : ℕ). gathered_from give start (take m rows)) (add-one n) ∙ gathered_take start n rows r less
