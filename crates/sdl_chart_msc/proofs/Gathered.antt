-- What is gathered row by row, and place by place.
use Rattle.std.proofs.Common.{◌≡◌, ℕ, zero, suc, ◌+◌, ◌<◌, List, [], ◌∷◌, ◌++◌, Option, None, Some, length, take, get_or, refl, ap, sym, subst, ◌∙◌, append_assoc, append-nil, add-one, arith}
use Rattle.std.specs.Io.KnownBytes.{Appends}
use Rattle.std.proofs.KnownBytes.{Appends-trans}
use Rattle.sdl_signal.specs.declared.values.Origin.{Origin}
use Rattle.sdl_chart_page.specs.declared.page.Row.{Row}
use Rattle.sdl_chart_text.specs.Rows.{gathered_from}
use Rattle.sdl_chart_text.proofs.Written.{gathered_more}
use Rattle.sdl_chart_msc.specs.declared.messages.Fate.{Fate}
use Rattle.sdl_chart_msc.specs.declared.places.Place.{Place}
use Rattle.sdl_chart_msc.specs.Messages.{sent_above, sent_after, settled, fates_after}
use Rattle.sdl_chart_msc.specs.Lines.{lines_after, last_of}

module _ (sends : Row → ℕ) where
  above_take : (start n : ℕ) (rows : List Row) → n < length rows → sent_above sends start (take (suc n) rows) ≡ sent_above sends start (take n rows) ++ sent_after sends start (take n rows) ∷ []
  above_take start n [] less = absurd (omega arith)
  above_take start zero (x ∷ xs) less = refl
  above_take start (suc n) (x ∷ xs) less = ap (λ (l : List ℕ). start ∷ l) (above_take (start + sends x) n xs (omega arith))

  after_take : (start n : ℕ) (rows : List Row) (r : Row) → n < length rows → sent_after sends start (take (suc n) rows) ≡ sent_after sends start (take n rows) + sends (get_or rows n r)
  after_take start n [] r less = absurd (omega arith)
  after_take start zero (x ∷ xs) r less = refl
  after_take start (suc n) (x ∷ xs) r less = after_take (start + sends x) n xs r (omega arith)

  -- how many items are sent above the rows so far, and in one more
  above_more : (start n : ℕ) (rows : List Row) → n < length rows → sent_above sends start (take (n + 1) rows) ≡ sent_above sends start (take n rows) ++ sent_after sends start (take n rows) ∷ []
  above_more start n rows less = ap (λ (m : ℕ). sent_above sends start (take m rows)) (add-one n) ∙ above_take start n rows less

  pub above_step : (n : ℕ) (rows : List Row) (old new : List ℕ) (sent : ℕ) → n < length rows → old ≡ sent_above sends 0 (take n rows) → sent ≡ sent_after sends 0 (take n rows) → new ≡ old ++ sent ∷ []
      → new ≡ sent_above sends 0 (take (n + 1) rows)
  above_step n rows old new sent less so is at =
      at ∙ (ap (λ (l : List ℕ). l ++ sent ∷ []) so ∙ (ap (λ (m : ℕ). sent_above sends 0 (take n rows) ++ m ∷ []) is ∙ sym (above_more 0 n rows less)))

  after_more : (start n : ℕ) (rows : List Row) (r : Row) → n < length rows → sent_after sends start (take (n + 1) rows) ≡ sent_after sends start (take n rows) + sends (get_or rows n r)
  after_more start n rows r less = ap (λ (m : ℕ). sent_after sends start (take m rows)) (add-one n) ∙ after_take start n rows r less

  pub after_step : (n : ℕ) (rows : List Row) (r : Row) (old new more : ℕ) → n < length rows → old ≡ sent_after sends 0 (take n rows) → new ≡ old + more → more ≡ sends (get_or rows n r)
      → new ≡ sent_after sends 0 (take (n + 1) rows)
  after_step n rows r old new more less so at is =
      at ∙ (ap (λ (m : ℕ). m + more) so ∙ (ap (λ (m : ℕ). sent_after sends 0 (take n rows) + m) is ∙ sym (after_more 0 n rows r less)))

module _ (tells : Row → Option (Origin × Fate)) (number : Origin → ℕ) where
  fates_take : (fates : List Fate) (n : ℕ) (rows : List Row) (r : Row) → n < length rows → fates_after tells number fates (take (suc n) rows) ≡ settled number (fates_after tells number fates (take n rows)) (tells (get_or rows n r))
  fates_take fates n [] r less = absurd (omega arith)
  fates_take fates zero (x ∷ xs) r less = refl
  fates_take fates (suc n) (x ∷ xs) r less = fates_take (settled number fates (tells x)) n xs r (omega arith)

  -- what became of the messages after the rows so far, and after one more
  pub fates_more : (fates : List Fate) (n : ℕ) (rows : List Row) (r : Row) → n < length rows → fates_after tells number fates (take (n + 1) rows) ≡ settled number (fates_after tells number fates (take n rows)) (tells (get_or rows n r))
  fates_more fates n rows r less = ap (λ (m : ℕ). fates_after tells number fates (take m rows)) (add-one n) ∙ fates_take fates n rows r less

module _ (places : ℕ → Row → List Place) where
  -- the places of the rows so far, and of one more
  pub places_step : (n : ℕ) (rows : List Row) (r : Row) (old new : List Place) → n < length rows → old ≡ gathered_from places 0 (take n rows) → new ≡ old ++ places n (get_or rows n r)
      → new ≡ gathered_from places 0 (take (n + 1) rows)
  places_step n rows r old new less so at =
      let number : n ≡ 0 + n = omega arith in
      at ∙ (ap (λ (ps : List Place). ps ++ places n (get_or rows n r)) so
      ∙ (ap (λ (m : ℕ). gathered_from places 0 (take n rows) ++ places m (get_or rows n r)) number ∙ sym (gathered_more places 0 n rows r less)))

module _ (line : Option Place → Place → List ℕ) where
  lines_take : (before : Option Place) (n : ℕ) (ps : List Place) (p : Place) → n < length ps → lines_after line before (take (suc n) ps) ≡ lines_after line before (take n ps) ++ line (last_of before (take n ps)) (get_or ps n p)
  lines_take before n [] p less = absurd (omega arith)
  lines_take before zero (x ∷ xs) p less = append-nil (line before x)
  lines_take before (suc n) (x ∷ xs) p less =
      ap (λ (l : List ℕ). line before x ++ l) (lines_take (Some x) n xs p (omega arith))
      ∙ sym (append_assoc (line before x) (lines_after line (Some x) (take n xs)) (line (last_of (Some x) (take n xs)) (get_or xs n p)))

  lines_more : (before : Option Place) (n : ℕ) (ps : List Place) (p : Place) → n < length ps → lines_after line before (take (n + 1) ps) ≡ lines_after line before (take n ps) ++ line (last_of before (take n ps)) (get_or ps n p)
  lines_more before n ps p less = ap (λ (m : ℕ). lines_after line before (take m ps)) (add-one n) ∙ lines_take before n ps p less

  -- the lines of the places so far, and of one more behind the last of them
  pub lines_step : (n : ℕ) (ps : List Place) (p : Place) (before : Option Place) (a b c : Option (List ℕ)) → n < length ps → before ≡ last_of None (take n ps)
      → Appends a b (lines_after line None (take n ps)) → Appends b c (line before (get_or ps n p)) → Appends a c (lines_after line None (take (n + 1) ps))
  lines_step n ps p before a b c less last so more =
      subst (Appends a c) (ap (λ (q : Option Place). lines_after line None (take n ps) ++ line q (get_or ps n p)) last ∙ sym (lines_more None n ps p less))
      (Appends-trans a b c (lines_after line None (take n ps)) (line before (get_or ps n p)) so more)

last_take : (before : Option Place) (n : ℕ) (ps : List Place) (p : Place) → n < length ps → last_of before (take (suc n) ps) ≡ Some (get_or ps n p)
last_take before n [] p less = absurd (omega arith)
last_take before zero (x ∷ xs) p less = refl
last_take before (suc n) (x ∷ xs) p less = last_take (Some x) n xs p (omega arith)

pub last_more : (before : Option Place) (n : ℕ) (ps : List Place) (p : Place) → n < length ps → last_of before (take (n + 1) ps) ≡ Some (get_or ps n p)
last_more before n ps p less = ap (λ (m : ℕ). last_of before (take m ps)) (add-one n) ∙ last_take before n ps p less
