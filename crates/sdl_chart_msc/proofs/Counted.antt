-- A message's number tells its output.
use Rattle.std.proofs.Common.{◌≡◌, ℕ, zero, suc, ◌+◌, ◌<◌, List, [], ◌∷◌, ◌++◌, Option, None, Some, length, length-append, take, flat_map, slice_get, slice_index_or, ap, sym, ◌∙◌, subst, add-zero, arith}
use Rattle.std.proofs.lemmas.Option.{slice_get_past, slice_get_within, none-some, same_Some}
use Rattle.sdl_signal.specs.declared.values.Item.{Item}
use Rattle.sdl_signal.specs.declared.values.Origin.{Origin}
use Rattle.sdl_chart_page.specs.declared.page.Row.{Row}
use Rattle.sdl_chart_page.specs.declared.page.Spot.{Spot}
use Rattle.sdl_chart_page.specs.Entries.{Entry}
use Rattle.sdl_chart_page.specs.Pages.{Sheet, IsPageOf, IsSpot, spot_at}
use Rattle.sdl_chart_msc.specs.Messages.{event_items, row_items, row_sends, sent_above, above_in, number_by, IsSentAs}

left : (xs ys : List Item) (j : ℕ) (i : Item) → slice_get xs j ≡ Some i → slice_get (xs ++ ys) j ≡ Some i
left [] ys j i h = absurd (none-some i (sym (slice_get_past [] j (omega arith)) ∙ h))
left (x ∷ xs) ys zero i h = h
left (x ∷ xs) ys (suc j) i h = left xs ys j i h

right : (xs ys : List Item) (j : ℕ) → slice_get (xs ++ ys) (length xs + j) ≡ slice_get ys j
right [] ys j = let e : 0 + j ≡ j = omega arith in ap (slice_get ys) e
right (x ∷ xs) ys j = let e : suc (length xs) + j ≡ suc (length xs + j) = omega arith in ap (slice_get (x ∷ (xs ++ ys))) e ∙ right xs ys j

module _ (lists : List (List Entry)) where
  -- an item of a row stands so far behind those of the rows above
  sent_there : (n j : ℕ) (rows : List Row) (r : Row) (i : Item) → slice_get rows n ≡ Some r → slice_get (row_items lists r) j ≡ Some i
      → slice_get (flat_map (row_items lists) rows) (length (flat_map (row_items lists) (take n rows)) + j) ≡ Some i
  sent_there n j [] r i at h = absurd (none-some r (sym (slice_get_past [] n (omega arith)) ∙ at))
  sent_there zero j (x ∷ xs) r i at h =
      let e : 0 + j ≡ j = omega arith in
      ap (slice_get (row_items lists x ++ flat_map (row_items lists) xs)) e
      ∙ left (row_items lists x) (flat_map (row_items lists) xs) j i (subst (λ (q : Row). slice_get (row_items lists q) j ≡ Some i) (sym (same_Some x r at)) h)
  sent_there (suc n) j (x ∷ xs) r i at h =
      let rest = flat_map (row_items lists) (take n xs) in
      let e : length (row_items lists x ++ rest) + j ≡ length (row_items lists x) + (length rest + j) = omega (arith, length-append (row_items lists x) rest) in
      ap (slice_get (row_items lists x ++ flat_map (row_items lists) xs)) e ∙ (right (row_items lists x) (flat_map (row_items lists) xs) (length rest + j) ∙ sent_there n j xs r i at h)

  -- how many are sent above a row
  above_at : (start n : ℕ) (rows : List Row) → n < length rows → slice_index_or (sent_above (row_sends lists) start rows) n 0 ≡ start + length (flat_map (row_items lists) (take n rows))
  above_at start n [] less = absurd (omega arith)
  above_at start zero (x ∷ xs) less = sym (add-zero start)
  above_at start (suc n) (x ∷ xs) less =
      let rest = flat_map (row_items lists) (take n xs) in
      let e : (start + length (row_items lists x)) + length rest ≡ start + length (row_items lists x ++ rest) = omega (arith, length-append (row_items lists x) rest) in
      above_at (start + row_sends lists x) n xs (omega arith) ∙ e

  pub counted : (page : Sheet) (o : Origin) (s : Spot) → IsPageOf lists page → spot_at page o ≡ Some s → IsSentAs lists page.rows (number_by page (above_in lists page) o) o
  counted page o s is at =
      let spot : IsSpot lists page.rows o s = is.spots o s at in
      let there : s.row < length page.rows = slice_get_within page.rows s.row spot.row spot.stands in
      let above = above_at 0 s.row page.rows there in
      let before = length (flat_map (row_items lists) (take s.row page.rows)) in
      let number : slice_index_or (above_in lists page) s.row 0 + s.among + 1 ≡ (before + s.among) + 1 = omega (arith, above) in
      let sends : slice_get (row_items lists spot.row) s.among ≡ Some spot.item = ap (λ (e : Option Entry). slice_get (event_items e) s.among) spot.shows ∙ spot.sends in
      record {
        item = spot.item;
        place = before + s.among;
        counted = ap (λ (q : Option Spot). elim q [ None ↦ 0 | Some t ↦ slice_index_or (above_in lists page) t.row 0 + t.among + 1 ]) at ∙ number;
        sent = sent_there s.row s.among page.rows spot.row spot.item spot.stands sends;
        same = spot.same;
      }
