-- The signals in the rows of a list, row by row.
use Rattle.std.proofs.Common.{◌≡◌, ℕ, ◌+◌, ◌-◌, ◌≤◌, List, [], ◌∷◌, ◌++◌, take, drop, slice_range, flat_map, sym, ap, ◌∙◌, subst, append_assoc, append-nil, arith}
use Rattle.std.proofs.lemmas.List.Concat.{flat_map-append}
use Rattle.std.proofs.Math.Seq.{take-add}
use Rattle.sdl_signal.specs.declared.ids.SignalId.{SignalId}
use Rattle.sdl_structure_parts.specs.Structure.{Structure}
use Rattle.sdl_drawing.specs.declared.shapes.ListRow.{ListRow}
use Rattle.sdl_drawing.specs.Shown.{path_signals, row_signals, signals_shown}

-- the elements up to a place, and those from there up to another
pub part_more : {X : Type 0} (xs : List X) (from end : ℕ) → from ≤ end → take from xs ++ slice_range xs from end ≡ take end xs
part_more xs from end h =
    let whole : from + (end - from) ≡ end = omega arith in
    sym (take-add from (end - from) xs) ∙ ap (λ (n : ℕ). take n xs) whole

-- one more row
pub row_more : (s : Structure) (before : List SignalId) (rows new : List ListRow) (row : ListRow) (signals : List SignalId)
    → signals_shown s rows ≡ before ++ take row.from signals
    → signals ≡ path_signals s row.channel row.direction
    → row.from ≤ row.end
    → new ≡ rows ++ row ∷ []
    → signals_shown s new ≡ before ++ take row.end signals
row_more s before rows new row signals so_far same ahead e =
    ap (signals_shown s) e
    ∙ (flat_map-append (row_signals s) rows (row ∷ [])
    ∙ (ap (λ (l : List SignalId). signals_shown s rows ++ l) (append-nil (row_signals s row))
    ∙ (ap (λ (l : List SignalId). l ++ row_signals s row) so_far
    ∙ (ap (λ (l : List SignalId). (before ++ take row.from signals) ++ slice_range l row.from row.end) (sym same)
    ∙ (append_assoc before (take row.from signals) (slice_range signals row.from row.end)
    ∙ ap (λ (l : List SignalId). before ++ l) (part_more signals row.from row.end ahead))))))
