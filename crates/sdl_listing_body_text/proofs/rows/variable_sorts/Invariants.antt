use Rattle.std.proofs.Common.{◌≡◌, map, take}
use Rattle.sdl_listing_body_text.proofs.rows.variable_sorts.Given as goal

abbrev pub invariant-loop-variable : goal.invariant-loop-variable
invariant-loop-variable l = l.sorts.items ≡ map (λ x. x.sort) (take l.variable-index l.variable-items)
