use Rattle.std.proofs.Common.{◌≡◌, ◌-◌, ◌≤◌, ◌++◌, length, take}
use Rattle.sdl_drawing.specs.Shown.{signals_shown}
use Rattle.sdl_drawing.proofs.rows.add_rows.Given as goal

abbrev pub invariant-loop-from : goal.invariant-loop-from
invariant-loop-from l =
    (l.from ≤ length l.signals)
    × (signals_shown l.structure l.rows.items ≡ signals_shown l.structure l.fn.rows.items ++ take l.from l.signals)

abbrev pub decreases-loop-from : goal.decreases-loop-from
decreases-loop-from l = length l.signals - l.from
