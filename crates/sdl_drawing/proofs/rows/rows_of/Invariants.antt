use Rattle.std.proofs.Common.{◌≡◌, take}
use Rattle.sdl_drawing.specs.Shown.{signals_shown, listed_signals}
use Rattle.sdl_drawing.proofs.rows.rows_of.Given as goal

abbrev pub invariant-loop-line : goal.invariant-loop-line
invariant-loop-line l = signals_shown l.structure l.rows.items ≡ listed_signals l.structure (take l.line-index l.lines)
