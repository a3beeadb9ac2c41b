use Rattle.std.proofs.Common.{◌≡◌, map}
use Rattle.std.specs.List.{range_with_len}
use Rattle.sdl_drawing.specs.Shown.{gates_shown, gate_of_number}
use Rattle.sdl_drawing.proofs.boxes.boxes_of.Given as goal

abbrev pub invariant-loop-number : goal.invariant-loop-number
invariant-loop-number l = gates_shown l.boxes.items ≡ map gate_of_number (range_with_len 0 l.number)
