use Rattle.std.proofs.Common.{◌≡◌, map}
use Rattle.std.specs.List.{range_with_len}
use Rattle.sdl_drawing.specs.Shown.{channels_shown, channel_of_number}
use Rattle.sdl_drawing.proofs.lines.lines_of.Given as goal

abbrev pub invariant-loop-number : goal.invariant-loop-number
invariant-loop-number l = channels_shown l.lines.items ≡ map channel_of_number (range_with_len 0 l.number)
