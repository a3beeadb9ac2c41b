use Rattle.std.proofs.Common.{◌≡◌, ◌++◌, map}
use Rattle.std.specs.List.{range_with_len}
use Rattle.sdl_drawing.specs.Shown.{agents_shown, block_agent}
use Rattle.sdl_drawing.proofs.frames.add_blocks.Given as goal

abbrev pub invariant-loop-number : goal.invariant-loop-number
invariant-loop-number l = agents_shown l.frames.items ≡ agents_shown l.fn.frames.items ++ map block_agent (range_with_len 0 l.number)
