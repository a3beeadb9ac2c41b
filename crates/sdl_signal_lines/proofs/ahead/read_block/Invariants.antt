use Rattle.std.proofs.Common.{◌-◌, length, ◌<◌}
use Rattle.std.specs.Io.KnownBytes.{Keeps}
use Rattle.sdl_signal_lines.proofs.ahead.read_block.Given as goal

abbrev pub invariant-loop-n : goal.invariant-loop-n
invariant-loop-n g l = (0 < length l.block) × Keeps (g.R.Read.remaining l.fn.input) (g.R.Read.remaining l.input)

abbrev pub decreases-loop-n : goal.decreases-loop-n
decreases-loop-n g l = 1000 - l.tries
