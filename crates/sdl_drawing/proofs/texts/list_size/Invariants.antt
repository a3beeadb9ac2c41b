use Rattle.std.proofs.Common.{◌-◌, length}
use Rattle.sdl_drawing.proofs.texts.list_size.Given as goal

abbrev pub decreases-loop-from : goal.decreases-loop-from
decreases-loop-from l = length l.signals - l.from
