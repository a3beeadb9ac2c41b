use Rattle.std.proofs.Common.{◌-◌, length}
use Rattle.sdl_drawing_text.proofs.edges.+write_list.Given as goal

abbrev pub decreases-write_list : goal.decreases-write_list
decreases-write_list g l = length l.signals.now - l.from
