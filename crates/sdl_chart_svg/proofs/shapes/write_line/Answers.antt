use Rattle.std.proofs.Common.{append_assoc}
use Rattle.sdl_chart_svg.proofs.shapes.write_line.Goals as goal

pub returns : goal.returns
returns g c = simp append_assoc c.write.ensures.bytes
