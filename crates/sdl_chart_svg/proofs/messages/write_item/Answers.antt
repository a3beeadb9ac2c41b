use Rattle.std.proofs.Common.{append_assoc}
use Rattle.sdl_chart_svg.proofs.messages.write_item.Goals as goal

pub returns : goal.returns
returns g c = let written = simp (c.class_of-class.ensures) at c.write.ensures.bytes in simp append_assoc written
