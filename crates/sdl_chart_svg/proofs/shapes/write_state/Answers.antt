use Rattle.std.proofs.Common.{append_assoc}
use Rattle.sdl_chart_svg.proofs.shapes.write_state.Goals as goal

pub returns : goal.returns
returns g c = let written = simp (append_assoc, c.saturating_sub-level.ensures) at c.write.ensures.bytes in simp append_assoc written
