use Rattle.std.proofs.Common.{append_assoc}
use Rattle.sdl_chart_svg.proofs.lifelines.write_stem.Goals as goal

pub returns : goal.returns
returns g c = let written = simp (append_assoc, c.saturating_sub-height.ensures, c.as_str-over.ensures.value, c.as_str-name.ensures.value, c.dash_of-dash.ensures, c.end_of-end.ensures) at c.write.ensures.bytes in simp append_assoc written
