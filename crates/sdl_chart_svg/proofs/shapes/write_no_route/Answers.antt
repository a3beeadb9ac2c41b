use Rattle.std.proofs.KnownBytes.{Appends-trans}
use Rattle.sdl_svg.proofs.Texts.{on_ok}
use Rattle.sdl_chart_svg.proofs.shapes.write_no_route.Goals as goal

pub returns : goal.returns
returns g c = on_ok c.write_disc.result _ _ (λ last. Appends-trans _ _ _ _ _ c.in_ok-write_line.ensures last) c.write_disc.ensures
