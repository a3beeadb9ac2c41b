use Rattle.std.proofs.KnownBytes.{Appends-trans}
use Rattle.sdl_svg.proofs.Texts.{on_ok}
use Rattle.sdl_chart_svg.proofs.lifelines.write_lifeline.Goals as goal

pub returns : goal.returns
returns g c = on_ok c.write_waiting.result _ _ (λ last. Appends-trans _ _ _ _ _ c.in_ok-write_stem.ensures last) c.write_waiting.ensures
