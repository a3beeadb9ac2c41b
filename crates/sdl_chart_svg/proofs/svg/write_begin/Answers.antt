use Rattle.std.proofs.KnownBytes.{Appends-trans}
use Rattle.sdl_svg.proofs.Texts.{on_ok}
use Rattle.sdl_chart_svg.proofs.svg.write_begin.Goals as goal

pub returns : goal.returns
returns g c = on_ok c.write_frame.result _ _ (λ last. Appends-trans _ _ _ _ _ c.in_ok-write_front.ensures last) (simp (c.saturating_sub.ensures, c.saturating_sub-2.ensures) at c.write_frame.ensures)
