use Rattle.std.proofs.KnownBytes.{Appends-trans}
use Rattle.sdl_svg.proofs.Texts.{on_ok}
use Rattle.sdl_svg.proofs.front.write_view.Goals as goal

pub returns : goal.returns
returns g c = on_ok c.write_numbers.result _ _ (λ last. Appends-trans _ _ _ _ _ c.in_ok-write_text.ensures last) c.write_numbers.ensures
