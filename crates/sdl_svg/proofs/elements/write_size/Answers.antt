use Rattle.std.proofs.KnownBytes.{Appends-trans}
use Rattle.sdl_svg.proofs.Texts.{on_ok}
use Rattle.sdl_svg.proofs.elements.write_size.Goals as goal

pub returns : goal.returns
returns g c = on_ok c.write_length-2.result _ _ (λ last. Appends-trans _ _ _ _ _ c.in_ok-write_length.ensures last) c.write_length-2.ensures
