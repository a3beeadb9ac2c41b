use Rattle.std.proofs.KnownBytes.{Appends-trans}
use Rattle.sdl_svg.proofs.Texts.{on_ok}
use Rattle.sdl_drawing_text.proofs.edges.write_front.Goals as goal

pub returns : goal.returns
returns g c = on_ok c.write_name.result _ _ (λ last. Appends-trans _ _ _ _ _ c.in_ok-write_ends.ensures last) c.write_name.ensures
