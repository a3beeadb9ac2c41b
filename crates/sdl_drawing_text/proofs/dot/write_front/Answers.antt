use Rattle.std.proofs.KnownBytes.{Appends-trans}
use Rattle.sdl_svg.proofs.Texts.{on_ok}
use Rattle.sdl_drawing_text.proofs.dot.write_front.Goals as goal

pub returns : goal.returns
returns g c =
    on_ok c.write_look.result _ _ (λ last. Appends-trans _ _ _ _ _ c.in_ok-write_head.ensures last) c.write_look.ensures
