use Rattle.std.proofs.Common.{refl}
use Rattle.sdl_svg.proofs.Texts.{on_ok}
use Rattle.sdl_drawing_text.proofs.EdgeLemmas.{dot_is}
use Rattle.sdl_drawing_text.proofs.dot.write_dot.Goals as goal

pub returns : goal.returns
returns g c =
    on_ok c.write_text.result _ _
    (λ last. dot_is c.args.structure.now c.channels.result.now _ _ _ _ _ _ c.channels.ensures refl
    c.in_ok-write_front.ensures c.in_ok-write_system.ensures c.in_ok-write_edges.ensures last)
    c.write_text.ensures
