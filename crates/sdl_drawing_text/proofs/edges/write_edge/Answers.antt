use Rattle.sdl_svg.proofs.Texts.{on_ok}
use Rattle.sdl_drawing_text.proofs.EdgeLemmas.{edge_is}
use Rattle.sdl_drawing_text.proofs.edges.write_edge.Goals as goal

pub returns : goal.returns
returns g c =
    on_ok c.write_arrows.result _ _
    (λ last. edge_is c.args.structure.now c.args.channel.now c.signals-forth.result.now c.signals-back.result.now _ _ _ _ _ c.signals-forth.ensures c.signals-back.ensures
    c.in_ok-write_front.ensures c.in_ok-write_list.ensures c.in_ok-write_list-2.ensures last)
    c.write_arrows.ensures
