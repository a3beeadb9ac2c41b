use Rattle.std.proofs.Common.{◌+◌, List, [], ◌∷◌, ◌++◌, take, sym, ap, ◌∙◌, subst}
use Rattle.std.proofs.lemmas.List.{take_more, take_all}
use Rattle.sdl_structure_parts.specs.declared.parts.Channel.{Channel}
use Rattle.sdl_drawing_text.specs.Written.{Adds}
use Rattle.sdl_drawing_text.specs.Dot.{AreEdges}
use Rattle.sdl_drawing_text.proofs.EdgeLemmas.{edges_none, edges_next}
use Rattle.sdl_drawing_text.proofs.edges.write_edges.Goals as goal

pub loop-channel-init : goal.loop-channel-init
loop-channel-init g c = edges_none c.args.structure.now (g.W.Write.contents c.args.output.now)

pub loop-channel-preserved : goal.loop-channel-preserved
loop-channel-preserved g c =
    let channels = c.args.channels.now in
    let i = c.loop-channel.channel-index in
    let channel = c.channel-item.result in
    edges_next c.args.structure.now (take i channels) (take (i + 1) channels) channel _ _ _
    (take_more channels i channel c.loop-channel-test.true ∙ ap (λ (x : Channel). take i channels ++ x ∷ []) (sym c.channel-item.is))
    c.loop-channel.invariant c.in_ok-write_edge.ensures

pub returns : goal.returns
returns g c =
    subst (λ (l : List Channel). Adds (AreEdges c.args.structure.now l) (g.W.Write.contents c.args.output.now) (g.W.Write.contents c.loop-channel.output))
    (take_all c.loop-channel.channel-index c.args.channels.now c.loop-channel-test.false) c.loop-channel.invariant
