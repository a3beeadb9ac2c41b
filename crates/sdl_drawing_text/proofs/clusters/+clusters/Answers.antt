use Rattle.std.proofs.Common.{◌-◌, ℕ, List, sym, subst, arith}
use Rattle.std.specs.Io.KnownBytes.{Appends}
use Rattle.std.proofs.KnownBytes.{Appends-nil, Appends-trans}
use Rattle.sdl_drawing_text.specs.Dot.{block_line, blocks_dot}
use Rattle.sdl_svg.proofs.Texts.{on_ok, texts_next, texts_all}
use Rattle.sdl_drawing_text.proofs.Blocks.{blocks_none, blocks_some}
use Rattle.sdl_drawing_text.proofs.clusters.+clusters.Goals as goal

pub write_blocks-returns-then-levels-eq0 : goal.write_blocks-returns-then-levels-eq0
write_blocks-returns-then-levels-eq0 g t c =
    subst (λ (l : List ℕ). Appends (g.W.Write.contents c.args.output.now) (g.W.Write.contents c.args.output.now) l)
    (sym (blocks_none c.args.levels c.args.structure.now c.args.around c.if-levels-eq0.true)) (Appends-nil _)

pub write_blocks-loop-number-preserved : goal.write_blocks-loop-number-preserved
write_blocks-loop-number-preserved g t c =
    let s = c.args.structure.now in
    let inner = c.args.levels - 1 in
    texts_next (block_line s c.args.around (blocks_dot inner s)) c.blocks-blocks.result.now c.loop-number.number c.index-blocks-number.result _ _ _
    c.loop-number-test.true c.index-blocks-number.is c.loop-number.invariant c.in_ok-write_block_in.ensures

pub write_blocks-returns : goal.write_blocks-returns
write_blocks-returns g t c =
    let s = c.args.structure.now in
    let inner = c.args.levels - 1 in
    subst (λ (l : List ℕ). Appends (g.W.Write.contents c.args.output.now) (g.W.Write.contents c.loop-number.output) l)
    (blocks_some c.args.levels s c.args.around (omega arith))
    (texts_all (block_line s c.args.around (blocks_dot inner s)) c.blocks-blocks.result.now s.blocks c.loop-number.number _ _ c.blocks-blocks.ensures c.loop-number-test.false c.loop-number.invariant)

pub write_block-returns : goal.write_block-returns
write_block-returns g t c =
    let part_1 = Appends-trans _ _ _ _ _ c.in_ok-open_block.ensures c.in_ok-write_gates.ensures in
    let part_2 = Appends-trans _ _ _ _ _ part_1 c.in_ok-write_sets.ensures in
    let part_3 = Appends-trans _ _ _ _ _ part_2 c.in_ok-write_blocks.ensures in
    on_ok c.close_cluster.result _ _ (λ last. Appends-trans _ _ _ _ _ part_3 last) c.close_cluster.ensures
