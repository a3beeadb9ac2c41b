use Rattle.sdl_drawing_text.specs.Dot.{set_line}
use Rattle.sdl_svg.proofs.Texts.{texts_next, texts_all}
use Rattle.sdl_drawing_text.proofs.clusters.write_sets.Goals as goal

pub loop-number-preserved : goal.loop-number-preserved
loop-number-preserved g c =
    texts_next (set_line c.args.structure.now c.args.block) c.sets-sets.result.now c.loop-number.number c.index-sets-number.result _ _ _
    c.loop-number-test.true c.index-sets-number.is c.loop-number.invariant c.in_ok-write_set_in.ensures

pub returns : goal.returns
returns g c =
    texts_all (set_line c.args.structure.now c.args.block) c.sets-sets.result.now c.args.structure.now.sets c.loop-number.number _ _
    c.sets-sets.ensures c.loop-number-test.false c.loop-number.invariant
