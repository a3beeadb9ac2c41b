use Rattle.sdl_drawing_text.specs.Dot.{gate_line}
use Rattle.sdl_svg.proofs.Texts.{texts_next, texts_all}
use Rattle.sdl_drawing_text.proofs.clusters.write_gates.Goals as goal

pub loop-number-preserved : goal.loop-number-preserved
loop-number-preserved g c =
    texts_next (gate_line c.args.agent) c.gates-gates.result.now c.loop-number.number c.index-gates-number.result _ _ _
    c.loop-number-test.true c.index-gates-number.is c.loop-number.invariant c.in_ok-write_gate_in.ensures

pub returns : goal.returns
returns g c =
    texts_all (gate_line c.args.agent) c.gates-gates.result.now c.args.structure.now.gates c.loop-number.number _ _
    c.gates-gates.ensures c.loop-number-test.false c.loop-number.invariant
