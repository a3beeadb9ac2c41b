use Rattle.sdl_listing_file.specs.Uses.{use_of_gate}
use Rattle.sdl_listing_file.proofs.UseLemmas.{use_more, use_all}
use Rattle.sdl_listing_file.proofs.uses.add_gates.Goals as goal

pub loop-number-preserved : goal.loop-number-preserved
loop-number-preserved c = use_more (use_of_gate c.args.set) c.args.gates.now c.loop-number.number c.index-gates-number.result c.args.uses.now.items c.loop-number.uses.items c.add_gate.new.uses.items c.loop-number-test.true c.index-gates-number.is c.loop-number.invariant c.in_ok-add_gate.ensures

pub returns : goal.returns
returns c = use_all (use_of_gate c.args.set) c.args.gates.now c.loop-number.number c.args.uses.now.items c.loop-number.uses.items c.loop-number-test.false c.loop-number.invariant
