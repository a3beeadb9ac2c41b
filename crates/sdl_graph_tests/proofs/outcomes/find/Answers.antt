use Rattle.std.proofs.Common.{arith}
use Rattle.sdl_transition.proofs.Places.{first_rules}
use Rattle.sdl_graph_tests.proofs.outcomes.find.Goals as goal

pub start-requires-clause-set : goal.start-requires-clause-set
start-requires-clause-set g c = first_rules c.args.parts.now.behaviours.items c.index.result.now (omega arith) c.index.ensures

pub variables-requires-clause-set : goal.variables-requires-clause-set
variables-requires-clause-set g c = first_rules c.args.parts.now.behaviours.items c.index.result.now (omega arith) c.index.ensures

pub row-requires-clause-set : goal.row-requires-clause-set
row-requires-clause-set g c = first_rules c.args.parts.now.behaviours.items c.index.result.now (omega arith) c.index.ensures

pub row-requires-2-clause-set : goal.row-requires-2-clause-set
row-requires-2-clause-set g c = first_rules c.args.parts.now.behaviours.items c.index.result.now (omega arith) c.index.ensures

pub row-requires-3-clause-set : goal.row-requires-3-clause-set
row-requires-3-clause-set g c = first_rules c.args.parts.now.behaviours.items c.index.result.now (omega arith) c.index.ensures
