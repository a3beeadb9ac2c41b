use Rattle.std.proofs.lemmas.Result.{IfOk-weaker}
use Rattle.sdl_graph_binding.specs.Transitions.{meant, made_as}
use Rattle.sdl_graph_binding.proofs.Lists.{set_last, taken_last}
use Rattle.sdl_graph_binding.proofs.binding.with_next.Goals as goal

pub returns-clause-sets : goal.returns-clause-sets
returns-clause-sets g c =
    IfOk-weaker c.with_one.result _ _
    (λ list last. set_last (made_as c.args.structure.now) list.items c.args.made.items c.in_ok-behaviour.behaviour (meant c.args.uses.now c.args.set.now)
    last c.in_ok-behaviour.ensures.set)
    c.with_one.ensures

pub returns-clause-taken : goal.returns-clause-taken
returns-clause-taken g c =
    IfOk-weaker c.with_one.result _ _
    (λ list last. taken_last list.items c.args.made.items c.in_ok-behaviour.behaviour c.behaviour_of.new.left.items c.args.left.now.items
    last c.in_ok-behaviour.ensures.taken)
    c.with_one.ensures
