use Rattle.std.proofs.Common.{get_or}
use Rattle.std.proofs.lemmas.Result.{IfOk-weaker}
use Rattle.sdl_graph_binding.specs.Transitions.{meant, made_as}
use Rattle.sdl_graph_binding.proofs.Lists.{first_and_rest, uses_on}
use Rattle.sdl_graph_binding.proofs.binding.+with_behaviours.Goals as goal

pub returns-in_ok-more-in-len1-up-clause-sets : goal.returns-in_ok-more-in-len1-up-clause-sets
returns-in_ok-more-in-len1-up-clause-sets g t c =
    let sets = c.args.sets.now in
    IfOk-weaker c.with_behaviours.result _ _
    (λ list next. uses_on (made_as c.args.structure.now) (meant c.args.uses.now) list.items c.in_ok-more-in-len1-up.more.items c.args.made.items
    (get_or sets 0 _) sets _ next c.in_ok-more-in-len1-up.ensures.sets (first_and_rest sets _ c.in-len1-up.len_at_least))
    c.with_behaviours.ensures.sets
