use Rattle.std.proofs.Common.{get_or}
use Rattle.std.proofs.lemmas.Result.{IfOk-weaker}
use Rattle.sdl_graph_binding.specs.Transitions.{use_meant, use_made}
use Rattle.sdl_graph_binding.proofs.Lists.{first_and_rest, uses_on}
use Rattle.sdl_graph_binding.proofs.set_behaviour.+with_uses.Goals as goal

pub returns-in_ok-with_use-in-len1-up-clause-uses : goal.returns-in_ok-with_use-in-len1-up-clause-uses
returns-in_ok-with_use-in-len1-up-clause-uses g t c =
    let uses = c.args.uses.now in
    IfOk-weaker c.with_uses.result _ _
    (λ b more. uses_on use_made use_meant b.uses.items c.in_ok-with_use-in-len1-up.field-0.uses.items c.args.behaviour.uses.items (get_or uses 0 _) uses _
    more c.in_ok-with_use-in-len1-up.ensures.added (first_and_rest uses _ c.in-len1-up.len_at_least))
    c.with_uses.ensures.uses
