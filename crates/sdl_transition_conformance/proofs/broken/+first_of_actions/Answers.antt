use Rattle.std.proofs.Common.{subst}
use Rattle.sdl_transition_behaviour.specs.Offers.{IsActionOf}
use Rattle.sdl_transition_conformance.proofs.Breaches.{if_behind_first}
use Rattle.sdl_transition_conformance.proofs.broken.+first_of_actions.Goals as goal

-- the first action that is not offered is one of the rest
pub returns-then-is_action_of-clause-some : goal.returns-then-is_action_of-clause-some
returns-then-is_action_of-clause-some t c =
    if_behind_first c.args.offer.now c.args.actions.now c.action-item.result c.first_of_actions.result c.in-len1-up.len_at_least
    (subst (IsActionOf c.args.offer.now) c.action-item.is (c.is_action_of.ensures.0 c.if-is_action_of.true)) c.first_of_actions.ensures.some
