use Rattle.std.proofs.Common.{sym, subst}
use Rattle.std.specs.List.{All}
use Rattle.sdl_transition.specs.Bound.{AreOneSystem}
use Rattle.sdl_transition.specs.Index.{IsIndexed}
use Rattle.sdl_transition.specs.Rules.{block_rules}
use Rattle.sdl_transition.specs.Transitions.{IsAllowedBehaviour}
use Rattle.sdl_instances.specs.Core.{IsBoundIn, signals_of, sets_of}
use Rattle.sdl_stepper_block_calls.proofs.runner.are_stored.Goals as goal

pub parts_are_bound-requires : goal.parts_are_bound-requires
parts_are_bound-requires g c =
    subst (λ l. AreOneSystem g.S.Agents.may c.args.checked.now c.args.routes.now l) (sym c.as_slice.ensures.value) c.requires

pub returns : goal.returns
returns g c =
    let e = c.as_slice.ensures.value in
    λ i d lt. record {
      bound = (subst (λ l. All (λ p. IsBoundIn (signals_of c.args.checked.now) (sets_of c.args.checked.now) (block_rules p) p.block) l) e c.parts_are_bound.ensures.bound) i d lt;
      fires = record {
        allowed = (subst (λ l. All (λ p. All (IsAllowedBehaviour g.S.Agents.may) p.behaviours.items) l) e c.parts_are_bound.ensures.allowed) i d lt;
        indexed = (subst (λ l. All (λ p. IsIndexed p) l) e c.parts_are_bound.ensures.indexed) i d lt;
      };
    }
