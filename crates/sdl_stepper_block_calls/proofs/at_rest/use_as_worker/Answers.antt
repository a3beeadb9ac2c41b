use Rattle.std.proofs.Common.{ap, sym, subst}
use Rattle.std.specs.List.{All}
use Rattle.std.proofs.lemmas.List.Elements.{All-nil}
use Rattle.sdl_transition.specs.Rules.{block_rules}
use Rattle.sdl_instances.specs.Core.{IsLegalIn}
use Rattle.sdl_instances.specs.CoreOf.{CanFire}
use Rattle.sdl_instances.proofs.Systems.{sound_there}
use Rattle.sdl_block.specs.Workers.{system_around}
use Rattle.sdl_stepper_block_calls.proofs.at_rest.use_as_worker.Goals as goal

pub begin_worker-end-requires-clause-worker : goal.begin_worker-end-requires-clause-worker
begin_worker-end-requires-clause-worker g c =
    let may = g.S.Agents.may in
    let rows = c.args.site.now.place.routes.now in
    record {
      parts = subst (λ p. CanFire may p) (sym c.new-worker.ensures.parts) c.requires.parts;
      sound = sound_there may _ _ rows _ _ (ap (λ w. w.core) c.new-worker.ensures.worker) (ap (λ p. block_rules p) c.new-worker.ensures.parts) c.requires.sound;
      legal = subst (All (IsLegalIn (system_around c.new-worker.result rows))) (sym (ap (λ w. w.outgoing) c.new-worker.ensures.worker)) (All-nil (IsLegalIn (system_around c.new-worker.result rows)));
    }
