use Rattle.std.proofs.Common.{ap, ◌∙◌, ◌++◌, ◌∷◌, [], List}
use Rattle.sdl_instances_log.specs.declared.event.Event.{Event}
use Rattle.sdl_instances_log.specs.declared.event.Event.TheVariants as event
use Rattle.sdl_instances_log.proofs.Counting.{noted}
use Rattle.sdl_instances_log.proofs.unstored.UnstoredLogStore.discard.Goals as goal

pub invariant_of-self : goal.invariant_of-self
invariant_of-self c =
    let u = c.self.inside in
    noted u.events u.history c.and_discarded.result (event.Discarded c.args.item c.args.cause) c.self.invariant
    (c.and_discarded.ensures ∙ ap (λ (l : List Event). l ++ event.Discarded c.args.item c.args.cause ∷ []) c.replace-before.ensures.value)
