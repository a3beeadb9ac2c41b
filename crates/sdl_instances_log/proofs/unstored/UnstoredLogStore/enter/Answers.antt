use Rattle.std.proofs.Common.{ap, ◌∙◌, ◌++◌, ◌∷◌, [], List}
use Rattle.sdl_instances_log.specs.declared.event.Event.{Event}
use Rattle.sdl_instances_log.specs.declared.event.Event.TheVariants as event
use Rattle.sdl_instances_log.proofs.Counting.{noted}
use Rattle.sdl_instances_log.proofs.unstored.UnstoredLogStore.enter.Goals as goal

pub invariant_of-self : goal.invariant_of-self
invariant_of-self c =
    let u = c.self.inside in
    noted u.events u.history c.and_entered.result (event.Entered c.args.item.now c.args.pid) c.self.invariant
    (c.and_entered.ensures ∙ ap (λ (l : List Event). l ++ event.Entered c.args.item.now c.args.pid ∷ []) c.replace-before.ensures.value)
