use Rattle.std.proofs.Common.{ap, ◌∙◌, ◌++◌, ◌∷◌, [], None, List}
use Rattle.sdl_instances_log.specs.declared.event.Event.{Event}
use Rattle.sdl_instances_log.specs.declared.event.Event.TheVariants as event
use Rattle.sdl_instances_log.specs.declared.event.Trigger.TheVariants as trigger
use Rattle.sdl_instances_log.proofs.Counting.{noted}
use Rattle.sdl_instances_log.proofs.unstored.UnstoredLogStore.skip.Goals as goal

pub invariant_of-self : goal.invariant_of-self
invariant_of-self c =
    let u = c.self.inside in
    let a = c.args in
    let e : Event = event.Turn a.frame.now.self_pid (trigger.Implicit a.item) a.frame.now None (record { items = [] }) None in
    noted u.events u.history c.and_skipped.result e c.self.invariant
    (c.and_skipped.ensures ∙ ap (λ (l : List Event). l ++ e ∷ []) c.replace-before.ensures.value)
