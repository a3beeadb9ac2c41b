use Rattle.std.proofs.Common.{ap, ◌∙◌, ◌++◌, ◌∷◌, [], Some, List}
use Rattle.sdl_instances_log.specs.declared.event.Event.{Event}
use Rattle.sdl_instances_log.specs.declared.event.Event.TheVariants as event
use Rattle.sdl_instances_log.proofs.Counting.{noted}
use Rattle.sdl_instances_log.proofs.unstored.UnstoredLogStore.turn.Goals as goal

pub invariant_of-self : goal.invariant_of-self
invariant_of-self c =
    let u = c.self.inside in
    let a = c.args in
    let e : Event = event.Turn a.pid a.trigger a.frame.now (Some a.step.now) a.done.now a.stopped in
    noted u.events u.history c.and_turn.result e c.self.invariant
    (c.and_turn.ensures ∙ ap (λ (l : List Event). l ++ e ∷ []) c.replace-before.ensures.value)
