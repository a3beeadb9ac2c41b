use Rattle.std.proofs.Common.{ℕ, [], ◌∷◌, ◌++◌, ap, ◌∙◌, arith}
use Rattle.sdl_transition_behaviour.specs.declared.step.Step.{Step}
use Rattle.std.proofs.Common.{Option, Some}
use Rattle.sdl_instances_log.specs.declared.event.Event.TheVariants as event
use Rattle.sdl_instances_packed_log.specs.declared.packed.Note.TheVariants as note
use Rattle.sdl_instances_packed_log.specs.declared.packed.Head.{Head}
use Rattle.sdl_instances_packed_log.specs.Packed.{Log, events_in}
use Rattle.sdl_instances_packed_log.proofs.Packing.{parts_turned, events_turned}
use Rattle.sdl_instances_packed_log.proofs.packed.PackedLogStore.turn.Goals as goal

pub invariant_of-self : goal.invariant_of-self
invariant_of-self c =
    let p = c.self.inside in
    let i = c.self.invariant in
    let a = c.args in
    let free = ap (λ (l : Log). l.room) c.self.view_is in
    let h : Head = record { pid = a.pid; trigger = a.trigger; frame = c.copied_frame.result; last = Some c.keep_step-last.result; stopped = a.stopped; actions_end = c.len-2.result; done_end = c.len-3.result } in (
      parts_turned p.notes.items c.push_reserved.new.self.items p.heads.items c.push_reserved-2.new.self.items p.actions.items c.keep_step-last.ensures.kept.0 c.keep_step-last.new.actions.items p.done.items a.done.now.items c.move_all.new.to.items h
          (c.push_reserved.ensures.items ∙ ap (λ (n : ℕ). p.notes.items ++ note.Turn n ∷ []) (c.len.ensures ∙ p.heads.ok.0)) c.push_reserved-2.ensures.items c.keep_step-last.ensures.kept.1 c.move_all.ensures.items (c.len-2.ensures ∙ c.keep_step-last.new.actions.ok.0) (c.len-3.ensures ∙ c.move_all.new.to.ok.0) i.0,
      omega (arith, i.1, c.push_reserved.ensures.len, c.push_reserved.ensures.capacity, free, c.requires),
      omega (arith, i.2, c.push_reserved-2.ensures.len, c.push_reserved-2.ensures.capacity, free, c.requires),
      omega (arith, i.3, c.keep_step-last.ensures.few, c.keep_step-last.ensures.capacity, free, c.requires),
      omega (arith, i.4, c.move_all.ensures.few, c.move_all.ensures.capacity, free, c.requires),
    )

pub returns : goal.returns
returns c =
    let p = c.self.inside in
    let a = c.args in
    let h : Head = record { pid = a.pid; trigger = a.trigger; frame = c.copied_frame.result; last = Some c.keep_step-last.result; stopped = a.stopped; actions_end = c.len-2.result; done_end = c.len-3.result } in
    let turned = λ (s : Option Step). event.Turn a.pid a.trigger c.copied_frame.result s a.done.now a.stopped in
    events_turned p.notes.items c.push_reserved.new.self.items p.heads.items c.push_reserved-2.new.self.items p.actions.items c.keep_step-last.ensures.kept.0 c.keep_step-last.new.actions.items p.done.items a.done.now.items c.move_all.new.to.items h
    (c.push_reserved.ensures.items ∙ ap (λ (n : ℕ). p.notes.items ++ note.Turn n ∷ []) (c.len.ensures ∙ p.heads.ok.0)) c.push_reserved-2.ensures.items c.keep_step-last.ensures.kept.1 c.move_all.ensures.items (c.len-2.ensures ∙ c.keep_step-last.new.actions.ok.0) (c.len-3.ensures ∙ c.move_all.new.to.ok.0) c.self.invariant.0
    ∙ (ap (λ (s : Option Step). events_in p.notes.items p.heads.items p.actions.items p.done.items ++ turned s ∷ []) c.keep_step-last.ensures.kept.2
    ∙ ap (λ (l : Log). l.events ++ turned (Some a.step.now) ∷ []) c.self.view_is)
    ∙ ap (λ x. c.args.self.now.events ++ event.Turn a.pid a.trigger x (Some a.step.now) a.done.now a.stopped ∷ []) c.copied_frame.ensures
