use Rattle.std.proofs.Common.{ℕ, [], ◌∷◌, ◌++◌, None, ap, sym, append-nil, ◌∙◌, arith}
use Rattle.sdl_instances_log.specs.declared.event.Event.{Event}
use Rattle.sdl_instances_log.specs.declared.event.Event.TheVariants as event
use Rattle.sdl_instances_log.specs.declared.event.Trigger.TheVariants as trigger
use Rattle.sdl_instances_packed_log.specs.declared.packed.Note.TheVariants as note
use Rattle.sdl_instances_packed_log.specs.declared.packed.Head.{Head}
use Rattle.sdl_instances_packed_log.specs.Packed.{Log}
use Rattle.sdl_instances_packed_log.proofs.Packing.{parts_turned, events_turned}
use Rattle.sdl_instances_packed_log.proofs.packed.PackedLogStore.skip.Goals as goal

pub invariant_of-self : goal.invariant_of-self
invariant_of-self c =
    let p = c.self.inside in
    let i = c.self.invariant in
    let a = c.args in
    let free = ap (λ (l : Log). l.room) c.self.view_is in
    let h : Head = record { pid = a.frame.now.self_pid; trigger = trigger.Implicit a.item; frame = c.copied_frame.result; last = None; stopped = None; actions_end = c.len-2.result; done_end = c.len-3.result } in (
      parts_turned p.notes.items c.push_reserved.new.self.items p.heads.items c.push_reserved-2.new.self.items p.actions.items [] p.actions.items p.done.items [] p.done.items h
          (c.push_reserved.ensures.items ∙ ap (λ (n : ℕ). p.notes.items ++ note.Turn n ∷ []) (c.len.ensures ∙ p.heads.ok.0)) c.push_reserved-2.ensures.items (sym (append-nil p.actions.items)) (sym (append-nil p.done.items)) (c.len-2.ensures ∙ p.actions.ok.0) (c.len-3.ensures ∙ p.done.ok.0) i.0,
      omega (arith, i.1, c.push_reserved.ensures.len, c.push_reserved.ensures.capacity, free, c.requires),
      omega (arith, i.2, c.push_reserved-2.ensures.len, c.push_reserved-2.ensures.capacity, free, c.requires),
      omega (arith, i.3),
      omega (arith, i.4),
    )

pub returns : goal.returns
returns c =
    let p = c.self.inside in
    let a = c.args in
    let h : Head = record { pid = a.frame.now.self_pid; trigger = trigger.Implicit a.item; frame = c.copied_frame.result; last = None; stopped = None; actions_end = c.len-2.result; done_end = c.len-3.result } in
    let e : Event = event.Turn a.frame.now.self_pid (trigger.Implicit a.item) c.copied_frame.result None (record { items = [] }) None in
    events_turned p.notes.items c.push_reserved.new.self.items p.heads.items c.push_reserved-2.new.self.items p.actions.items [] p.actions.items p.done.items [] p.done.items h
    (c.push_reserved.ensures.items ∙ ap (λ (n : ℕ). p.notes.items ++ note.Turn n ∷ []) (c.len.ensures ∙ p.heads.ok.0)) c.push_reserved-2.ensures.items (sym (append-nil p.actions.items)) (sym (append-nil p.done.items)) (c.len-2.ensures ∙ p.actions.ok.0) (c.len-3.ensures ∙ p.done.ok.0) c.self.invariant.0
    ∙ ap (λ (l : Log). l.events ++ e ∷ []) c.self.view_is
    ∙ ap (λ x. c.args.self.now.events ++ event.Turn a.frame.now.self_pid (trigger.Implicit a.item) x None (record { items = [] }) None ∷ []) c.copied_frame.ensures
