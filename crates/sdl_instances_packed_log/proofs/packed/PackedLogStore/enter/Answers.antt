use Rattle.std.proofs.Common.{[], ◌∷◌, ◌++◌, refl, ap, ◌∙◌, arith}
use Rattle.sdl_instances_log.specs.declared.event.Event.{Event}
use Rattle.sdl_instances_log.specs.declared.event.Event.TheVariants as event
use Rattle.sdl_instances_packed_log.specs.declared.packed.Note.TheVariants as note
use Rattle.sdl_instances_packed_log.specs.Packed.{Log}
use Rattle.sdl_instances_packed_log.proofs.Packing.{parts_arrived, events_arrived}
use Rattle.sdl_instances_packed_log.proofs.packed.PackedLogStore.enter.Goals as goal

pub invariant_of-self : goal.invariant_of-self
invariant_of-self c =
    let p = c.self.inside in
    let i = c.self.invariant in
    let free = ap (λ (l : Log). l.room) c.self.view_is in
    let n = c.push_reserved.ensures.len in
    let m = c.push_reserved.ensures.capacity in (
      parts_arrived p.notes.items c.push_reserved.new.self.items p.heads.items p.actions.items p.done.items (note.Entered c.copied_item.result c.args.pid) (event.Entered c.copied_item.result c.args.pid) refl c.push_reserved.ensures.items i.0,
      omega (arith, i.1, n, m, free, c.requires),
      omega (arith, i.2),
      omega (arith, i.3),
      omega (arith, i.4),
    )

pub returns : goal.returns
returns c =
    let p = c.self.inside in
    let e : Event = event.Entered c.copied_item.result c.args.pid in
    events_arrived p.notes.items c.push_reserved.new.self.items p.heads.items p.actions.items p.done.items (note.Entered c.copied_item.result c.args.pid) e refl c.push_reserved.ensures.items c.self.invariant.0
    ∙ ap (λ (l : Log). l.events ++ e ∷ []) c.self.view_is
    ∙ ap (λ x. c.args.self.now.events ++ event.Entered x c.args.pid ∷ []) c.copied_item.ensures
