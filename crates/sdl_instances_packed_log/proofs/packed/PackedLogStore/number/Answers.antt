use Rattle.std.proofs.Common.{length, ap, sym, ◌∙◌}
use Rattle.sdl_instances_packed_log.specs.Packed.{Log}
use Rattle.sdl_instances_packed_log.proofs.Packing.{events_counted}
use Rattle.sdl_instances_packed_log.proofs.packed.PackedLogStore.number.Goals as goal

pub returns : goal.returns
returns c =
    let p = c.self.inside in
    c.len.ensures ∙ (p.notes.ok.0 ∙ (sym (events_counted p.notes.items p.heads.items p.actions.items p.done.items c.self.invariant.0) ∙ ap (λ (l : Log). length l.events) c.self.view_is))
