use Rattle.std.proofs.Common.{◌≡◌, List, [], ◌∷◌, ◌++◌, ap, sym, subst, ◌∙◌}
use Rattle.sdl_instances_log.specs.declared.event.Event.{Event}
use Rattle.sdl_instances_log.specs.declared.counts.Counts.{Counts}
use Rattle.sdl_instances_log.specs.Counts.{AreCountsOf}
use Rattle.sdl_block.specs.Workers.{worker_of}
use Rattle.sdl_run_driver.specs.Closings.{AreLogsCounted}
use Rattle.sdl_run_driver.proofs.Rooms.{zip_push}
use Rattle.sdl_run_driver.proofs.closing.Room.take_block.Goals as goal

pub returns-clause-counted : goal.returns-clause-counted
returns-clause-counted g c = λ h.
    let ev = g.K.LogStore.events in
    let room = c.args.self.now in
    let log = c.into_parts-parts.result.1 in
    let counted = c.counts-counted.result in
    let same = c.into_parts-parts.ensures.log ∙ ap (λ k. k.log) c.into_parts-core.ensures.core in
    let one : AreCountsOf (ev log) counted = subst (λ (l : List Event). AreCountsOf l counted) (sym same) c.counts-counted.ensures in
    subst (λ ls. AreLogsCounted ev ls c.push-3.new.self.items) (sym c.in-Ok-push.ensures.items)
    (subst (λ (cs : List Counts). AreLogsCounted ev (room.logs.items ++ log ∷ []) cs) (sym c.in-Ok-push-2.ensures.items) (zip_push (λ l k. AreCountsOf (ev l) k) room.logs.items room.counts.items log counted h one))
