use Rattle.std.proofs.Common.{ℕ, ◌<◌, length, slice_set, get_or, ap, ◌∙◌, arith}
use Rattle.sdl_instances_processes.specs.Places.{lowered}
use Rattle.std.proofs.lemmas.List.Edits.{map_over_more}
use Rattle.sdl_instances_processes.proofs.Entries.{get_any}
use Rattle.sdl_instances_processes.proofs.by_set.lower.Goals as goal

pub loop-place-preserved : goal.loop-place-preserved
loop-place-preserved c =
    let old = c.args.places.now.items in
    let items = c.loop-place.place-items in
    let i = c.loop-place.place-index in
    let x = get_or items i 0 in
    let same = ap length c.deref_mut-place-items.ensures.value in
    let long = c.loop-place.auto.place-items in
    let within : i < length items = omega (arith, c.loop-place-test.true, long) in
    ap (λ (y : ℕ). slice_set items i y) c.lowered.ensures
    ∙ map_over_more (lowered c.args.gone) old items i x (omega (arith, c.loop-place-test.true, same)) c.loop-place.invariant (get_any items i 0 x within)
