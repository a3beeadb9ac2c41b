use Rattle.std.proofs.Common.{◌≡◌, List, Some, length, take, slice_get, sym, subst, arith}
use Rattle.std.proofs.lemmas.List.{length-take-le}
use Rattle.std.proofs.lemmas.Option.{slice_get_within}
use Rattle.sdl_signal.specs.declared.values.Pid.{Pid}
use Rattle.sdl_instances_processes.specs.Record.{Record}
use Rattle.sdl_instances_processes.specs.Places.{AreBySet}
use Rattle.sdl_instances_processes.proofs.SetPlaces.{take_one_more}
use Rattle.sdl_instances_processes.proofs.all_by_set.places_by_set.Goals as goal

pub loop-place-preserved : goal.loop-place-preserved
loop-place-preserved c =
    let es = c.args.instances.now.entries in
    let n = c.loop-place.place in
    let r = c.in-Some.field-0-1.now in
    let e : Pid × Record = (c.in-Some.pid.now, r) in
    let at : slice_get es n ≡ Some e = sym c.in-Some.ensures.entry in
    let within = slice_get_within es n e at in
    let long : length (take n es) ≡ n = length-take-le n es (omega (arith, within)) in
    subst (λ (l : List (Pid × Record)). AreBySet c.add_by_set.new.by_set.lists l) (sym (take_one_more es n e at))
    (c.in_ok-add_by_set-in-Some.ensures (take n es) r (sym long) c.loop-place.invariant)
