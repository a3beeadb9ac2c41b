use Rattle.std.proofs.Common.{◌≡◌, ◌+◌, ◌≤◌, Some, take, length, slice_get, ap, sym, ◌∙◌, subst, refl}
use Rattle.std.proofs.lemmas.Option.{slice_get_read}
use Rattle.sdl_instances_processes.specs.declared.ready.ReadyCounts.{ReadyCounts}
use Rattle.sdl_instances_processes.specs.Ready.{AreReadyCounts, room_of}
use Rattle.sdl_instances_processes.proofs.ReadyCounts.{next_ready, next_not_ready, few_taken, counts_alike}
use Rattle.sdl_instances_processes.proofs.ready.ReadyCounts.recount.Goals as goal
use Rattle.sdl_instances_processes.proofs.ready.ReadyCounts.recount.Goals.{then-is_ready, else-is_ready}

pub loop-place-preserved : goal.loop-place-preserved
loop-place-preserved c =
    let rs = c.args.instances.now in
    let n = c.loop-place.place in
    let r = c.index-instances-place.result in
    let at : slice_get rs n ≡ Some r = slice_get_read rs (length rs) n r refl c.loop-place-test.true c.index-instances-place.is in
    let fits = few_taken rs (n + 1) (room_of c.loop-place.self) (subst (λ m. length rs ≤ m) (sym c.loop-place.invariant.1) c.requires) in
    elim c.if-is_ready.branch [
      | then-is_ready w ↦ (
        subst (λ (x : ReadyCounts). AreReadyCounts x (take (n + 1) rs)) (sym w.self-is)
            (w.note.ensures.counts (take n rs) (take (n + 1) rs) c.loop-place.invariant.0 (next_ready rs n r at (sym c.is_ready.ensures ∙ w.if-is_ready.true)) fits),
        ap room_of w.self-is ∙ w.note.ensures.room ∙ c.loop-place.invariant.1,
      )
      | else-is_ready w ↦ (
        subst (λ (x : ReadyCounts). AreReadyCounts x (take (n + 1) rs)) (sym w.self-is)
            (counts_alike c.loop-place.self (take n rs) (take (n + 1) rs) (next_not_ready rs n r at (sym c.is_ready.ensures ∙ w.if-is_ready.false)) fits c.loop-place.invariant.0),
        ap room_of w.self-is ∙ c.loop-place.invariant.1,
      )
    ]
