use Rattle.std.proofs.Common.{◌≡◌, ◌+◌, ◌<◌, ◌∷◌, false, Some, List, length, drop, ap, sym, ◌∙◌, refl, arith, slice_get, get_or}
use Rattle.std.proofs.lemmas.Option.{slice_get-get_or, slice_get_read}
use Rattle.std.specs.Vec.Iter.{into_iter_items}
use Rattle.std.specs.Option.{option_to_list}
use Rattle.sdl_queue.specs.Ends.{FeedEnd}
use Rattle.sdl_forward_ends.specs.Ends.{WorkerEnds}
use Rattle.sdl_forward_opening.proofs.Distributing.{yes_more, no_more, distribute_end, none_here}
use Rattle.sdl_forward_opening.proofs.shares.distribute.Goals as goal
use Rattle.sdl_forward_opening.proofs.shares.distribute.Goals.{then-marks-place+in-Some+in_ok-add_feed, else-marks-place}

pub unreachable-requires : goal.unreachable-requires
unreachable-requires c =
    none_here c.loop-place.place c.args.marks.now (into_iter_items c.loop-place.feeds)
    (slice_get-get_or c.args.marks.now c.loop-place.place false c.loop-place-test.true ∙ ap Some c.if-marks-place.true) c.loop-place.invariant.rest
    (let a = c.in_default.ensures.cases.0 in let b = c.loop-place.feeds.rest.ok in omega (arith, a, b.0))

pub loop-place-preserved : goal.loop-place-preserved
loop-place-preserved c =
    let k = c.loop-place.place in
    let inv = c.loop-place.invariant in
    let less : k < length c.args.marks.now = c.loop-place-test.true in
    let read = slice_get-get_or c.args.marks.now k false less in
    let within : k < length c.loop-place.shares.items = (let e = inv.each in omega (arith, less, e)) in
    elim c.if-marks-place.branch [
      | then-marks-place+in-Some+in_ok-add_feed w ↦ (
          let r = yes_more c.args.station k c.args.marks.now w.in-Some.feed (into_iter_items c.loop-place.feeds) (into_iter_items c.if-marks-place.feeds) c.loop-place.shares.items c.if-marks-place.shares.items _
          w.index_mut.result.now w.add_feed.new.self (read ∙ ap Some w.if-marks-place.true) (slice_get_read c.loop-place.shares.items (length c.loop-place.shares.items) k w.index_mut.result.now refl within w.index_mut.ensures.value)
          w.in_ok-add_feed.ensures (ap (λ v. v.items) w.shares-is) (w.in-Some.ensures.cases.0 ∙ ap (λ it. w.in-Some.feed ∷ into_iter_items it) (sym w.feeds-is)) inv.so inv.rest inv.each in
          record { so = r.0; rest = r.1; each = r.2 })
      | else-marks-place w ↦ (
          let r = no_more c.args.station k c.args.marks.now (into_iter_items c.loop-place.feeds) (into_iter_items c.if-marks-place.feeds) c.loop-place.shares.items c.if-marks-place.shares.items _
          (read ∙ ap Some w.if-marks-place.false) within (ap (λ v. v.items) w.shares-is) (ap into_iter_items w.feeds-is) inv.so inv.rest inv.each in
          record { so = r.0; rest = r.1; each = r.2 })
    ]

pub returns : goal.returns
returns c =
    sym (distribute_end c.args.station c.loop-place.place c.args.marks.now (into_iter_items c.loop-place.feeds) c.loop-place.shares.items c.loop-place-test.false c.loop-place.invariant.each) ∙ c.loop-place.invariant.so
