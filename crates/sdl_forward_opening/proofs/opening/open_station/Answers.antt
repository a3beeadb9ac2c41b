use Rattle.std.proofs.Common.{Some, ◌≡◌, ◌<◌, ◌≤◌, length, ap, sym, ◌∙◌, refl, subst, arith}
use Rattle.std.proofs.lemmas.Option.{slice_get_within, slice_get_read}
use Rattle.std.proofs.lemmas.List.FromFn.{length-map-range_with_len}
use Rattle.sdl_queue.specs.Ends.{FeedEnd, TapEnd, fresh_feed, fresh_feeds}
use Rattle.sdl_forward_ends.specs.Ends.{WorkerEnds}
use Rattle.sdl_forward_opening.specs.Puts.{count_true}
use Rattle.sdl_forward_opening.specs.Opens.{fresh_tap}
use Rattle.sdl_forward_opening.specs.Hands.{with_tap, distributed, changed_at}
use Rattle.sdl_forward_opening.proofs.Distributing.{distributed_length, changed_set, adds_queue}
use Rattle.sdl_forward_opening.proofs.opening.open_station.Goals as goal

pub distribute-requires-clause-feeds : goal.distribute-requires-clause-feeds
distribute-requires-clause-feeds g c =
    sym c.count_of-feeders.ensures.count ∙ sym (ap length c.in_ok-feeds.ensures.feeds ∙ length-map-range_with_len (fresh_feed c.in_ok-feeds.tap.opening) 0 c.count_of-feeders.result)

pub overflow_cast-feeders : goal.overflow_cast-feeders
overflow_cast-feeders g c = let a = c.count_of-feeders.ensures.few in let b = c.requires.few in let d = c.requires.marks in omega (arith, a, b, d)

pub index_mut-requires : goal.index_mut-requires
index_mut-requires g c =
    let a = slice_get_within c.args.workers.now c.place_of-place.result _ c.place_of-place.ensures in
    let b = ap length c.in_ok-distribute.ensures in
    let d = distributed_length c.args.station c.args.marks.now c.in_ok-feeds.feeds.items c.args.shares.now.items in
    let e = c.requires.shares in
    let f = c.distribute.new.shares.ok.0 in
    omega (arith, a, b, d, e, f)

pub returns : goal.returns
returns g c =
    let mid = c.distribute.new.shares.items in
    let place = c.place_of-place.result in
    let less : place < length mid =
    (let a = slice_get_within c.args.workers.now place _ c.place_of-place.ensures in
    let b = ap length c.in_ok-distribute.ensures in
    let d = distributed_length c.args.station c.args.marks.now c.in_ok-feeds.feeds.items c.args.shares.now.items in
    let e = c.requires.shares in
    omega (arith, a, b, d, e)) in
    adds_queue c.args.workers.now c.args.marks.now c.args.station c.args.shares.now.items mid c.args.shelf.now c.add.new.self c.count_of-feeders.result place c.in_ok-feeds.feeds.items c.in_ok-feeds.tap
    c.index_mut.result.now c.set_tap.new.self c.count_of-feeders.ensures.count c.in_ok-feeds.ensures.feeds c.in_ok-feeds.ensures.tap c.in_ok-add.ensures c.in_ok-distribute.ensures
    (c.place_of-place.ensures ∙ ap Some c.taker.ensures) (slice_get_read mid (length mid) place c.index_mut.result.now refl less c.index_mut.ensures.value) c.set_tap.ensures c.in_ok-feeds.ensures.kind
