use Rattle.std.proofs.Common.{◌≡◌, ◌<◌, List, Option, length, slice_set, ap, sym, ◌∙◌, subst, arith}
use Rattle.sdl_routes.specs.declared.route.Station.{Station}
use Rattle.sdl_queue.specs.Ends.{FeedEnd}
use Rattle.sdl_forward_ends.specs.Ends.{WorkerEnds, feed_at}
use Rattle.sdl_forward_ends.specs.FeedsLeft.{feeds_held}
use Rattle.sdl_forward_ends.specs.Shelves.{drop_feed}
use Rattle.sdl_forward_ends.proofs.FeedsLeft.{absent, drop_none, within, feed_is, index_now, held_back}
use Rattle.sdl_forward_ends.proofs.ends.Ends.give_feed.Goals as goal

pub returns-in_err-place-clause-feed : goal.returns-in_err-place-clause-feed
returns-in_err-place-clause-feed c =
    c.from_residual.ensures ∙ sym (ap (λ (e : WorkerEnds). feed_at e.feeds c.args.station) (sym c.self.view_is)
    ∙ absent c.self.inside.index c.self.inside.feeds.items c.args.station c.self.invariant (sym c.get.ensures ∙ c.in_err-place.was))

pub returns-in_err-place-clause-rest : goal.returns-in_err-place-clause-rest
returns-in_err-place-clause-rest c =
    ap (λ (fs : List (Station × FeedEnd)). record { tap = c.args.self.now.tap; feeds = fs })
    (sym (drop_none c.args.self.now.feeds c.args.station
    (ap (λ (e : WorkerEnds). feed_at e.feeds c.args.station) (sym c.self.view_is)
    ∙ absent c.self.inside.index c.self.inside.feeds.items c.args.station c.self.invariant (sym c.get.ensures ∙ c.in_err-place.was))))

pub index_mut-requires : goal.index_mut-requires
index_mut-requires c =
    let less : c.in_ok-place.place < length c.self.inside.feeds.items = within c.self.inside.index c.self.inside.feeds.items c.args.station c.in_ok-place.place c.self.invariant (sym c.get.ensures ∙ c.in_ok-place.was) in
    omega (arith, less, c.self.inside.feeds.ok.0)

pub invariant_of-self : goal.invariant_of-self
invariant_of-self c = index_now c.self.inside.index c.self.inside.feeds.items c.args.station c.in_ok-place.place c.self.invariant (sym c.get.ensures ∙ c.in_ok-place.was) c.index_mut.result.now c.index_mut.ensures.value _

pub returns-clause-feed : goal.returns-clause-feed
returns-clause-feed c =
    c.take.ensures.value
    ∙ (sym (feed_is c.self.inside.index c.self.inside.feeds.items c.args.station c.in_ok-place.place c.self.invariant (sym c.get.ensures ∙ c.in_ok-place.was) c.index_mut.result.now c.index_mut.ensures.value)
    ∙ ap (λ (e : WorkerEnds). feed_at e.feeds c.args.station) c.self.view_is)

pub returns-clause-rest : goal.returns-clause-rest
returns-clause-rest c =
    let place = c.in_ok-place.place in
    let held = held_back c.self.inside.index c.self.inside.feeds.items c.args.station place c.self.invariant (sym c.get.ensures ∙ c.in_ok-place.was) c.index_mut.result.now c.index_mut.ensures.value in
    let now : List (Station × FeedEnd) = feeds_held (slice_set c.self.inside.feeds.items place (c.index_mut.result.now.0, c.take.new.self)) in
    let same : now ≡ drop_feed c.args.station (feeds_held c.self.inside.feeds.items) =
    ap (λ (o : Option FeedEnd). feeds_held (slice_set c.self.inside.feeds.items place (c.index_mut.result.now.0, o))) c.take.ensures.after ∙ held in
    subst (λ (e : WorkerEnds). ◌≡◌ {A = WorkerEnds} (record { tap = c.self.inside.tap; feeds = now }) (record { tap = e.tap; feeds = drop_feed c.args.station e.feeds })) c.self.view_is
    (ap (λ (fs : List (Station × FeedEnd)). record { tap = c.self.inside.tap; feeds = fs }) same)
