use Rattle.std.proofs.Common.{◌<◌, length, None, false, refl, ap, sym, ◌∙◌, arith}
use Rattle.sdl_forward_ends.specs.Ends.{WorkerEnds, feed_at}
use Rattle.sdl_forward_ends.proofs.FeedsLeft.{absent, within, feed_is, fed}
use Rattle.sdl_forward_ends.proofs.ends.Ends.has_feed.Goals as goal

pub returns-in_default : goal.returns-in_default
returns-in_default c =
    fed c.args.self.now c.args.station None false
    (ap (λ (e : WorkerEnds). feed_at e.feeds c.args.station) (sym c.self.view_is)
    ∙ absent c.self.inside.index c.self.inside.feeds.items c.args.station c.self.invariant (sym c.get.ensures ∙ c.in_default.is)) refl

pub index-requires : goal.index-requires
index-requires c =
    let less : c.in-Some.place < length c.self.inside.feeds.items = within c.self.inside.index c.self.inside.feeds.items c.args.station c.in-Some.place c.self.invariant (sym c.get.ensures ∙ c.in-Some.is) in
    omega (arith, less, c.self.inside.feeds.ok.0)

pub returns : goal.returns
returns c =
    fed c.args.self.now c.args.station c.index.result.now.1 c.is_some.result
    (ap (λ (e : WorkerEnds). feed_at e.feeds c.args.station) (sym c.self.view_is)
    ∙ feed_is c.self.inside.index c.self.inside.feeds.items c.args.station c.in-Some.place c.self.invariant (sym c.get.ensures ∙ c.in-Some.is) c.index.result.now c.index.ensures) c.is_some.ensures
