use Rattle.std.proofs.Common.{◌<◌, length, ap, sym, ◌∙◌, arith}
use Rattle.std.proofs.lemmas.Option.{none-some}
use Rattle.sdl_forward_ends.specs.Ends.{WorkerEnds, feed_at}
use Rattle.sdl_forward_ends.proofs.FeedsLeft.{absent, within, feed_is, index_now}
use Rattle.sdl_forward_ends.proofs.Feeds.{puts, others, marks}
use Rattle.sdl_forward_ends.proofs.ends.Ends.put_from.Goals as goal

pub unreachable-requires : goal.unreachable-requires
unreachable-requires g c =
    none-some c.requires.0 (sym (absent c.self.inside.index c.self.inside.feeds.items c.args.station c.self.invariant (sym c.get.ensures ∙ c.in_default.is))
    ∙ (ap (λ (e : WorkerEnds). feed_at e.feeds c.args.station) c.self.view_is ∙ c.requires.1))

pub index_mut-requires : goal.index_mut-requires
index_mut-requires g c =
    let less : c.in-Some.place < length c.self.inside.feeds.items = within c.self.inside.index c.self.inside.feeds.items c.args.station c.in-Some.place c.self.invariant (sym c.get.ensures ∙ c.in-Some.is) in
    omega (arith, less, c.self.inside.feeds.ok.0)

pub unreachable-requires-in-None : goal.unreachable-requires-in-None
unreachable-requires-in-None g c =
    let found = sym c.get.ensures ∙ c.in-Some.is in
    none-some c.requires.0 (sym c.in-None.is
    ∙ (sym (feed_is c.self.inside.index c.self.inside.feeds.items c.args.station c.in-Some.place c.self.invariant found c.index_mut.result.now c.index_mut.ensures.value)
    ∙ (ap (λ (e : WorkerEnds). feed_at e.feeds c.args.station) c.self.view_is ∙ c.requires.1)))

pub invariant_of-self : goal.invariant_of-self
invariant_of-self g c = index_now c.self.inside.index c.self.inside.feeds.items c.args.station c.in-Some.place c.self.invariant (sym c.get.ensures ∙ c.in-Some.is) c.index_mut.result.now c.index_mut.ensures.value _

pub returns-clause-put : goal.returns-clause-put
returns-clause-put g c =
    puts c.self.inside.index c.self.inside.tap c.self.inside.feeds.items c.args.self.now c.self.view_is c.args.station c.in-Some.place c.self.invariant (sym c.get.ensures ∙ c.in-Some.is)
    c.index_mut.result.now c.index_mut.ensures.value c.in-Some-1₀.feed c.put_from.new.self c.in-Some-1₀.is c.args.slot.now c.put_from.new.slot c.put_from.ensures.put

pub returns-clause-others : goal.returns-clause-others
returns-clause-others g c =
    others c.self.inside.index c.self.inside.tap c.self.inside.feeds.items c.args.self.now c.self.view_is c.args.station c.in-Some.place c.self.invariant (sym c.get.ensures ∙ c.in-Some.is)
    c.index_mut.result.now c.index_mut.ensures.value c.in-Some-1₀.feed c.put_from.new.self c.in-Some-1₀.is

pub returns-clause-same : goal.returns-clause-same
returns-clause-same g c =
    marks c.self.inside.index c.self.inside.tap c.self.inside.feeds.items c.args.self.now c.self.view_is c.args.station c.in-Some.place c.self.invariant (sym c.get.ensures ∙ c.in-Some.is)
    c.index_mut.result.now c.index_mut.ensures.value c.in-Some-1₀.feed c.put_from.new.self c.in-Some-1₀.is c.put_from.ensures.same
