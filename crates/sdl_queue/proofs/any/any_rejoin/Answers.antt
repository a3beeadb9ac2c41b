use Rattle.std.proofs.Common.{ap, sym, ◌∙◌, subst}
use Rattle.sdl_queue.specs.Ends.{TapEnd, AreAllEnds}
use Rattle.sdl_queue.specs.Any.{tap_end}
use Rattle.sdl_queue.specs.declared.rest.Rest.TheVariants.{Ring}
use Rattle.sdl_queue.specs.Rest.{AreRejoinedAs}
use Rattle.sdl_queue.proofs.Anys.{ring_rejoined}
use Rattle.sdl_queue.proofs.any.any_rejoin.Goals as goal

pub rejoin_queue-requires : goal.rejoin_queue-requires
rejoin_queue-requires g c = subst (λ (t : TapEnd). AreAllEnds c.args.feeds.items t) (sym c.tap.view_is ∙ ap tap_end c.in-Queue.is) c.requires

pub returns-in-Ring : goal.returns-in-Ring
returns-in-Ring g c =
    subst (λ (t : TapEnd). AreRejoinedAs c.args.feeds.items t (Ring c.rejoin_ring.result)) (sym (ap tap_end c.in-Ring.is) ∙ c.tap.view_is)
    (ring_rejoined c.args.feeds.items c.in-Ring.ring c.rejoin_ring.result c.rejoin_ring.ensures.ends.0 c.rejoin_ring.ensures.ends.1 c.rejoin_ring.ensures.delay_line)
