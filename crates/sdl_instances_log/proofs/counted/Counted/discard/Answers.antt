use Rattle.sdl_instances_log.specs.declared.event.Event.TheVariants as event
use Rattle.sdl_instances_log.proofs.Counting.{counted-more}
use Rattle.sdl_instances_log.proofs.counted.Counted.discard.Goals as goal

pub invariant_of-self : goal.invariant_of-self
invariant_of-self g c =
    let k = c.self.inside in
    counted-more (g.K.LogStore.events k.log) (g.K.LogStore.events c.discard.new.self) k.counts c.add_discarded.new.self (event.Discarded c.args.item c.args.cause) c.self.invariant.0 c.self.invariant.1 c.discard.ensures (c.add_discarded.ensures.adds c.args.item) c.add_discarded.ensures.within
