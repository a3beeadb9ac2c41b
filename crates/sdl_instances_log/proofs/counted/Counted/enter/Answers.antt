use Rattle.sdl_instances_log.specs.declared.event.Event.TheVariants as event
use Rattle.sdl_instances_log.proofs.Counting.{counted-more}
use Rattle.sdl_instances_log.proofs.counted.Counted.enter.Goals as goal

pub invariant_of-self : goal.invariant_of-self
invariant_of-self g c =
    let k = c.self.inside in
    counted-more (g.K.LogStore.events k.log) (g.K.LogStore.events c.enter.new.self) k.counts c.add_entered.new.self (event.Entered c.args.item.now c.args.pid) c.self.invariant.0 c.self.invariant.1 c.enter.ensures (c.add_entered.ensures.adds c.args.item.now c.args.pid) c.add_entered.ensures.within
