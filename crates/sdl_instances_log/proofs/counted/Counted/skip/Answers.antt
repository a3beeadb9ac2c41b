use Rattle.std.proofs.Common.{None, []}
use Rattle.sdl_instances_log.specs.declared.event.Event.TheVariants as event
use Rattle.sdl_instances_log.specs.declared.event.Trigger.TheVariants as trigger
use Rattle.sdl_instances_log.proofs.Counting.{counted-more}
use Rattle.sdl_instances_log.proofs.counted.Counted.skip.Goals as goal

pub invariant_of-self : goal.invariant_of-self
invariant_of-self g c =
    let k = c.self.inside in
    counted-more (g.K.LogStore.events k.log) (g.K.LogStore.events c.skip.new.self) k.counts c.add_implicit.new.self (event.Turn c.args.frame.now.self_pid (trigger.Implicit c.args.item) c.args.frame.now None (record { items = [] }) None) c.self.invariant.0 c.self.invariant.1 c.skip.ensures (c.add_implicit.ensures.adds c.args.frame.now.self_pid c.args.item c.args.frame.now) c.add_implicit.ensures.within
