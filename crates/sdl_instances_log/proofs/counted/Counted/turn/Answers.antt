use Rattle.std.proofs.Common.{Some}
use Rattle.sdl_instances_log.specs.declared.event.Event.TheVariants as event
use Rattle.sdl_instances_log.proofs.Counting.{counted-more}
use Rattle.sdl_instances_log.proofs.counted.Counted.turn.Goals as goal

pub invariant_of-self : goal.invariant_of-self
invariant_of-self g c =
    let k = c.self.inside in
    counted-more (g.K.LogStore.events k.log) (g.K.LogStore.events c.turn.new.self) k.counts c.add_turn.new.self (event.Turn c.args.pid c.args.trigger c.args.frame.now (Some c.args.step.now) c.args.done.now c.args.stopped) c.self.invariant.0 c.self.invariant.1 c.turn.ensures (c.add_turn.ensures.adds c.args.pid c.args.frame.now (Some c.args.step.now)) c.add_turn.ensures.within
