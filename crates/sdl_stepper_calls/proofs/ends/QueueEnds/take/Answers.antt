use Rattle.sdl_stepper_calls.proofs.AllEnds.{all_with_tap}
use Rattle.sdl_stepper_calls.proofs.ends.QueueEnds.take.Goals as goal

pub invariant_of-self : goal.invariant_of-self
invariant_of-self g c = all_with_tap c.self.inside.feeds.items c.self.inside.tap c.take.new.self c.take.ensures.same c.self.invariant
