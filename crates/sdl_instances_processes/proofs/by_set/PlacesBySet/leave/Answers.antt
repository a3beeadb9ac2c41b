use Rattle.sdl_instances_processes.proofs.by_set.PlacesBySet.leave.Goals as goal

pub invariant_of-self : goal.invariant_of-self
invariant_of-self c = c.leave_each.ensures.room c.self.inside.room c.self.invariant
