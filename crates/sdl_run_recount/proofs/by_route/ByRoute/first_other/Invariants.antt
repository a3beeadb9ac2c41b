use Rattle.sdl_run_recount.specs.Sorted.{lists_in, AreSameBelow}
use Rattle.sdl_run_recount.proofs.by_route.ByRoute.first_other.Given as goal

abbrev pub invariant-loop-route : goal.invariant-loop-route
invariant-loop-route l = AreSameBelow l.route (lists_in l.self) (lists_in l.other)
