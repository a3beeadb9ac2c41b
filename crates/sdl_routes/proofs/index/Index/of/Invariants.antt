use Rattle.sdl_routes.specs.Index.{AreGroups}
use Rattle.sdl_routes.proofs.index.Index.of.Given as goal

abbrev pub invariant-loop-number : goal.invariant-loop-number
invariant-loop-number l = AreGroups l.rows l.number l.index.groups.items
