use Rattle.std.proofs.Common.{◌≡◌, ◌++◌, map, drop}
use Rattle.sdl_forward_opening.specs.declared.worker.Worker.TheVariants.{Forwarder}
use Rattle.sdl_forward_opening.proofs.order.add_forwarders.Given as goal

abbrev pub invariant-loop-path : goal.invariant-loop-path
invariant-loop-path l = l.workers.items ++ map Forwarder (drop l.path-index l.paths) ≡ l.fn.workers.items ++ map Forwarder l.paths
