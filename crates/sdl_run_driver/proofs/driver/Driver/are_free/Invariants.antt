use Rattle.std.proofs.Common.{◌≡◌, ℕ, ◌<◌, None, Some, slice_get}
use Rattle.sdl_forward.specs.Forwards.{Forwarding}
use Rattle.sdl_run_driver.proofs.driver.Driver.are_free.Given as goal

abbrev pub invariant-loop-forwarder : goal.invariant-loop-forwarder
invariant-loop-forwarder g l = (k : ℕ) (f : Forwarding) → k < l.forwarder-index → slice_get l.self.forwarders.items k ≡ Some f → f.held ≡ None
