use Rattle.std.proofs.Common.{◌≡◌, ℕ, ◌<◌, Some, slice_get}
use Rattle.sdl_forward.specs.Forwards.{Forwarding}
use Rattle.sdl_run_settling.proofs.settling.number_of_taker.Given as goal

-- none of those before is of the path
abbrev pub invariant-loop-place : goal.invariant-loop-place
invariant-loop-place l = (k : ℕ) (f : Forwarding) → k < l.place → slice_get l.forwarders k ≡ Some f → f.hop ≡ l.hop → ⊥
