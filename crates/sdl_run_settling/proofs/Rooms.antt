-- Room for what comes back.
use Rattle.std.proofs.Common.{ℕ, ◌≡◌, subst}
use Rattle.sdl_run_settling.specs.declared.rejoining.RejoiningRoom.{RejoiningRoom}
use Rattle.sdl_run_settling.specs.Room.{HasRejoiningRoom}

pub room_of : {S K I : Type 0} {F : I → Type 0} {g : _} (r : RejoiningRoom S K I F g) (a b c d : ℕ) → a ≡ c → b ≡ d → HasRejoiningRoom a b r → HasRejoiningRoom c d r
room_of r a b c d e f h = subst (λ (n : ℕ). HasRejoiningRoom c n r) f (subst (λ (n : ℕ). HasRejoiningRoom n b r) e h)
