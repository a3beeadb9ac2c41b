-- What is known of stored transitions: each answer is one that the author of the agents allows.
use Rattle.std.specs.Prelude.{ℕ, All}
use Rattle.std.specs.Borrow.{Bor}
use Rattle.sdl_transition_behaviour.specs.declared.step.Frame.{Frame}
use Rattle.sdl_transition_behaviour.specs.declared.step.Step.{Step}
use Rattle.sdl_transition_behaviour.specs.declared.transition.Transition.{Transition}
use Rattle.sdl_transition_behaviour.specs.declared.behaviour.Row.{Row}
use Rattle.sdl_transition_behaviour.specs.declared.behaviour.Behaviour.{Behaviour}
use Rattle.sdl_transition_behaviour.specs.Offers.{IsFrameOf}

-- each answer of the closure to a frame of the offer is one that `may` allows
abbrev pub IsAllowed : {S I : Type 0} {F : I → Type 0} {g : _} → (ℕ → Frame → Step → Type 0) → Transition S I F g → Type 0
IsAllowed {g = g} may t =
    (f : Bor Frame) (step : Step) →
    IsFrameOf t.offer f.now → g.post (t.run.vtable, t.run.value) (f, tt) step → may t.number f.now step

abbrev pub IsAllowedRow : {S I : Type 0} {F : I → Type 0} {g : _} → (ℕ → Frame → Step → Type 0) → Row S I F g → Type 0
IsAllowedRow may row = IsAllowed may row.transition

-- a behaviour's start and each of its rows answer what `may` allows
pub record IsAllowedBehaviour {S I : Type 0} {F : I → Type 0} {g : _} (may : ℕ → Frame → Step → Type 0) (b : Behaviour S I F g) : Type 0 where
  pub start : IsAllowed may b.start
  pub rows : All (IsAllowedRow may) b.rows.items
