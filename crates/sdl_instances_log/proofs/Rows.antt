-- A turn's event that is yet to be written, tried on small events.
use Rattle.std.proofs.Common.{◌≡◌, ℕ, Option, [], ◌∷◌, Some, None, length, refl, ap, arith}
use Rattle.sdl_signal.specs.declared.values.Pid.{Pid}
use Rattle.sdl_signal.specs.declared.values.Item.{Item}
use Rattle.sdl_transition_behaviour.specs.declared.step.Frame.{Frame}
use Rattle.sdl_transition_behaviour.specs.declared.step.Next.{Next}
use Rattle.sdl_transition_behaviour.specs.declared.step.Step.{Step}
use Rattle.sdl_instances_log.specs.declared.event.Done.{Done}
use Rattle.sdl_instances_log.specs.declared.event.Trigger.{Trigger}
use Rattle.sdl_instances_log.specs.declared.event.Event.TheVariants as event
use Rattle.sdl_instances_log.specs.Filled.{IsUnfilled}

abbrev unshown : Frame → Frame
unshown f = record f { vars = record { items = [] } }

abbrev nothing : Next → Step
nothing next = record { actions = record { items = [] }; vars = record { items = [] }; next = next }

-- whatever its frame, its trigger and its end are
without_parts : (p : Pid) (t : Trigger) (f : Frame) (next : Next) (n : Option ℕ) → IsUnfilled (event.Turn p t (unshown f) (Some (nothing next)) (record { items = [] }) n)
without_parts p t f next n = (refl, refl, refl, refl)

one_with_a_thing_done : (p : Pid) (t : Trigger) (f : Frame) (s : Step) (d : Done) → IsUnfilled (event.Turn p t f (Some s) (record { items = d ∷ [] }) None) → ⊥
one_with_a_thing_done p t f s d blank = let n : length (d ∷ []) ≡ 0 = ap length blank.3 in omega (arith, n)

one_by_the_implicit_transition : (p : Pid) (t : Trigger) (f : Frame) → IsUnfilled (event.Turn p t f None (record { items = [] }) None) → ⊥
one_by_the_implicit_transition p t f blank = blank

an_arrival : (i : Item) (p : Pid) → IsUnfilled (event.Entered i p) → ⊥
an_arrival i p blank = blank
