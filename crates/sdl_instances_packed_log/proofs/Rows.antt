-- The definitions, tried on a log of five events.
use Rattle.std.proofs.Common.{◌≡◌, List, [], ◌∷◌, None, Some, refl, arith}
use Rattle.sdl_signal.specs.declared.values.Item.{Item}
use Rattle.sdl_signal.specs.declared.values.Pid.{Pid}
use Rattle.sdl_transition_behaviour.specs.declared.step.Action.{Action}
use Rattle.sdl_transition_behaviour.specs.declared.step.Frame.{Frame}
use Rattle.sdl_instances_log.specs.declared.event.Cause.{Cause}
use Rattle.sdl_instances_log.specs.declared.event.Done.{Done}
use Rattle.sdl_instances_log.specs.declared.event.Event.TheVariants as event
use Rattle.sdl_instances_log.specs.declared.event.Trigger.{Trigger}
use Rattle.sdl_instances_packed_log.specs.declared.packed.Note.{Note}
use Rattle.sdl_instances_packed_log.specs.declared.packed.Note.TheVariants as note
use Rattle.sdl_instances_packed_log.specs.declared.packed.Head.{Head}
use Rattle.sdl_instances_packed_log.specs.declared.packed.Last.{Last}
use Rattle.sdl_instances_packed_log.specs.Packed.{events_in, AreParts, AreHeads, AreNotes}

-- an arrival, a turn with two actions, one without any by the implicit transition, a discard, and a turn with one action
module _ (i j : Item) (p q : Pid) (c : Cause) (t u v : Trigger) (f g : Frame) (last : Last) (a b d : Action) (x y z : Done) where
  abbrev notes : List Note
  notes = note.Entered i p ∷ note.Turn 0 ∷ note.Turn 1 ∷ note.Discarded j c ∷ note.Turn 2 ∷ []

  abbrev first : Head
  first = record { pid = p; trigger = t; frame = f; last = Some last; stopped = None; actions_end = 2; done_end = 2 }

  abbrev second : Head
  second = record { pid = p; trigger = u; frame = f; last = None; stopped = None; actions_end = 2; done_end = 2 }

  abbrev third : Head
  third = record { pid = q; trigger = v; frame = g; last = Some last; stopped = Some 4; actions_end = 3; done_end = 3 }

  abbrev heads : List Head
  heads = first ∷ second ∷ third ∷ []

  -- what the lists of all turns have is parted among them
  five_events : events_in notes heads (a ∷ b ∷ d ∷ []) (x ∷ y ∷ z ∷ [])
      ≡ event.Entered i p
      ∷ event.Turn p t f (Some (record { actions = record { items = a ∷ b ∷ [] }; vars = last.vars; next = last.next })) (record { items = x ∷ y ∷ [] }) None
      ∷ event.Turn p u f None (record { items = [] }) None
      ∷ event.Discarded j c
      ∷ event.Turn q v g (Some (record { actions = record { items = d ∷ [] }; vars = last.vars; next = last.next })) (record { items = z ∷ [] }) (Some 4)
      ∷ []
  five_events = refl

  parts : AreParts notes heads (a ∷ b ∷ d ∷ []) (x ∷ y ∷ z ∷ [])
  parts = record { notes = (refl, (refl, (refl, refl))); heads = (omega arith, omega arith, (omega arith, omega arith, (omega arith, omega arith, (refl, refl)))) }

  -- a turn is named at its place, and none is left out
  not_at_another_place : AreNotes 0 (note.Turn 1 ∷ note.Turn 0 ∷ []) 2 → ⊥
  not_at_another_place h = absurd (omega (arith, h.0))

  not_left_out : AreNotes 0 (note.Entered i p ∷ note.Turn 0 ∷ []) 2 → ⊥
  not_left_out h = absurd (omega (arith, h.1))

  -- an action is of some turn
  not_without_a_turn : AreHeads 0 0 (first ∷ []) 3 2 → ⊥
  not_without_a_turn h = absurd (omega (arith, h.2.0))

  -- the lists of a turn do not begin behind their end
  not_backwards : AreHeads 0 0 (third ∷ first ∷ []) 2 2 → ⊥
  not_backwards h = absurd (omega (arith, h.2.0))
