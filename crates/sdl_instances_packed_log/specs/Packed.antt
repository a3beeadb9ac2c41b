-- A log whose events are kept in parts.
use Rattle.std.specs.Prelude.{◌≡◌, ℕ, zero, suc, ◌+◌, ◌≤◌, List, [], ◌∷◌, ◌++◌, length, slice_range, Option, None, Some}
use Rattle.sdl_transition_behaviour.specs.declared.step.Action.{Action}
use Rattle.sdl_transition_behaviour.specs.declared.step.Step.{Step}
use Rattle.sdl_instances_log.specs.declared.event.Event.{Event}
use Rattle.sdl_instances_log.specs.declared.event.Event.TheVariants as event
use Rattle.sdl_instances_log.specs.declared.event.Done.{Done}
use Rattle.sdl_instances_packed_log.specs.declared.packed.Note.{Note}
use Rattle.sdl_instances_packed_log.specs.declared.packed.Note.TheVariants as note
use Rattle.sdl_instances_packed_log.specs.declared.packed.Last.{Last}
use Rattle.sdl_instances_packed_log.specs.declared.packed.Head.{Head}
use Rattle.sdl_instances_packed_log.specs.declared.shown.Shown.{Shown}
use Rattle.sdl_instances_packed_log.specs.declared.shown.Shown.TheVariants as shown
use Rattle.sdl_instances_packed_log.specs.declared.shown.ShownStep.{ShownStep}

-- what the transition answered, of its end and its actions
abbrev pub step_of : Option Last → List Action → Option Step
step_of None actions = None
step_of (Some l) actions = Some (record { actions = record { items = actions }; vars = l.vars; next = l.next })

-- a step is kept: its end, and its actions after those of the steps before
abbrev pub KeepsStep : Step → Last → List Action → List Action → Type 0
KeepsStep step last old new = (more : List Action) × (new ≡ old ++ more) × (step_of (Some last) more ≡ Some step)

-- a turn, of what is kept of it by itself, its actions and what they did
abbrev pub turn_of : Head → List Action → List Done → Event
turn_of h actions done = event.Turn h.pid h.trigger h.frame (step_of h.last actions) (record { items = done }) h.stopped

-- the turns, of which the first has the actions from one place on, and what they did from another
abbrev pub turns_from : ℕ → ℕ → List Head → List Action → List Done → List Event
turns_from a d [] actions done = []
turns_from a d (h ∷ hs) actions done = turn_of h (slice_range actions a h.actions_end) (slice_range done d h.done_end) ∷ turns_from h.actions_end h.done_end hs actions done

-- each turn's lists begin where those of the turn before end, and the last end where the lists do
abbrev pub AreHeads : ℕ → ℕ → List Head → ℕ → ℕ → Type 0
AreHeads a d [] actions done = (a ≡ actions) × (d ≡ done)
AreHeads a d (h ∷ hs) actions done = (a ≤ h.actions_end) × (d ≤ h.done_end) × AreHeads h.actions_end h.done_end hs actions done

-- where the lists of the turn at a place begin
abbrev pub begins : ℕ → ℕ → List Head → ℕ → ℕ × ℕ
begins a d hs zero = (a, d)
begins a d [] (suc n) = (a, d)
begins a d (h ∷ hs) (suc n) = begins h.actions_end h.done_end hs n

-- the events in their order, the turns among them being these
abbrev pub events_of : List Note → List Event → List Event
events_of [] turns = []
events_of (note.Entered i p ∷ ns) turns = event.Entered i p ∷ events_of ns turns
events_of (note.Discarded i c ∷ ns) turns = event.Discarded i c ∷ events_of ns turns
events_of (note.Turn place ∷ ns) [] = []
events_of (note.Turn place ∷ ns) (t ∷ turns) = t ∷ events_of ns turns

-- the notes name the turns from one place on, each once and in order, up to an end
abbrev pub AreNotes : ℕ → List Note → ℕ → Type 0
AreNotes from [] end = from ≡ end
AreNotes from (note.Entered i p ∷ ns) end = AreNotes from ns end
AreNotes from (note.Discarded i c ∷ ns) end = AreNotes from ns end
AreNotes from (note.Turn place ∷ ns) end = (place ≡ from) × AreNotes (from + 1) ns end

-- the parts belong together
pub record AreParts (ns : List Note) (hs : List Head) (actions : List Action) (done : List Done) : Type 0 where
  pub notes : AreNotes 0 ns (length hs)
  pub heads : AreHeads 0 0 hs (length actions) (length done)

-- the events that are kept in these parts
abbrev pub events_in : List Note → List Head → List Action → List Done → List Event
events_in notes heads actions done = events_of notes (turns_from 0 0 heads actions done)

-- a log that is kept in parts: its events, and for how many more there is room
pub record Log : Type 0 where
  pub events : List Event
  pub room : ℕ

-- what is shown of the step of a turn
abbrev pub step_shown : Option ShownStep → Option Step
step_shown None = None
step_shown (Some s) = Some (record { actions = record { items = s.actions.now }; vars = s.vars.now; next = s.next })

-- the event that is shown
abbrev pub event_shown : Shown → Event
event_shown (shown.Entered i p) = event.Entered i.now p
event_shown (shown.Discarded i c) = event.Discarded i.now c
event_shown (shown.Turn p t f s d n) = event.Turn p t.now f.now (step_shown s) (record { items = d.now }) n
