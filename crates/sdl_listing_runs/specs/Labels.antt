-- The names of a listing's transitions. (This project's own.)
use Rattle.std.specs.Prelude.{ℕ, List, [], ◌∷◌, map, flat_map, Option, Some, None, option_map, unwrap_or, slice_get}
use Rattle.sdl_signal.specs.declared.ids.StateId.{StateId}
use Rattle.sdl_transition_behaviour.specs.declared.offer.SignalSorts.{SignalSorts}
use Rattle.sdl_structure_parts.specs.Structure.{Structure}
use Rattle.sdl_listing_body.specs.declared.syntax.Row.{Row}
use Rattle.sdl_listing_body.specs.declared.listing.ListedSet.{ListedSet}
use Rattle.sdl_app_file_commands.specs.Texts.{signal_text, set_text}
use Rattle.sdl_listing_runs.specs.declared.labels.Trigger.{Trigger}
use Rattle.sdl_listing_runs.specs.declared.labels.Label.{Label}

-- the names of the state and the signal that a transition is for
pub record TriggerNames : Type 0 where
  pub state : List ℕ
  pub signal : List ℕ

-- the names of a transition: of its set, and of what it is for, where it is no start
pub record TransitionNames : Type 0 where
  pub set : List ℕ
  pub trigger : Option TriggerNames

abbrev pub trigger_names : Trigger → TriggerNames
trigger_names t = record { state = t.state.bytes; signal = t.signal.bytes }

abbrev pub names_of : Label → TransitionNames
names_of l = record { set = l.set.bytes; trigger = option_map trigger_names l.trigger }

-- What a structure and a listing say of them. A number past the last has no name.
abbrev pub state_text : ListedSet → StateId → List ℕ
state_text l q = unwrap_or (option_map (λ n. n.bytes) (slice_get l.states.items q.0)) []

abbrev pub listed_trigger : Structure → ListedSet → Option StateId → Option SignalSorts → Option TriggerNames
listed_trigger s l (Some q) (Some x) = Some (record { state = state_text l q; signal = signal_text s x.id })
listed_trigger s l _ _ = None

abbrev pub start_names : Structure → ListedSet → TransitionNames
start_names s l = record { set = set_text s l.set; trigger = None }

abbrev pub row_names : Structure → ListedSet → Row → TransitionNames
row_names s l row = record { set = set_text s l.set; trigger = listed_trigger s l row.state row.signal }

-- of a set's transitions, the start first
abbrev pub set_names : Structure → ListedSet → List TransitionNames
set_names s l = start_names s l ∷ map (row_names s l) l.rows.items

-- of all transitions, by number
abbrev pub listed_names : Structure → List ListedSet → List TransitionNames
listed_names s listing = flat_map (set_names s) listing
