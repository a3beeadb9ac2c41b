-- A turn's event whose parts are written where they are to stand. (This project's own.)
use Rattle.std.specs.Prelude.{◌≡◌, ℕ, List, [], None, Some}
use Rattle.sdl_instances_log.specs.declared.event.Event.{Event}
use Rattle.sdl_instances_log.specs.declared.event.Event.TheVariants as event

-- a turn with a step, in none of whose lists there is anything
abbrev pub IsUnfilled : Event → Type 0
IsUnfilled (event.Turn p t f (Some s) did n) = (f.vars.items ≡ []) × (s.actions.items ≡ []) × (s.vars.items ≡ []) × (did.items ≡ [])
IsUnfilled (event.Turn p t f None did n) = ⊥
IsUnfilled (event.Entered i p) = ⊥
IsUnfilled (event.Discarded i c) = ⊥

-- What a contract sees of a log whose places are filled ahead: its events, and how many places there are for them.
pub record Places : Type 0 where
  pub events : List Event
  pub places : ℕ
