-- For which states and signals the saves and the rows of a set are. (This project's own.)
use Rattle.std.specs.Prelude.{◌≢◌, Bool, false, ◌&&◌, ◌||◌, ◌==◌, List, [], ◌∷◌, ◌++◌, map, filter_map, Option, Some, None}
use Rattle.std.specs.List.{list_any, AllByRecursion}
use Rattle.sdl_signal.specs.declared.ids.SignalId.{SignalId}
use Rattle.sdl_signal.specs.declared.ids.StateId.{StateId}
use Rattle.sdl_transition_saves.specs.declared.save.Save.{Save}
use Rattle.sdl_transition_behaviour.specs.declared.offer.SignalSorts.{SignalSorts}
use Rattle.sdl_listing_body.specs.declared.syntax.Row.{Row}

abbrev pub save_head : Save → StateId × SignalId
save_head save = (save.state, save.signal)

-- a start has neither
abbrev pub head_from : Option StateId → Option SignalSorts → Option (StateId × SignalId)
head_from (Some state) (Some x) = Some (state, x.id)
head_from (Some state) None = None
head_from None signal = None

abbrev pub row_head : Row → Option (StateId × SignalId)
row_head row = head_from row.state row.signal

abbrev pub heads_of : List Save → List Row → List (StateId × SignalId)
heads_of saves rows = map save_head saves ++ filter_map row_head rows

abbrev pub AreDistinct : {X : Type 0} → List X → Type 0
AreDistinct [] = Unit {0}
AreDistinct (x ∷ xs) = AllByRecursion (λ y. x ≢ y) xs × AreDistinct xs

-- no two of the saves and the rows are for the same state and signal
abbrev pub AreOnce : List Save → List Row → Type 0
AreOnce saves rows = AreDistinct (heads_of saves rows)

-- a save, and a row, is for the state and the signal
abbrev pub is_save_for : StateId → SignalId → Save → Bool
is_save_for state signal save = (save.state.0 == state.0) && (save.signal.0 == signal.0)

abbrev pub is_state : StateId → Option StateId → Bool
is_state state (Some x) = x.0 == state.0
is_state state None = false

abbrev pub is_signal : SignalId → Option SignalSorts → Bool
is_signal signal (Some x) = x.id.0 == signal.0
is_signal signal None = false

abbrev pub is_row_for : StateId → SignalId → Row → Bool
is_row_for state signal row = is_state state row.state && is_signal signal row.signal

-- some save or some row is
abbrev pub is_taken : StateId → SignalId → List Save → List Row → Bool
is_taken state signal saves rows = list_any (λ x. is_save_for state signal x) saves || list_any (λ x. is_row_for state signal x) rows
