-- Input ports from which the first signal is taken that is not saved. (Z.101, input port and save.)
use Rattle.std.specs.Prelude.{◌≡◌, Bool, true, false, if◌then◌else◌, List, [], ◌∷◌, ◌++◌, Option, None, Some}
use Rattle.std.specs.List.{AllByRecursion}
use Rattle.sdl_signal.specs.declared.ids.SignalId.{SignalId}
use Rattle.sdl_signal.specs.declared.values.Item.{Item}
use Rattle.sdl_transition_saves.specs.declared.signal_set.SignalSet.{SignalSet}

-- What a contract sees of a port: its signals, the earliest first; which are saved now; and whether some state may save
-- something.
pub record Held : Type 0 where
  pub items : List Item
  pub current : SignalSet
  pub may_save : Bool

-- the first that is not saved
abbrev pub next_in : (SignalId → Bool) → List Item → Option Item
next_in saved [] = None
next_in saved (i ∷ is) = if saved i.signal.id then next_in saved is else Some i

abbrev pub AllSaved : (SignalId → Bool) → List Item → Type 0
AllSaved saved is = AllByRecursion (λ (i : Item). saved i.signal.id ≡ true) is

-- The first signal that is not saved is taken out of its place. Those before it are saved. They and those behind it stay, in
-- their order.
pub record TakesOut (saved : SignalId → Bool) (items : List Item) (i : Item) (rest : List Item) : Type 0 where
  pub before : List Item
  pub behind : List Item
  pub items_are : items ≡ before ++ i ∷ behind
  pub rest_is : rest ≡ before ++ behind
  pub all_saved : AllSaved saved before
  pub not_saved : saved i.signal.id ≡ false
