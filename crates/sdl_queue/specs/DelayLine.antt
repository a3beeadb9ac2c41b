-- Delay lines. A delaying path is a first-in first-out queue of signals (Z.101, channels). Here several feeders may put
-- into one line, each in a thread of its own, and the order between two of them is left open. (This project's own.)
use Rattle.std.specs.Prelude.{◌≡◌, ℕ, ◌<◌, ◌==◌, ◌⊎◌, List, [], ◌∷◌, ◌++◌, map, filter}
use Rattle.std.specs.List.{AllByRecursion}
use Rattle.sdl_signal.specs.declared.values.Item.{Item}
use Rattle.sdl_queue.specs.declared.rule.Tagged.{Tagged}
use Rattle.sdl_queue.specs.declared.rule.PutList.{PutList}

-- the items of the feeder with this number among these things, in order
abbrev pub items_by : ℕ → List Tagged → List Item
items_by f things = map (λ t. t.item) (filter (λ t. t.feeder == f) things)

-- each thing bears the number of one of the feeders
abbrev pub AreOfFeeders : ℕ → List Tagged → Type 0
AreOfFeeders feeders things = AllByRecursion (λ t. t.feeder < feeders) things

-- one of these lists is what the feeder with this number put
abbrev pub HasNumber : ℕ → List PutList → Type 0
HasNumber f [] = ⊥
HasNumber f (p ∷ ps) = (p.number ≡ f) ⊎ HasNumber f ps

-- there is a list for each feeder
abbrev pub Covers : ℕ → List PutList → Type 0
Covers feeders puts = (f : ℕ) → f < feeders → HasNumber f puts

-- what each feeder put is its things among those taken, and then its things among those left
abbrev pub IsEachPut : List PutList → List Tagged → List Tagged → Type 0
IsEachPut puts taken left = AllByRecursion (λ p. p.items ≡ items_by p.number taken ++ items_by p.number left) puts

-- Delay line: each thing, taken or left, bears the number of one of the queue's feeders; and for each feeder,
-- what it put is its things among those taken, and then its things among those left.
abbrev pub IsDelayLine : ℕ → List PutList → List Tagged → List Tagged → Type 0
IsDelayLine feeders puts taken left = AreOfFeeders feeders (taken ++ left) × Covers feeders puts × IsEachPut puts taken left
