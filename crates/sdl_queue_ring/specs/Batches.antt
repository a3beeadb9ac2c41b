-- What the slots of a ring hold.
use Rattle.std.specs.Prelude.{◌≡◌, ℕ, ◌-◌, ◌^◌, ◌<◌, List, [], ◌∷◌, ◌++◌, length, take}
use Rattle.sdl_signal.specs.declared.values.Item.{Item}
use Rattle.sdl_queue_ring.specs.declared.ring.Batch.{Batch}

-- the items of batches, from the front
unfoldable pub items_of : List Batch → List Item
items_of [] = []
items_of (b ∷ bs) = (b.first ∷ b.rest.items) ++ items_of bs

-- a list without as many of its last as the others are
abbrev pub without : List Item → List Item → List Item
without all others = take (length all - length others) all

-- a count of things, as far as a number can tell
abbrev pub IsCount : ℕ → ℕ → Type 0
IsCount count n = n < 2 ^ 64 → count ≡ n
