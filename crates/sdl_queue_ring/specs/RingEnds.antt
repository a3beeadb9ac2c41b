-- What a contract sees of the ends of a ring: a first-in first-out queue of one feeder and one taker (Z.101, channels).
-- (This project's own.)
use Rattle.std.specs.Prelude.{◌≡◌, ℕ, ◌⊎◌, List, [], ◌∷◌, ◌++◌, Option, Some, None}
use denote.RawPtr.{Ptr}
use Rattle.std.specs.Global.{Global}
use Rattle.rtrb.specs.Shared.{Names}
use Rattle.rtrb.specs.declared.end.End.{End}
use Rattle.sdl_signal.specs.declared.values.Item.{Item}

-- which opening an end is of: no two rings that live at one time have the same
pub record RingOpening : Type 0 where
  pub words : Ptr
  pub slots : Ptr
  pub names : Names
  pub heap : Global

abbrev pub opening_of : {T P : Type 0} → End T Global P → RingOpening
opening_of e = record { words = e.words; slots = e.slots; names = e.names; heap = e.heap }

-- a feed: which opening it is of, what it has put, and which of that still waits for room in the ring; how many free slots
-- of the ring it knows of
pub record RingFeedEnd : Type 0 where
  pub opening : RingOpening
  pub put : List Item
  pub backlog : List Item
  pub room : ℕ

-- a tap: which opening it is of, what was taken, and what it has seen in the ring and not taken yet
pub record RingTapEnd : Type 0 where
  pub opening : RingOpening
  pub taken : List Item
  pub seen : List Item

-- a ring both of whose ends have come back: what was put, what was taken, what is left
pub record RingAccount : Type 0 where
  pub put : List Item
  pub taken : List Item
  pub left : List Item

-- a backlog stands only where no slot is known to be free
abbrev pub WaitsForRoom : List Item → ℕ → Type 0
WaitsForRoom backlog room = (backlog ≡ []) ⊎ (room ≡ 0)

-- the backlog after a put: it is empty as it was, or the item is at its back
abbrev pub IsNextBacklog : List Item → Item → List Item → Type 0
IsNextBacklog old item new = ((old ≡ []) × (new ≡ [])) ⊎ (new ≡ old ++ item ∷ [])

-- what was in a slot was put behind the others, or it is there still, and nothing was put
abbrev pub IsPutFrom : Option Item → Option Item → List Item → List Item → Type 0
IsPutFrom None left old new = (left ≡ None) × (new ≡ old)
IsPutFrom (Some item) None old new = new ≡ old ++ item ∷ []
IsPutFrom (Some item) (Some back) old new = (back ≡ item) × (new ≡ old)

-- the backlog then
abbrev pub IsBacklogFrom : Option Item → Option Item → List Item → List Item → Type 0
IsBacklogFrom (Some item) None old new = IsNextBacklog old item new
IsBacklogFrom _ _ old new = new ≡ old
