-- How many living instances are ready for a turn, and what is kept of it.
use Rattle.std.specs.Prelude.{◌≡◌, ℕ, ◌+◌, ◌*◌, ◌<◌, ◌≤◌, min, true, List, Some, length, take, slice_get, count_by}
use Rattle.std.specs.List.{sum}
use Rattle.sdl_instances_processes.specs.declared.ready.ReadyCounts.{ReadyCounts}
use Rattle.sdl_instances_processes.specs.Record.{Record, is_ready}

-- how many of the first n are ready
abbrev pub ready_before : List Record → ℕ → ℕ
ready_before rs n = count_by is_ready (take n rs)

-- each number counts the ready ones among so many places in turn
abbrev pub AreCounts : ℕ → List ℕ → List Record → Type 0
AreCounts width counts rs = (n : ℕ) → sum (take n counts) ≡ ready_before rs (width * n)

-- for how many places there is a number in each list
abbrev pub room_of : ReadyCounts → ℕ
room_of c = min (length c.places.items) (min (32 * length c.groups.items) (1024 * length c.ranges.items))

-- the counts are those of these instances
pub record AreReadyCounts (c : ReadyCounts) (rs : List Record) : Type 0 where
  pub count : c.count ≡ count_by is_ready rs
  pub places : AreCounts 1 c.places.items rs
  pub groups : AreCounts 32 c.groups.items rs
  pub ranges : AreCounts 1024 c.ranges.items rs
  pub within : length rs ≤ room_of c

-- one more is ready, the one at this place, and no other differs in it
abbrev pub OneMoreReady : ℕ → List Record → List Record → Type 0
OneMoreReady place old new =
    (n : ℕ) → (place < n → ready_before new n ≡ ready_before old n + 1) × (n ≤ place → ready_before new n ≡ ready_before old n)

-- the number there is 1 more, and no other differs
abbrev pub IsRaised : ℕ → List ℕ → List ℕ → Type 0
IsRaised at old new =
    (length new ≡ length old) × ((n : ℕ) → (at < n → sum (take n new) ≡ sum (take n old) + 1) × (n ≤ at → sum (take n new) ≡ sum (take n old)))

-- at this place stands the ready one before which k ready ones stand
abbrev pub IsReadyPlace : List Record → ℕ → ℕ → Type 0
IsReadyPlace rs k place =
    (r : Record) × (slice_get rs place ≡ Some r) × (is_ready r ≡ true) × (ready_before rs place ≡ k)
