-- The marks of stations, numbers below 193, and sets of marks. (This project's own.)
use Rattle.std.specs.Prelude.{◌≡◌, ◌≢◌, ℕ, ◌+◌, ◌*◌, ◌/◌, ◌%◌, ◌<◌, ◌↔◌, if◌then◌else◌, slice_index}
use Rattle.std.specs.Int.{bit_at}
use Rattle.sdl_routes.specs.declared.route.Station.{Station}
use Rattle.sdl_routes.specs.declared.route.Station.TheVariants.{Line, Inlet, Outlet}
use Rattle.sdl_forward_ends.specs.declared.marks.Marks.{Marks}

-- inlets by block, the outlet, paths by channel, forth and back
abbrev pub mark : Station → ℕ
mark (Inlet b) = b.0 % 64
mark Outlet = 64
mark (Line h) = 65 + (h.channel.0 % 64) * 2 + (if h.back then 1 else 0)

-- the set has the mark: a bit of one of its words
unfoldable pub HasMark : Marks → ℕ → Type 0
HasMark marks m = bit_at (slice_index marks.words (m / 64)) (m % 64) ≡ 1

-- it has none
abbrev pub IsEmpty : Marks → Type 0
IsEmpty marks = (m : ℕ) → ¬ (HasMark marks m)

-- it has the mark, and none below it
pub record IsLeast (marks : Marks) (mark : ℕ) : Type 0 where
  pub has : HasMark marks mark
  pub below : (m : ℕ) → m < mark → ¬ (HasMark marks m)

-- the new set has what the old one has but the mark
abbrev pub IsWithout : Marks → ℕ → Marks → Type 0
IsWithout old mark new = (m : ℕ) → HasMark new m ↔ (HasMark old m × m ≢ mark)
