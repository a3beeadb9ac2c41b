-- The places of the living instances of each set.
use Rattle.std.specs.Prelude.{◌≡◌, ℕ, ◌+◌, ◌-◌, Bool, false, not, nat_eq, nat_lt, if◌then◌else◌, List, [], ◌∷◌, ◌++◌, map, get_or}
use Rattle.std.specs.List.{filter}
use Rattle.sdl_signal.specs.declared.ids.SetId.{SetId}
use Rattle.sdl_signal.specs.declared.values.Pid.{Pid}
use Rattle.sdl_signal.specs.declared.values.Pid.TheVariants as pid
use Rattle.sdl_instances_processes.specs.Record.{Record}

-- whether the Pid is an instance of the set
abbrev pub is_of : SetId → Pid → Bool
is_of set (pid.Inst own serial) = nat_eq own.0 set.0
is_of set pid.Null = false
is_of set pid.Env = false

-- what a contract sees of the living instances: their entries in the order of creation, how many can be added without
-- taking memory, and of how many sets
pub record Listed : Type 0 where
  pub entries : List (Pid × Record)
  pub creatable : ℕ
  pub sets : ℕ

-- what a contract sees of the lists of places by set: each list, and how many places can be added to each without taking
-- memory
pub record BySet : Type 0 where
  pub lists : List (List ℕ)
  pub room : ℕ

-- a place alone, or none
abbrev pub at_if : ℕ → Bool → List ℕ
at_if n b = if b then n ∷ [] else []

-- the places of the entries that pass the test, which count from n on
abbrev pub places : (Pid × Record → Bool) → ℕ → List (Pid × Record) → List ℕ
places test n [] = []
places test n (e ∷ more) = at_if n (test e) ++ places test (n + 1) more

-- those of the instances of a set
abbrev pub set_places : SetId → List (Pid × Record) → List ℕ
set_places set es = places (λ e. is_of set e.0) 0 es

-- each list has the places of the instances of its set, and a set with no list has no instance
abbrev pub AreBySet : List (List ℕ) → List (Pid × Record) → Type 0
AreBySet lists es = (set : SetId) → get_or lists set.0 [] ≡ set_places set es

-- a place, once the one at k is gone
abbrev pub lowered : ℕ → ℕ → ℕ
lowered k n = if nat_lt k n then n - 1 else n

-- the places without the one at k, once it is gone
abbrev pub left : ℕ → List ℕ → List ℕ
left k ns = map (lowered k) (filter (λ n. not (nat_eq n k)) ns)
