-- The signals of a port in a queue for each signal, each with the number of its arrival.
use Rattle.std.specs.Prelude.{◌≡◌, ℕ, ◌<◌, ◌≤◌, Bool, true, false, if◌then◌else◌, nat_eq, get_or, List, [], ◌∷◌, ◌++◌, Option, None, Some}
use Rattle.std.specs.List.{filter, AllByRecursion}
use Rattle.sdl_signal.specs.declared.ids.SignalId.{SignalId}
use Rattle.sdl_signal.specs.declared.values.Item.{Item}
use Rattle.sdl_instances_processes.specs.declared.numbered.Numbered.{Numbered}
use Rattle.sdl_instances_processes.specs.declared.found.Found.{Found}

abbrev pub item_of : Numbered → Item
item_of a = a.item

-- the arrival is of the signal of this number
abbrev pub is_of_signal : ℕ → Numbered → Bool
is_of_signal s a = nat_eq a.item.signal.id.0 s

-- the arrivals without the first of the signal of this number
abbrev pub without : ℕ → List Numbered → List Numbered
without s [] = []
without s (a ∷ xs) = if is_of_signal s a then xs else a ∷ without s xs

-- each queue has the arrivals of its signal, by its number, the earliest first; a signal past the queues has none
abbrev pub AreBySignal : List (List Numbered) → List Numbered → Type 0
AreBySignal queues xs = (s : ℕ) → get_or queues s [] ≡ filter (is_of_signal s) xs

-- the numbers rise, and all are below the next one
abbrev pub Rises : List Numbered → ℕ → Type 0
Rises [] next = Unit {0}
Rises (a ∷ xs) next = (a.number < next) × AllByRecursion (λ (b : Numbered). a.number < b.number) xs × Rises xs next

-- Of those that stand first in one of the first n queues and are not saved, this has the least number.
pub record IsFirst (saved : SignalId → Bool) (queues : List (List Numbered)) (n : ℕ) (f : Found) : Type 0 where
  pub first : Numbered
  pub rest : List Numbered
  pub within : f.place < n
  pub queue : get_or queues f.place [] ≡ first ∷ rest
  pub number : first.number ≡ f.number
  pub not_saved : saved first.item.signal.id ≡ false
  pub least : (t : ℕ) (b : Numbered) (more : List Numbered) → t < n → get_or queues t [] ≡ b ∷ more → saved b.item.signal.id ≡ false → f.number ≤ b.number

-- the first of them, or none where each that stands first is saved
abbrev pub IsFirstOf : (SignalId → Bool) → List (List Numbered) → ℕ → Option Found → Type 0
IsFirstOf saved queues n None = (t : ℕ) (b : Numbered) (more : List Numbered) → t < n → get_or queues t [] ≡ b ∷ more → saved b.item.signal.id ≡ true
IsFirstOf saved queues n (Some f) = IsFirst saved queues n f

-- of those that stand last in one of the first n queues, this has the greatest number
pub record IsLast (queues : List (List Numbered)) (n : ℕ) (f : Found) : Type 0 where
  pub front : List Numbered
  pub last : Numbered
  pub within : f.place < n
  pub queue : get_or queues f.place [] ≡ front ++ last ∷ []
  pub number : last.number ≡ f.number
  pub greatest : (t : ℕ) (more : List Numbered) (b : Numbered) → t < n → get_or queues t [] ≡ more ++ b ∷ [] → b.number ≤ f.number

-- the last of them, or none where each queue is empty
abbrev pub IsLastOf : List (List Numbered) → ℕ → Option Found → Type 0
IsLastOf queues n None = (t : ℕ) → t < n → get_or queues t [] ≡ []
IsLastOf queues n (Some f) = IsLast queues n f
