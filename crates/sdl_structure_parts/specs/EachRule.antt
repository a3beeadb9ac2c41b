-- One rule at a time: where it holds, and its first fault.
use Rattle.std.specs.Prelude.{◌≡◌, ℕ, List, IfSome, Contains}
use Rattle.sdl_structure_parts.specs.declared.checking.CheckFault.{CheckFault}
use Rattle.sdl_structure_parts.specs.declared.checking.CheckFault.TheVariants.{BadEnds, EmptyChannel, NotInGate, Unjoined, LeadsNowhere, InitialOverMax}
use Rattle.sdl_structure_parts.specs.Order.{IsBefore}
use Rattle.sdl_structure_parts.specs.Structure.{Structure, path_at, set_at, gate_at, channel_at, HasSide}
use Rattle.sdl_structure_parts.specs.Rules.{HasDistinctEnds, CarriesSome, IsAdmittedAt, IsJoined, LeadsOn, StartsWithin, Applies, fault_number, fault_place}

-- the rule of the fault holds at the fault's place
abbrev pub Holds : Structure → CheckFault → Type 0
Holds s (BadEnds c) = IfSome (channel_at s c) HasDistinctEnds
Holds s (EmptyChannel c) = IfSome (channel_at s c) CarriesSome
Holds s (NotInGate c d x g) = IfSome (path_at s c d) (λ p. Contains p.signals x → IsAdmittedAt s p x g)
Holds s (Unjoined g side) = IfSome (gate_at s g) (λ gate. HasSide gate.owner side → IsJoined s (record { gate = g; side = side }))
Holds s (LeadsNowhere c d x) = IfSome (path_at s c d) (λ p. Contains p.signals x → LeadsOn s p.finish x)
Holds s (InitialOverMax t) = IfSome (set_at s t) StartsWithin

-- the rule of this number holds at all of its places
abbrev pub IsKept : Structure → ℕ → Type 0
IsKept s number = (fault : CheckFault) → fault_number fault ≡ number → Holds s fault

-- it holds at its places before this one
abbrev pub IsKeptBefore : Structure → ℕ → List ℕ → Type 0
IsKeptBefore s number place = (fault : CheckFault) → fault_number fault ≡ number → IsBefore (fault_place s fault) place → Holds s fault

-- the fault is the first of its rule
pub record IsFirstOf (s : Structure) (number : ℕ) (fault : CheckFault) : Type 0 where
  pub applies : Applies s fault
  pub number_is : fault_number fault ≡ number
  pub before : IsKeptBefore s number (fault_place s fault)
