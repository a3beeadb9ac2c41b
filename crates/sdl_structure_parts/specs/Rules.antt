-- When a structure is well formed. A rule is said of a place, and its fault applies where it fails there.
use Rattle.std.specs.Prelude.{◌≡◌, ◌≢◌, ℕ, ◌<◌, ◌≤◌, List, [], ◌∷◌, ◌==◌, IsSomeAnd, IfSome, Contains, Any, ◌⊎◌, ⊤, if◌then◌else◌}
use Rattle.std.specs.List.{position_or_len}
use Rattle.std.specs.Option.{option_map_or}
use Rattle.sdl_signal.specs.declared.ids.SetId.{SetId}
use Rattle.sdl_signal.specs.declared.ids.SignalId.{SignalId}
use Rattle.sdl_signal.specs.declared.ids.GateId.{GateId}
use Rattle.sdl_signal.specs.declared.ids.ChannelId.{ChannelId}
use Rattle.sdl_structure_parts.specs.declared.parts.Set.{Set}
use Rattle.sdl_structure_parts.specs.declared.parts.Gate.{Gate}
use Rattle.sdl_structure_parts.specs.declared.parts.Channel.{Channel}
use Rattle.sdl_structure_parts.specs.declared.parts.End.{End}
use Rattle.sdl_structure_parts.specs.declared.parts.Owner.TheVariants as owner
use Rattle.sdl_structure_parts.specs.declared.parts.Side.{Side}
use Rattle.sdl_structure_parts.specs.declared.parts.Side.TheVariants.{Outer, Inner}
use Rattle.sdl_structure_parts.specs.declared.parts.Direction.{Direction}
use Rattle.sdl_structure_parts.specs.declared.parts.Direction.TheVariants.{Forth, Back}
use Rattle.sdl_structure_parts.specs.declared.checking.CheckFault.{CheckFault}
use Rattle.sdl_structure_parts.specs.declared.checking.CheckFault.TheVariants.{BadEnds, EmptyChannel, NotInGate, Unjoined, LeadsNowhere, InitialOverMax}
use Rattle.sdl_structure_parts.specs.Order.{IsBefore}
use Rattle.sdl_structure_parts.specs.Structure.{Structure, Path, path_of, path_at, set_at, gate_at, channel_at, HasSide, other_side}

-- (1) The ends of a channel are at two gates, and not both at inner sides.
abbrev pub HasDistinctEnds : Channel → Type 0
HasDistinctEnds c = (c.first.gate ≢ c.second.gate) × ¬ ((c.first.side ≡ Inner) × (c.second.side ≡ Inner))

-- (2) A channel has a path whose list is not empty.
abbrev pub CarriesSome : Channel → Type 0
CarriesSome c = ¬ ((c.forth.items ≡ []) × (c.back.items ≡ []))

-- (3) At an outer side a signal of a path that starts there is in the outward list. One of a path that ends there is in
-- the inward list. At an inner side it is the reverse.
abbrev pub AdmitsStart : Gate → Side → SignalId → Type 0
AdmitsStart g Outer signal = Contains g.outward.items signal
AdmitsStart g Inner signal = Contains g.inward.items signal

abbrev pub AdmitsFinish : Gate → Side → SignalId → Type 0
AdmitsFinish g Outer signal = Contains g.inward.items signal
AdmitsFinish g Inner signal = Contains g.outward.items signal

abbrev pub IsAdmittedAt : Structure → Path → SignalId → GateId → Type 0
IsAdmittedAt s p signal gate =
    (p.start.gate ≡ gate → IfSome (gate_at s gate) (λ g. AdmitsStart g p.start.side signal)) ×
    (p.finish.gate ≡ gate → IfSome (gate_at s gate) (λ g. AdmitsFinish g p.finish.side signal))

-- (4) A side of a gate is the end of some channel.
abbrev pub IsJoined : Structure → End → Type 0
IsJoined s end = Any (λ channel. (channel.first ≡ end) ⊎ (channel.second ≡ end)) s.channels

-- (5) A signal of a path that ends at a block gate is carried by a path that starts on its other side.
abbrev pub IsBlockGate : Structure → GateId → Type 0
IsBlockGate s gate = IsSomeAnd (gate_at s gate) (λ g. elim g.owner [ owner.Block b ↦ ⊤ | _ ↦ ⊥ ])

abbrev pub CarriesFrom : Channel → Direction → End → SignalId → Type 0
CarriesFrom c d end signal = ((path_of c d).start ≡ end) × Contains (path_of c d).signals signal

abbrev pub StartsAt : Structure → SignalId → End → Type 0
StartsAt s signal end = Any (λ channel. (d : Direction) × CarriesFrom channel d end signal) s.channels

abbrev pub LeadsOn : Structure → End → SignalId → Type 0
LeadsOn s finish signal = IsBlockGate s finish.gate → StartsAt s signal (record { gate = finish.gate; side = other_side finish.side })

-- (6) The initial number of a set is not over its maximum.
abbrev pub StartsWithin : Set → Type 0
StartsWithin t = t.initial ≤ t.maximum

-- each rule holds at each of its places
pub record IsWellFormed (s : Structure) : Type 0 where
  pub distinct_ends : (c : ChannelId) → IfSome (channel_at s c) HasDistinctEnds
  pub carries_some : (c : ChannelId) → IfSome (channel_at s c) CarriesSome
  pub admitted : (c : ChannelId) (d : Direction) (x : SignalId) (g : GateId) → IfSome (path_at s c d) (λ p. Contains p.signals x → IsAdmittedAt s p x g)
  pub joined : (g : GateId) (side : Side) → IfSome (gate_at s g) (λ gate. HasSide gate.owner side → IsJoined s (record { gate = g; side = side }))
  pub leads_on : (c : ChannelId) (d : Direction) (x : SignalId) → IfSome (path_at s c d) (λ p. Contains p.signals x → LeadsOn s p.finish x)
  pub starts_within : (t : SetId) → IfSome (set_at s t) StartsWithin

-- the rule of the fault fails at the fault's place
abbrev pub Applies : Structure → CheckFault → Type 0
Applies s (BadEnds c) = IsSomeAnd (channel_at s c) (λ channel. ¬ HasDistinctEnds channel)
Applies s (EmptyChannel c) = IsSomeAnd (channel_at s c) (λ channel. ¬ CarriesSome channel)
Applies s (NotInGate c d x g) = IsSomeAnd (path_at s c d) (λ p. Contains p.signals x × ¬ IsAdmittedAt s p x g)
Applies s (Unjoined g side) = IsSomeAnd (gate_at s g) (λ gate. HasSide gate.owner side × ¬ IsJoined s (record { gate = g; side = side }))
Applies s (LeadsNowhere c d x) = IsSomeAnd (path_at s c d) (λ p. Contains p.signals x × ¬ LeadsOn s p.finish x)
Applies s (InitialOverMax t) = IsSomeAnd (set_at s t) (λ set. ¬ StartsWithin set)

-- the number of the rule
abbrev pub fault_number : CheckFault → ℕ
fault_number (BadEnds c) = 1
fault_number (EmptyChannel c) = 2
fault_number (NotInGate c d x g) = 3
fault_number (Unjoined g side) = 4
fault_number (LeadsNowhere c d x) = 5
fault_number (InitialOverMax t) = 6

-- forth stands before back, and outside before inside
abbrev pub direction_rank : Direction → ℕ
direction_rank Forth = 0
direction_rank Back = 1

abbrev pub side_rank : Side → ℕ
side_rank Outer = 0
side_rank Inner = 1

-- the signals of a path stand in the order of its list, and its start before its end
abbrev pub signal_rank : Path → SignalId → ℕ
signal_rank p x = position_or_len (λ y. y.0 == x.0) p.signals

abbrev pub end_rank : Path → GateId → ℕ
end_rank p g = if p.start.gate.0 == g.0 then 0 else 1

-- the place of a fault, as numbers to be compared one by one
abbrev pub fault_place : Structure → CheckFault → List ℕ
fault_place s (BadEnds c) = c.0 ∷ []
fault_place s (EmptyChannel c) = c.0 ∷ []
fault_place s (NotInGate c d x g) = c.0 ∷ direction_rank d ∷ option_map_or (λ p. signal_rank p x ∷ end_rank p g ∷ []) (path_at s c d) []
fault_place s (Unjoined g side) = g.0 ∷ side_rank side ∷ []
fault_place s (LeadsNowhere c d x) = c.0 ∷ direction_rank d ∷ option_map_or (λ p. signal_rank p x ∷ []) (path_at s c d) []
fault_place s (InitialOverMax t) = t.0 ∷ []

-- the fault applies, and none of a lower number does, nor one of the same number at an earlier place
pub record IsFirstFault (s : Structure) (fault : CheckFault) : Type 0 where
  pub applies : Applies s fault
  pub no_lower : (other : CheckFault) → Applies s other → ¬ (fault_number other < fault_number fault)
  pub no_earlier : (other : CheckFault) → Applies s other → fault_number other ≡ fault_number fault → ¬ IsBefore (fault_place s other) (fault_place s fault)
