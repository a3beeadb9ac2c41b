-- The rules of one channel, of one set and of one gate: all places, and the first fault.
use Rattle.std.proofs.Common.{◌≡◌, ℕ, ◌<◌, [], ◌∷◌, length, Option, Some, None, slice_get, IfSome, inl, inr, refl, sym, subst, arith}
use Rattle.std.proofs.lemmas.Option.{slice_get_past}
use Rattle.sdl_signal.specs.declared.ids.ChannelId.{ChannelId}
use Rattle.sdl_signal.specs.declared.ids.GateId.{GateId}
use Rattle.sdl_structure_parts.specs.declared.parts.Channel.{Channel}
use Rattle.sdl_structure_parts.specs.declared.parts.Gate.{Gate}
use Rattle.sdl_structure_parts.specs.declared.parts.Side.{Side}
use Rattle.sdl_structure_parts.specs.declared.parts.Side.TheVariants.{Outer, Inner}
use Rattle.sdl_structure_parts.specs.declared.checking.CheckFault.{CheckFault}
use Rattle.sdl_structure_parts.specs.declared.checking.CheckFault.TheVariants.{EmptyChannel, Unjoined}
use Rattle.sdl_structure_parts.specs.Order.{IsBefore}
use Rattle.sdl_structure_parts.specs.Structure.{Structure, HasSide}
use Rattle.sdl_structure_parts.specs.Rules.{CarriesSome, IsJoined, fault_number, fault_place, side_rank}
use Rattle.sdl_structure_parts.specs.EachRule.{Holds, IsKept, IsFirstOf}
use Rattle.sdl_structure_parts.proofs.Numbers.{at_same, all_places, some_at, below_or_past}

-- the faults of one number are those of one form
pub only_2 : (P : CheckFault → Type 0) → ((c : ChannelId) → P (EmptyChannel c)) → (f : CheckFault) → fault_number f ≡ 2 → P f
only_2 P h (EmptyChannel c) e = h c
only_2 P h f e = absurd (omega arith)

pub only_4 : (P : CheckFault → Type 0) → ((g : GateId) (side : Side) → P (Unjoined g side)) → (f : CheckFault) → fault_number f ≡ 4 → P f
only_4 P h (Unjoined g side) e = h g side
only_4 P h f e = absurd (omega arith)

-- before a place of one number
one_before : (n i : ℕ) → IsBefore (n ∷ []) (i ∷ []) → n < i
one_before n i h = elim h [ inl lt ↦ lt | inr same ↦ absurd same.1 ]

pub signals_kept : (s : Structure) → ((n : ℕ) → n < length s.channels → IfSome (slice_get s.channels n) CarriesSome) → IsKept s 2
signals_kept s below = only_2 (Holds s) (λ c. all_places CarriesSome s.channels below c.0)

pub signals_first : (s : Structure) (i : ℕ) (channel : Channel) → ((n : ℕ) → n < i → IfSome (slice_get s.channels n) CarriesSome)
    → slice_get s.channels i ≡ Some channel → ¬ CarriesSome channel → IsFirstOf s 2 (EmptyChannel (record { 0 = i }))
signals_first s i channel below at fails = record {
  applies = some_at (λ channel. ¬ CarriesSome channel) (slice_get s.channels i) channel at fails;
  number_is = refl;
  before = only_2 (λ f. IsBefore (fault_place s f) (i ∷ []) → Holds s f) (λ c h. below c.0 (one_before c.0 i h));
}

-- a side of the gate of this number, if it has it, is the end of a channel
abbrev pub IsSideJoined : Structure → ℕ → Gate → Side → Type 0
IsSideJoined s n gate side = HasSide gate.owner side → IsJoined s (record { gate = record { 0 = n }; side = side })

abbrev pub AreSidesJoined : Structure → ℕ → Type 0
AreSidesJoined s n = IfSome (slice_get s.gates n) (λ gate. (side : Side) → IsSideJoined s n gate side)

side_of : (s : Structure) (n : ℕ) (o : Option Gate) (side : Side) → IfSome o (λ gate. (side : Side) → IsSideJoined s n gate side) → IfSome o (λ gate. IsSideJoined s n gate side)
side_of s n None side h = tt
side_of s n (Some gate) side h = h side

pub sides_more : (s : Structure) (i : ℕ) (gate : Gate) → slice_get s.gates i ≡ Some gate → ((side : Side) → IsSideJoined s i gate side) → AreSidesJoined s i
sides_more s i gate at h = at_same (λ gate. (side : Side) → IsSideJoined s i gate side) s.gates i i gate at refl h

pub sides_kept : (s : Structure) → ((n : ℕ) → n < length s.gates → AreSidesJoined s n) → IsKept s 4
sides_kept s below = only_4 (Holds s) (λ g side.
    elim (below_or_past g.0 (length s.gates)) [
      | inl lt ↦ side_of s g.0 (slice_get s.gates g.0) side (below g.0 lt)
      | inr past ↦ subst (λ (o : Option Gate). IfSome o (λ gate. IsSideJoined s g.0 gate side)) (sym (slice_get_past s.gates g.0 past)) tt
    ])

pub sides_first : (s : Structure) (i : ℕ) (gate : Gate) (side : Side) → ((n : ℕ) → n < i → AreSidesJoined s n)
    → slice_get s.gates i ≡ Some gate → HasSide gate.owner side → ¬ IsJoined s (record { gate = record { 0 = i }; side = side })
    → ((other : Side) → side_rank other < side_rank side → IsSideJoined s i gate other)
    → IsFirstOf s 4 (Unjoined (record { 0 = i }) side)
sides_first s i gate side below at has fails sooner = record {
  applies = some_at (λ gate. HasSide gate.owner side × ¬ IsJoined s (record { gate = record { 0 = i }; side = side })) (slice_get s.gates i) gate at (has, fails);
  number_is = refl;
  before = only_4 (λ f. IsBefore (fault_place s f) (i ∷ side_rank side ∷ []) → Holds s f) (λ g other h. elim h [
    | inl lt ↦ side_of s g.0 (slice_get s.gates g.0) other (below g.0 lt)
    | inr (same, rest) ↦ subst (λ n. IfSome (slice_get s.gates n) (λ gate. IsSideJoined s n gate other)) (sym same)
        (at_same (λ gate. IsSideJoined s i gate other) s.gates i i gate at refl (sooner other (one_before (side_rank other) (side_rank side) rest)))
  ]);
}

pub side_cases : (s : Structure) (i : ℕ) (gate : Gate) → IsSideJoined s i gate Outer → IsSideJoined s i gate Inner → (side : Side) → IsSideJoined s i gate side
side_cases s i gate outer inner Outer = outer
side_cases s i gate outer inner Inner = inner

-- no side stands before the outer one, and only that one before the inner one
pub before_outer : (s : Structure) (i : ℕ) (gate : Gate) (other : Side) → side_rank other < side_rank Outer → IsSideJoined s i gate other
before_outer s i gate Outer lt = absurd (omega arith)
before_outer s i gate Inner lt = absurd (omega arith)

pub before_inner : (s : Structure) (i : ℕ) (gate : Gate) → IsSideJoined s i gate Outer → (other : Side) → side_rank other < side_rank Inner → IsSideJoined s i gate other
before_inner s i gate outer Outer lt = outer
before_inner s i gate outer Inner lt = absurd (omega arith)
