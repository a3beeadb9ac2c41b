-- All six rules, and what it means that a fault is the first.
use Rattle.std.proofs.Common.{Option, Some, None, IfSome, IfNone, IsSomeAnd, MatchOption, refl}
use Rattle.sdl_structure_parts.specs.declared.checking.CheckFault.{CheckFault}
use Rattle.sdl_structure_parts.specs.declared.checking.CheckFault.TheVariants.{BadEnds, EmptyChannel, NotInGate, Unjoined, LeadsNowhere, InitialOverMax}
use Rattle.sdl_structure_parts.specs.Structure.{Structure, channel_at, set_at, gate_at, path_at}
use Rattle.sdl_structure_parts.specs.Rules.{IsWellFormed, Applies}
use Rattle.sdl_structure_parts.specs.EachRule.{Holds, IsKept}

never_both : {X : Type 0} (P Q : X → Type 0) → ((x : X) → P x → Q x → ⊥) → (o : Option X) → IfSome o P → IsSomeAnd o Q → ⊥
never_both P Q apart None p q = q
never_both P Q apart (Some x) p q = apart x p q

-- where a rule holds its fault does not apply
pub holds_never_applies : (s : Structure) (f : CheckFault) → Holds s f → Applies s f → ⊥
holds_never_applies s (BadEnds c) h a = never_both _ _ (λ x p q. q p) (channel_at s c) h a
holds_never_applies s (EmptyChannel c) h a = never_both _ _ (λ x p q. q p) (channel_at s c) h a
holds_never_applies s (NotInGate c d x g) h a = never_both _ _ (λ p h q. q.1 (h q.0)) (path_at s c d) h a
holds_never_applies s (Unjoined g side) h a = never_both _ _ (λ gate h q. q.1 (h q.0)) (gate_at s g) h a
holds_never_applies s (LeadsNowhere c d x) h a = never_both _ _ (λ p h q. q.1 (h q.0)) (path_at s c d) h a
holds_never_applies s (InitialOverMax t) h a = never_both _ _ (λ x p q. q p) (set_at s t) h a

pub holds_everywhere : (s : Structure) → IsWellFormed s → (f : CheckFault) → Holds s f
holds_everywhere s w (BadEnds c) = w.distinct_ends c
holds_everywhere s w (EmptyChannel c) = w.carries_some c
holds_everywhere s w (NotInGate c d x g) = w.admitted c d x g
holds_everywhere s w (Unjoined g side) = w.joined g side
holds_everywhere s w (LeadsNowhere c d x) = w.leads_on c d x
holds_everywhere s w (InitialOverMax t) = w.starts_within t

pub all_kept : (s : Structure) → IsKept s 1 → IsKept s 2 → IsKept s 3 → IsKept s 4 → IsKept s 5 → IsKept s 6 → IsWellFormed s
all_kept s k1 k2 k3 k4 k5 k6 = record {
  distinct_ends = λ c. k1 (BadEnds c) refl;
  carries_some = λ c. k2 (EmptyChannel c) refl;
  admitted = λ c d x g. k3 (NotInGate c d x g) refl;
  joined = λ g side. k4 (Unjoined g side) refl;
  leads_on = λ c d x. k5 (LeadsNowhere c d x) refl;
  starts_within = λ t. k6 (InitialOverMax t) refl;
}

pub if_none : (r : Option CheckFault) (K W : Type 0) (Q : CheckFault → Type 0) → MatchOption r K Q → (K → W) → IfNone r W
if_none None K W Q m f = f m
if_none (Some x) K W Q m f = tt
