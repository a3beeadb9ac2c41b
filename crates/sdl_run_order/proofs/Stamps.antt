-- A cause has a smaller stamp than what it caused.
use Rattle.std.proofs.Common.{ℕ, ◌+◌, ◌<◌, ◌≤◌, max, List, [], ◌∷◌, ◌++◌, ◌≡◌, inl, inr, ap, sym, subst, arith}
use Rattle.std.proofs.lemmas.List.Concat.{flat_map-append}
use Rattle.std.specs.List.{flat_map, AllByRecursion}
use Rattle.sdl_signal.specs.declared.values.Item.{Item}
use Rattle.sdl_instances_log.specs.declared.event.Event.{Event}
use Rattle.sdl_forward_opening.proofs.Bringing.{among_cases}
use Rattle.sdl_run_outcome.specs.Stations.{Among}
use Rattle.sdl_instances.specs.Run.{arrived_in, sent_by, done_in, all_done, sent, above, IsStamped}
use Rattle.sdl_run_outcome.specs.Causes.{Precedes, IsCause, direct, further}

pub among_all : {X : Type 0} (P : X → Type 0) (x : X) (xs : List X) → AllByRecursion P xs → Among x xs → P x
among_all P x [] h m = absurd m
among_all P x (y ∷ xs) h m = elim m [ inl e ↦ subst P (sym e) h.0 | inr n ↦ among_all P x xs h.1 n ]

above_start : (n : ℕ) (is : List Item) → n ≤ above n is
above_start n [] = omega arith
above_start n (i ∷ is) = let h = above_start (max n (i.stamp + 1)) is in omega arith

above_each : (n : ℕ) (is : List Item) (i : Item) → Among i is → i.stamp < above n is
above_each n [] i m = absurd m
above_each n (k ∷ is) i m = elim m [ inl e ↦ (let same = ap (λ (x : Item). x.stamp) e in let h = above_start (max n (k.stamp + 1)) is in omega arith) | inr h ↦ above_each (max n (k.stamp + 1)) is i h ]

sent_cons : (e : Event) (es : List Event) → sent (e ∷ es) ≡ flat_map sent_by (done_in e) ++ sent es
sent_cons e es = flat_map-append sent_by (done_in e) (all_done es)

sent_stamp : (n : ℕ) (log : List Event) → IsStamped n log → (o : Item) → Among o (sent log) → n ≤ o.stamp
sent_stamp n [] h o m = absurd m
sent_stamp n (e ∷ es) h o m = elim (among_cases o (flat_map sent_by (done_in e)) (sent es) (subst (λ (xs : List Item). Among o xs) (sent_cons e es) m)) [
  | inl a ↦ (let same = among_all (λ (i : Item). i.stamp ≡ n) o (flat_map sent_by (done_in e)) h.0 a in omega arith)
  | inr c ↦ (let later = sent_stamp (above n (arrived_in e)) es h.1 o c in let start = above_start n (arrived_in e) in omega arith)
]

precedes_stamp : (n : ℕ) (log : List Event) → IsStamped n log → (i o : Item) → Precedes i o log → i.stamp < o.stamp
precedes_stamp n [] h i o p = absurd p
precedes_stamp n (e ∷ es) h i o p = elim p [
  | inl q ↦ (let here = above_each n (arrived_in e) i q.0 in let later = sent_stamp (above n (arrived_in e)) es h.1 o q.1 in omega arith)
  | inr r ↦ precedes_stamp (above n (arrived_in e)) es h.1 i o r
]

pub cause_stamp : (logs : ℕ → List Event) → ((n : ℕ) → IsStamped 0 (logs n)) → (i o : Item) → IsCause logs i o → i.stamp < o.stamp
cause_stamp logs h i o (direct n p) = precedes_stamp 0 (logs n) (h n) i o p
cause_stamp logs h i o (further {k = k} a b) = let first = cause_stamp logs h i k a in let later = cause_stamp logs h k o b in omega arith
