-- The ends of an opening as a list.
use Rattle.std.proofs.Common.{◌≡◌, ℕ, zero, suc, ◌+◌, ◌<◌, List, [], ◌∷◌, ◌++◌, length, map, sym, refl, ap, ◌∙◌, subst, arith}
use Rattle.std.proofs.lemmas.List.FromFn.{map-range_with_len_more, length-map-range_with_len}
use Rattle.std.proofs.Common.{Option, Some, None, MatchOption, inl, inr, ⊎_elim, ◌≤◌, ◌≢◌}
use Rattle.std.proofs.lemmas.Bool.{cases_eq}
use Rattle.std.specs.List.{AllByRecursion, range_with_len}
use Rattle.sdl_queue.specs.declared.rule.PutList.{PutList}
use Rattle.sdl_queue.specs.declared.rule.Tagged.{Tagged}
use Rattle.sdl_queue.specs.declared.rule.View.{View}
use Rattle.crossbeam_queue.specs.Fifo.{Held}
use Rattle.sdl_queue.specs.DelayLine.{Covers, HasNumber, IsDelayLine}
use Rattle.sdl_queue.specs.Rule.{IsTap, IsWhole, tap_of, left_of, IsRejoined, HasTakenRejoined}
use Rattle.sdl_queue.specs.Ends.{Opening, FeedEnd, TapEnd, fresh_feed, fresh_feeds, put_of, AreAllEnds}

pub fresh_feeds-more : (o : Opening) (n : ℕ) → fresh_feeds o n ++ fresh_feed o n ∷ [] ≡ fresh_feeds o (n + 1)
fresh_feeds-more o n = sym (map-range_with_len_more (fresh_feed o) 0 n n (omega arith))

fresh_opening : (o : Opening) (ks : List ℕ) → AllByRecursion (λ (f : FeedEnd). f.opening ≡ o) (map (fresh_feed o) ks)
fresh_opening o [] = tt
fresh_opening o (k ∷ ks) = (refl, fresh_opening o ks)

fresh_has : (o : Opening) (f a n : ℕ) → a ≤ f → f < a + n → HasNumber f (map put_of (map (fresh_feed o) (range_with_len a n)))
fresh_has o f a zero from to = absurd (omega arith)
fresh_has o f a (suc n) from to = ⊎_elim (λ (e : f ≡ a). inl (sym e)) (λ (apart : f ≢ a). inr (fresh_has o f (a + 1) n (omega arith) (omega arith))) (cases_eq f a)

-- the ends of an opening are all its ends
pub all_fresh : (feeds : List FeedEnd) (tap : TapEnd) → feeds ≡ fresh_feeds tap.opening tap.feeders → AreAllEnds feeds tap
all_fresh feeds tap e = let n = tap.feeders in let o = tap.opening in
    subst (λ fs. AreAllEnds fs tap) (sym e) (fresh_opening o (range_with_len 0 n), length-map-range_with_len (fresh_feed o) 0 n, λ f lt. fresh_has o f 0 n (omega arith) (omega arith))

pub covers_along : (n m : ℕ) (ps qs : List PutList) → n ≡ m → ps ≡ qs → Covers m qs → Covers n ps
covers_along n m ps qs e is covers = subst (λ (y : ℕ × List PutList). Covers y.0 y.1) (λ i. (sym e i, sym is i)) covers

pub whole_along : (n : ℕ) (v w : View) (ps : List PutList) → w ≡ v → IsTap v → (tap_of v).feeders ≡ n → (tap_of v).joined ≡ ps → Covers n ps → IsWhole w
whole_along n v w ps e is m q covers = subst (λ u. IsWhole u) (sym e) (is, covers_along (tap_of v).feeders n (tap_of v).joined ps m q covers)

-- a take from a queue all of whose feeds have come back
pub whole_taken : (v w : View) (x : Tagged) → IsWhole v → HasTakenRejoined v x w → IsWhole w
whole_taken v w x is has = subst (λ u. IsWhole u) (sym has.0) (refl, is.1)

pub left_taken : (v w : View) (x : Tagged) → HasTakenRejoined v x w → left_of (tap_of v) ≡ x ∷ left_of (tap_of w)
left_taken v w x has = has.1 ∙ ap (λ u. x ∷ left_of (tap_of u)) (sym has.0)

pub settled_len : (n : ℕ) (v w : View) → w ≡ v → Held n (IsRejoined v) → n ≡ length (left_of (tap_of w))
settled_len n v w e h = sym h.1 ∙ ap length h.2.0 ∙ ap (λ u. length (left_of (tap_of u))) (sym e)

-- a look at a queue all of whose feeds have come back
pub settled_line : (n : ℕ) (v w : View) → w ≡ v → Held n (IsRejoined v) → let t = tap_of w in IsDelayLine t.feeders t.joined t.taken (left_of t)
settled_line n v w e h = let t = tap_of v in
    subst (λ u. let t = tap_of u in IsDelayLine t.feeders t.joined t.taken (left_of t)) (sym e) (subst (λ l. IsDelayLine t.feeders t.joined t.taken l) h.2.0 h.2.1)

pub took_left : (P : Type 0) (r : Option Tagged) (v w : View) → IsWhole v → MatchOption r ((w ≡ v) × IsRejoined v []) (λ x. HasTakenRejoined v x w × P)
    → IsWhole w × MatchOption r (left_of (tap_of v) ≡ []) (λ x. left_of (tap_of v) ≡ x ∷ left_of (tap_of w))
took_left P None v w is h = (subst (λ u. IsWhole u) (sym h.0) is, sym h.1.0)
took_left P (Some x) v w is h = (whole_taken v w x is h.0, left_taken v w x h.0)
