-- Each step keeps the rule of the line.
use Rattle.std.proofs.Common.{◌≡◌, ◌≢◌, ℕ, zero, suc, ◌+◌, ◌<◌, ◌≤◌, nat_lt, List, [], ◌∷◌, ◌++◌, length, drop, set, sym, refl, ap, ◌∙◌, subst, inl, inr, ⊎_elim, append_assoc, append-nil, arith, ltb-true, ltb-false}
use mathlib.Core.Option.{some, some-injective, some-ne-none}
use lib.ListN.{get_elem?}
use Rattle.std.specs.List.{AllByRecursion}
use Rattle.std.proofs.lemmas.Bool.{cases_eq, cond_both}
use Rattle.crossbeam_queue.specs.Fifo.{Pushes, Pops, Forks, Merges, Learns}
use Rattle.crossbeam_queue.proofs.Lists.{at_set}
use Rattle.sdl_queue.specs.declared.rule.Tagged.{Tagged}
use Rattle.sdl_queue.specs.declared.rule.PutList.{PutList}
use Rattle.sdl_queue.specs.declared.rule.Taking.{Taking}
use Rattle.sdl_queue.specs.declared.rule.View.{View}
use Rattle.sdl_queue.specs.declared.rule.View.TheVariants.{Spent, Feeds, Takes}
use Rattle.sdl_queue.specs.DelayLine.{items_by, AreOfFeeders, HasNumber}
use Rattle.sdl_queue.specs.Ends.{put_list}
use Rattle.sdl_queue.specs.Rule.{taking, seen_by, tap_of, IsFeeder, IsTap, IsWhole, unfed, with_feeder, new_feeder, longer, with_put, gathered, HasPut, with_taken, HasTaken, left_of, IsRejoined, HasTakenRejoined, Chronicle, HasJoined, TapAgreesWith, AgreesWith, InLine}
use Rattle.sdl_queue.proofs.Puts.{items_by-append, items_by-own, items_by-other, every, every-append, drop-append-same, whole, at_new, updated, updated_here, updated_else}

abbrev Seen : Type 0
Seen = ℕ → List Tagged

-- what a feeder put is its part of the history
known : (n f : ℕ) (seen : Seen) (h : List Tagged) → Chronicle n seen h → items_by f h ≡ items_by f (seen f)
known n f seen h c = let a = c.ahead f in ap (items_by f) a.1 ∙ items_by-append f (seen f) a.0 ∙ ap (λ l. items_by f (seen f) ++ l) a.2 ∙ append-nil (items_by f (seen f))

-- A put

grown : (n f : ℕ) (seen : Seen) (h : List Tagged) (t : Tagged) → t.feeder ≡ f → f < n → Chronicle n seen h → Chronicle n (updated seen f (h ++ t ∷ [])) (h ++ t ∷ [])
grown n f seen h t own lt c = let h' : List Tagged = h ++ t ∷ [] in record {
  numbered = every-append (λ (t : Tagged). t.feeder < n) h (t ∷ []) c.numbered (subst (λ k. k < n) (sym own) lt, tt);
  unseen = λ k le. let apart : k ≢ f = omega arith in updated_else seen f h' k apart ∙ c.unseen k le;
  ahead = λ k. ⊎_elim
      (λ (is : k ≡ f). ([], sym (append-nil h') ∙ ap (λ l. l ++ []) (sym (updated_here seen f h' k is)), refl))
      (λ (apart : k ≡ f → ⊥). let a = c.ahead k in (
        a.0 ++ t ∷ [],
        ap (λ l. l ++ t ∷ []) a.1 ∙ append_assoc (seen k) a.0 (t ∷ []) ∙ ap (λ l. l ++ (a.0 ++ t ∷ [])) (sym (updated_else seen f h' k apart)),
        items_by-append k a.0 (t ∷ []) ∙ ap (λ l. l ++ items_by k (t ∷ [])) a.2 ∙ items_by-other k t (λ e. apart (sym e ∙ own)),
      )) (cases_eq k f);
  last = inr (f, lt, updated_here seen f h' f refl);
}

-- what another pass knows stays true
fits_grown : (n tap : ℕ) (seat : ℕ → ℕ) (seen : Seen) (taken h : List Tagged) (t : Tagged) (f pass j : ℕ) (v : View) → seat f ≡ pass → j ≢ pass
    → AgreesWith n tap seat seen taken h j v → AgreesWith n tap seat (updated seen f (h ++ t ∷ [])) taken (h ++ t ∷ []) j v
fits_grown n tap seat seen taken h t f pass j Spent at other fit = tt
fits_grown n tap seat seen taken h t f pass j (Feeds m s) at other fit = let apart : m ≢ f = λ e. other (sym fit.1 ∙ ap seat e ∙ at) in (fit.0, fit.1, updated_else seen f (h ++ t ∷ []) m apart ∙ fit.2)
fits_grown n tap seat seen taken h t f pass j (Takes a) at other fit =
    let h' : List Tagged = h ++ t ∷ [] in
    let same : (p : PutList) → HasJoined n tap seat seen taken h a.latest p → HasJoined n tap seat (updated seen f h') taken h' a.latest p = λ p q.
    let apart : p.number ≢ f = λ e. other (fit.1 ∙ sym q.1 ∙ ap seat e ∙ at) in let is = updated_else seen f h' p.number apart in
    (q.0, q.1, ap (items_by p.number) is ∙ q.2, subst (λ l. length l ≤ length a.latest) (sym is) q.3) in
    (fit.0, fit.1, fit.2, every (HasJoined n tap seat seen taken h a.latest) (HasJoined n tap seat (updated seen f h') taken h' a.latest) same a.joined fit.3, (fit.4.0 ++ t ∷ [], ap (λ l. l ++ t ∷ []) fit.4.1 ∙ append_assoc a.latest fit.4.0 (t ∷ [])))

abbrev FitAll : ℕ → ℕ → (ℕ → ℕ) → Seen → List Tagged → List Tagged → List View → Type 0
FitAll n tap seat seen taken h views = (pass : ℕ) (v : View) → get_elem? views pass ≡ some v → AgreesWith n tap seat seen taken h pass v

-- one view changed, the others not
fit_set : (F : ℕ → View → Type 0) (views : List View) (pass : ℕ) (w : View) → F pass w → ((j : ℕ) (u : View) → j ≢ pass → get_elem? views j ≡ some u → F j u)
    → (j : ℕ) (u : View) → get_elem? (set views pass w) j ≡ some u → F j u
fit_set F views pass w mine others j u e = ⊎_elim (λ (x : (j ≡ pass) × (w ≡ u)). subst (λ (y : ℕ × View). F y.0 y.1) (λ i. (sym x.0 i, x.1 i)) mine)
    (λ (x : (j ≢ pass) × (get_elem? views j ≡ some u)). others j u x.0 x.1) (at_set views pass j w u e)

pub pushes : (n pass : ℕ) (v : View) (t : Tagged) → IsFeeder t.feeder v → Pushes InLine n pass v t (HasPut v t)
pushes n pass v t is items views _ r at =
    let f : ℕ = t.feeder in let s : List Tagged = seen_by v in
    let h : List Tagged = r.taken ++ items in let h' : List Tagged = h ++ t ∷ [] in
    let mine : AgreesWith r.feeders r.tap r.seat r.seen r.taken h pass (Feeds f s) = subst (AgreesWith r.feeders r.tap r.seat r.seen r.taken h pass) is (r.fits pass v at) in
    let c = grown r.feeders f r.seen h t refl mine.0 r.chronicle in
    let seen' : Seen = updated r.seen f h' in
    let fits : FitAll r.feeders r.tap r.seat seen' r.taken h' (set views pass (Feeds f h')) =
    fit_set (AgreesWith r.feeders r.tap r.seat seen' r.taken h') views pass (Feeds f h') (mine.0, mine.1, updated_here r.seen f h' f refl)
    (λ j u other e. fits_grown r.feeders r.tap r.seat r.seen r.taken h t f pass j u mine.1 other (r.fits j u e)) in
    let flat : h' ≡ r.taken ++ (items ++ t ∷ []) = append_assoc r.taken items (t ∷ []) in (
      Feeds f h',
      record {
        feeders = r.feeders;
        tap = r.tap;
        seat = r.seat;
        seen = seen';
        taken = r.taken;
        chronicle = subst (Chronicle r.feeders seen') flat c;
        fits = subst (λ l. FitAll r.feeders r.tap r.seat seen' r.taken l (set views pass (Feeds f h'))) flat fits;
      },
      (refl, items_by-append f h (t ∷ []) ∙ ap (λ l. l ++ items_by f (t ∷ [])) (known r.feeders f r.seen h r.chronicle ∙ ap (items_by f) mine.2) ∙ ap (λ l. items_by f s ++ l) (items_by-own f t refl)),
    )

-- A take

taken_fits : (items : List Tagged) (views : List View) (pass : ℕ) (v : View) (r : InLine items views) → IsTap v → get_elem? views pass ≡ some v → TapAgreesWith r.feeders r.tap r.seat r.seen r.taken (r.taken ++ items) pass (tap_of v)
taken_fits items views pass v r is at = subst (AgreesWith r.feeders r.tap r.seat r.seen r.taken (r.taken ++ items) pass) is (r.fits pass v at)

-- another pass is a feeder's, or spent, and what a feeder knows does not depend on what was taken
fits_else : (n tap : ℕ) (seat : ℕ → ℕ) (seen : Seen) (taken taken' h h' : List Tagged) (j : ℕ) (v : View) → j ≢ tap → AgreesWith n tap seat seen taken h j v → AgreesWith n tap seat seen taken' h' j v
fits_else n tap seat seen taken taken' h h' j Spent other fit = tt
fits_else n tap seat seen taken taken' h h' j (Feeds m s) other fit = fit
fits_else n tap seat seen taken taken' h h' j (Takes a) other fit = absurd (other fit.1)

pub takes : (pass : ℕ) (v : View) → IsTap v → Pops InLine pass v (HasTaken v)
takes pass v is x items views r at =
    let a : Taking = tap_of v in
    let mine = taken_fits (x ∷ items) views pass v r is at in
    let taken' : List Tagged = r.taken ++ x ∷ [] in
    let w : View = Takes (with_taken a x) in
    let flat : r.taken ++ x ∷ items ≡ taken' ++ items = sym (append_assoc r.taken (x ∷ []) items) in
    let now : TapAgreesWith r.feeders r.tap r.seat r.seen taken' (r.taken ++ x ∷ items) pass (with_taken a x) = (mine.0, mine.1, ap (λ l. l ++ x ∷ []) mine.2, mine.3, mine.4) in
    let fits : FitAll r.feeders r.tap r.seat r.seen taken' (r.taken ++ x ∷ items) (set views pass w) =
    fit_set (AgreesWith r.feeders r.tap r.seat r.seen taken' (r.taken ++ x ∷ items)) views pass w now
    (λ j u other e. fits_else r.feeders r.tap r.seat r.seen r.taken taken' (r.taken ++ x ∷ items) (r.taken ++ x ∷ items) j u (λ t. other (t ∙ sym mine.1)) (r.fits j u e)) in (
      w,
      record {
        feeders = r.feeders;
        tap = r.tap;
        seat = r.seat;
        seen = r.seen;
        taken = taken';
        chronicle = subst (Chronicle r.feeders r.seen) flat r.chronicle;
        fits = subst (λ l. FitAll r.feeders r.tap r.seat r.seen taken' l (set views pass w)) flat fits;
      },
      refl,
    )

-- The beginning

none_there : (v : View) (w : View) (j : ℕ) → get_elem? (v ∷ []) (suc j) ≡ some w → ⊥
none_there v w j e = some-ne-none w (sym e)

begins_fit : (j : ℕ) (u : View) → get_elem? (unfed ∷ []) j ≡ some u → AgreesWith 0 0 (λ _. 0) (λ _. []) [] [] j u
begins_fit zero u e = let P : View → Type 0 = AgreesWith 0 0 (λ _. 0) (λ _. []) [] [] 0 in let start : P unfed = (refl, refl, refl, tt, ([], refl)) in subst P (some-injective unfed u e) start
begins_fit (suc j) u e = absurd (none_there unfed u j e)

pub begins : InLine [] (unfed ∷ [])
begins = record {
  feeders = 0;
  tap = 0;
  seat = λ _. 0;
  seen = λ _. [];
  taken = [];
  chronicle = record { numbered = tt; unseen = λ f _. refl; ahead = λ f. ([], refl, refl); last = inl refl };
  fits = begins_fit;
}

-- One more feeder

enrolled_joined : (n tap : ℕ) (seat : ℕ → ℕ) (seen : Seen) (taken h latest : List Tagged) (pass : ℕ) (p : PutList) → HasJoined n tap seat seen taken h latest p → HasJoined (n + 1) tap (updated seat n pass) seen taken h latest p
enrolled_joined n tap seat seen taken h latest pass p q = let off : p.number ≢ n = (let lt = q.0 in omega arith) in ((let lt = q.0 in omega arith), updated_else seat n pass p.number off ∙ q.1, q.2, q.3)

enrolled_fits : (n tap : ℕ) (seat : ℕ → ℕ) (seen : Seen) (taken h : List Tagged) (pass j : ℕ) (v : View) → j ≢ tap → AgreesWith n tap seat seen taken h j v → AgreesWith (n + 1) tap (updated seat n pass) seen taken h j v
enrolled_fits n tap seat seen taken h pass j Spent other fit = tt
enrolled_fits n tap seat seen taken h pass j (Feeds m s) other fit = let off : m ≢ n = (let lt = fit.0 in omega arith) in ((let lt = fit.0 in omega arith), updated_else seat n pass m off ∙ fit.1, fit.2)
enrolled_fits n tap seat seen taken h pass j (Takes a) other fit = absurd (other fit.1)

enrolled : (n : ℕ) (seen : Seen) (h : List Tagged) → Chronicle n seen h → Chronicle (n + 1) seen h
enrolled n seen h c = record {
  numbered = every (λ (t : Tagged). t.feeder < n) (λ (t : Tagged). t.feeder < n + 1) (λ t lt. omega arith) h c.numbered;
  unseen = λ f le. c.unseen f (omega arith);
  ahead = c.ahead;
  last = ⊎_elim inl (λ (x : (f : ℕ) × (f < n) × (seen f ≡ h)). inr (x.0, (let lt = x.1 in omega arith), x.2)) c.last;
}

pub forks : (pass : ℕ) (v : View) → IsTap v → Forks InLine pass v (with_feeder v) (new_feeder v)
forks pass v is items views r at =
    let a : Taking = tap_of v in
    let mine = taken_fits items views pass v r is at in
    let n : ℕ = r.feeders in let h : List Tagged = r.taken ++ items in
    let vs : List View = set views pass (with_feeder v) in
    let place : ℕ = length vs in
    let seat' : ℕ → ℕ = updated r.seat n place in
    let now : TapAgreesWith (n + 1) r.tap seat' r.seen r.taken h pass (taking (a.feeders + 1) a.taken a.joined a.latest) =
    (ap (λ k. k + 1) mine.0, mine.1, mine.2, every (HasJoined n r.tap r.seat r.seen r.taken h a.latest) (HasJoined (n + 1) r.tap seat' r.seen r.taken h a.latest) (enrolled_joined n r.tap r.seat r.seen r.taken h a.latest place) a.joined mine.3, mine.4) in
    let F : ℕ → View → Type 0 = AgreesWith (n + 1) r.tap seat' r.seen r.taken h in
    let old : (j : ℕ) (u : View) → get_elem? vs j ≡ some u → F j u = fit_set F views pass (with_feeder v) now
    (λ j u other e. enrolled_fits n r.tap r.seat r.seen r.taken h place j u (λ t. other (t ∙ sym mine.1)) (r.fits j u e)) in
    let new : F place (Feeds n []) = (omega arith, updated_here r.seat n place n refl, r.chronicle.unseen n (omega arith)) in
    let new' : F place (new_feeder v) = subst (λ k. F place (Feeds k [])) (sym mine.0) new in
    record {
      feeders = n + 1;
      tap = r.tap;
      seat = seat';
      seen = r.seen;
      taken = r.taken;
      chronicle = enrolled n r.seen h r.chronicle;
      fits = λ j u e. ⊎_elim (λ x. old j u x) (λ (x : (j ≡ place) × (new_feeder v ≡ u)). subst (λ (y : ℕ × View). F y.0 y.1) (λ i. (sym x.0 i, x.1 i)) new') (at_new vs (new_feeder v) u j e);
    }

-- A feeder that has come back

longer_left : (xs ys : List Tagged) → length xs ≤ length (longer xs ys)
longer_left xs ys = cond_both (nat_lt (length xs) (length ys)) ys xs (λ l. length xs ≤ length l) (λ e. (let lt = ltb-true (length xs) (length ys) e in omega arith)) (λ e. omega arith)

longer_right : (xs ys : List Tagged) → length ys ≤ length (longer xs ys)
longer_right xs ys = cond_both (nat_lt (length xs) (length ys)) ys xs (λ l. length ys ≤ length l) (λ e. omega arith) (λ e. ltb-false (length xs) (length ys) e)

abbrev Begins : List Tagged → List Tagged → Type 0
Begins h front = (later : List Tagged) × (h ≡ front ++ later)

longer_begins : (h xs ys : List Tagged) → Begins h xs → Begins h ys → Begins h (longer xs ys)
longer_begins h xs ys b c = cond_both (nat_lt (length xs) (length ys)) ys xs (λ l. Begins h l) (λ _. c) (λ _. b)

seated : (seat : ℕ → ℕ) (f tap k : ℕ) → seat k ≡ tap → updated seat f tap k ≡ tap
seated seat f tap k e = ⊎_elim (λ is. updated_here seat f tap k is) (λ off. updated_else seat f tap k off ∙ e) (cases_eq k f)

gathered_fits : (n tap : ℕ) (seat : ℕ → ℕ) (seen : Seen) (taken h : List Tagged) (f other j : ℕ) (v : View) → seat f ≡ other → j ≢ other → j ≢ tap → AgreesWith n tap seat seen taken h j v → AgreesWith n tap (updated seat f tap) seen taken h j v
gathered_fits n tap seat seen taken h f other j Spent at apart off fit = tt
gathered_fits n tap seat seen taken h f other j (Feeds m s) at apart off fit = (fit.0, updated_else seat f tap m (λ e. apart (sym fit.1 ∙ ap seat e ∙ at)) ∙ fit.1, fit.2)
gathered_fits n tap seat seen taken h f other j (Takes a) at apart off fit = absurd (off fit.1)

gathers : (pass : ℕ) (v : View) (other f : ℕ) (s : List Tagged) → IsTap v → Merges InLine pass v other (Feeds f s) (Takes (with_put (tap_of v) f s)) Spent
gathers pass v other f s is items views r at apart at' =
    let a : Taking = tap_of v in
    let mine = taken_fits items views pass v r is at in
    let n : ℕ = r.feeders in let h : List Tagged = r.taken ++ items in
    let both : Taking = with_put a f s in
    let vs : List View = set views pass (Takes both) in
    let was : get_elem? views other ≡ some (Feeds f s) = ⊎_elim (λ x. absurd (apart x.0)) (λ x. x.1) (at_set views pass other (Takes both) (Feeds f s) at') in
    let theirs : AgreesWith n r.tap r.seat r.seen r.taken h other (Feeds f s) = r.fits other (Feeds f s) was in
    let seat' : ℕ → ℕ = updated r.seat f r.tap in
    let old : (p : PutList) → HasJoined n r.tap r.seat r.seen r.taken h a.latest p → HasJoined n r.tap seat' r.seen r.taken h both.latest p =
    λ p q. (q.0, seated r.seat f r.tap p.number q.1, q.2, (let le = longer_left a.latest s in let l = q.3 in omega arith)) in
    let new : HasJoined n r.tap seat' r.seen r.taken h both.latest (put_list f (items_by f s)) =
    (theirs.0, updated_here r.seat f r.tap f refl, ap (items_by f) theirs.2, subst (λ (l : List Tagged). length l ≤ length both.latest) (sym theirs.2) (longer_right a.latest s)) in
    let joined : AllByRecursion (HasJoined n r.tap seat' r.seen r.taken h both.latest) both.joined =
    every-append (HasJoined n r.tap seat' r.seen r.taken h both.latest) a.joined (put_list f (items_by f s) ∷ []) (every (HasJoined n r.tap r.seat r.seen r.taken h a.latest) (HasJoined n r.tap seat' r.seen r.taken h both.latest) old a.joined mine.3) (new, tt) in
    let begins : Begins h s = (let w = r.chronicle.ahead f in (w.0, w.1 ∙ ap (λ l. l ++ w.0) theirs.2)) in
    let now : TapAgreesWith n r.tap seat' r.seen r.taken h pass both = (mine.0, mine.1, mine.2, joined, longer_begins h a.latest s mine.4 begins) in
    let F : ℕ → View → Type 0 = AgreesWith n r.tap seat' r.seen r.taken h in
    -- every pass but the one that is spent
    let G : ℕ → View → Type 0 = λ j u. j ≢ other → F j u in
    let most : (j : ℕ) (u : View) → get_elem? vs j ≡ some u → G j u = fit_set G views pass (Takes both) (λ _. now)
    (λ j u off e away. gathered_fits n r.tap r.seat r.seen r.taken h f other j u theirs.1 away (λ t. off (t ∙ sym mine.1)) (r.fits j u e)) in
    record {
      feeders = n;
      tap = r.tap;
      seat = seat';
      seen = r.seen;
      taken = r.taken;
      chronicle = r.chronicle;
      fits = fit_set F vs other Spent tt (λ j u away e. most j u e away);
    }

pub merges : (pass : ℕ) (v : View) (other f : ℕ) (w : View) → IsTap v → IsFeeder f w → Merges InLine pass v other w (gathered v w) Spent
merges pass v other f w is from = let P : View → Type 0 = λ w. Merges InLine pass v other w (gathered v w) Spent in subst P (sym from) (gathers pass v other f (seen_by w) is)

-- The whole, once every feeder has come back

joined_length : (n tap : ℕ) (seat : ℕ → ℕ) (seen : Seen) (taken h latest : List Tagged) (f : ℕ) (ps : List PutList) → AllByRecursion (HasJoined n tap seat seen taken h latest) ps → HasNumber f ps → length (seen f) ≤ length latest
joined_length n tap seat seen taken h latest f [] all has = absurd has
joined_length n tap seat seen taken h latest f (p ∷ ps) all has = ⊎_elim (λ (is : p.number ≡ f). subst (λ k. length (seen k) ≤ length latest) is all.0.3) (λ x. joined_length n tap seat seen taken h latest f ps all.1 x) has

is_whole : (items : List Tagged) (views : List View) (pass : ℕ) (v : View) (r : InLine items views) → IsWhole v → get_elem? views pass ≡ some v → (tap_of v).latest ≡ r.taken ++ items
is_whole items views pass v r whole_v at =
    let a : Taking = tap_of v in let h : List Tagged = r.taken ++ items in
    let mine = taken_fits items views pass v r whole_v.0 at in
    let long : length h ≤ length a.latest = ⊎_elim (λ (e : h ≡ []). (let z : length h ≡ 0 = ap length e in omega arith))
    (λ (x : (f : ℕ) × (f < r.feeders) × (r.seen f ≡ h)). subst (λ (l : List Tagged). length l ≤ length a.latest) x.2
    (joined_length r.feeders r.tap r.seat r.seen r.taken h a.latest x.0 a.joined mine.3 (whole_v.1 x.0 (subst (λ k. x.0 < k) (sym mine.0) x.1)))) r.chronicle.last in
    whole h a.latest mine.4.0 mine.4.1 long

pub settles : (pass : ℕ) (v : View) → IsWhole v → Learns InLine pass v (IsRejoined v)
settles pass v whole_v items views r at =
    let a : Taking = tap_of v in let h : List Tagged = r.taken ++ items in
    let mine = taken_fits items views pass v r whole_v.0 at in
    let all : a.latest ≡ a.taken ++ items = is_whole items views pass v r whole_v at ∙ ap (λ l. l ++ items) (sym mine.2) in
    let each : (p : PutList) → HasJoined r.feeders r.tap r.seat r.seen r.taken h a.latest p → p.items ≡ items_by p.number a.taken ++ items_by p.number items =
    λ p q. sym q.2 ∙ sym (known r.feeders p.number r.seen h r.chronicle) ∙ ap (λ l. items_by p.number (l ++ items)) (sym mine.2) ∙ items_by-append p.number a.taken items in (
      sym (ap (drop (length a.taken)) all ∙ drop-append-same a.taken items),
      (
        subst (λ (y : ℕ × List Tagged). AreOfFeeders y.0 y.1) (λ i. (sym mine.0 i, sym mine.2 i ++ items)) r.chronicle.numbered,
        whole_v.1,
        every (HasJoined r.feeders r.tap r.seat r.seen r.taken h a.latest) (λ (p : PutList). p.items ≡ items_by p.number a.taken ++ items_by p.number items) each a.joined mine.3,
      ),
    )

pub settled_takes : (pass : ℕ) (v : View) → IsWhole v → Pops InLine pass v (HasTakenRejoined v)
settled_takes pass v whole_v x items views r at =
    let a : Taking = tap_of v in
    let t = takes pass v whole_v.0 x items views r at in
    let s = settles pass v whole_v (x ∷ items) views r at in
    let mine = taken_fits (x ∷ items) views pass v r whole_v.0 at in
    let all : a.latest ≡ a.taken ++ (x ∷ items) = is_whole (x ∷ items) views pass v r whole_v at ∙ ap (λ l. l ++ x ∷ items) (sym mine.2) in
    let rest : left_of (with_taken a x) ≡ items = ap (drop (length (a.taken ++ x ∷ []))) (all ∙ sym (append_assoc a.taken (x ∷ []) items)) ∙ drop-append-same (a.taken ++ x ∷ []) items in
    (t.0, t.1, (t.2, sym s.0 ∙ ap (λ l. x ∷ l) (sym rest)))
