-- The feeds of a station are distributed.
use Rattle.std.proofs.Common.{◌≡◌, ℕ, zero, suc, ◌+◌, ◌<◌, ◌≤◌, Bool, true, false, List, [], ◌∷◌, ◌++◌, length, take, drop, Option, Some, None, slice_get, slice_set, slice_index_or, refl, ap, sym, ◌∙◌, subst, arith, add-one}
use Rattle.std.proofs.lemmas.Option.{none-some, same_Some}
use Rattle.std.proofs.lemmas.List.{append-nil, length-set}
use Rattle.sdl_routes.specs.declared.route.Station.{Station}
use Rattle.sdl_queue.specs.declared.rule.Tagged.{Tagged}
use Rattle.sdl_queue.specs.Ends.{FeedEnd, TapEnd, fresh_feeds}
use Rattle.sdl_forward_opening.specs.declared.worker.Worker.{Worker}
use Rattle.sdl_forward_opening.specs.Workers.{taker}
use Rattle.sdl_forward_opening.specs.Opens.{fresh_tap, IsOpenedAs}
use Rattle.std.specs.Option.{option_to_list}
use Rattle.sdl_forward_ends.specs.Ends.{WorkerEnds, no_ends}
use Rattle.sdl_forward_opening.specs.Puts.{count_true}
use Rattle.sdl_forward_opening.specs.Hands.{with_feed, with_tap, distributed, changed_at, all_empty, AddsQueue}

pub empty_more : (n : ℕ) → all_empty (suc n) ≡ all_empty n ++ no_ends ∷ []
empty_more zero = refl
empty_more (suc n) = ap (λ es. no_ends ∷ es) (empty_more n)

-- what the list is once the rest is distributed too
abbrev pub rest_distributed : Station → ℕ → List Bool → List FeedEnd → List WorkerEnds → List WorkerEnds
rest_distributed s k marks rest all = take k all ++ distributed s (drop k marks) rest (drop k all)

module _ (s : Station) where
  distribute_yes : (k : ℕ) (marks : List Bool) (f : FeedEnd) (rest : List FeedEnd) (all : List WorkerEnds) (e : WorkerEnds) → slice_get marks k ≡ Some true → slice_get all k ≡ Some e
      → rest_distributed s (suc k) marks rest (slice_set all k (with_feed s f e)) ≡ rest_distributed s k marks (f ∷ rest) all
  distribute_yes k [] f rest all e m at = absurd (none-some true m)
  distribute_yes zero (b ∷ marks) f rest [] e m at = absurd (none-some e at)
  distribute_yes zero (b ∷ marks) f rest (x ∷ all) e m at =
      ap (λ y. with_feed s f y ∷ distributed s marks rest all) (sym (same_Some x e at)) ∙ ap (λ c. distributed s (c ∷ marks) (f ∷ rest) (x ∷ all)) (sym (same_Some b true m))
  distribute_yes (suc k) (b ∷ marks) f rest [] e m at = absurd (none-some e at)
  distribute_yes (suc k) (b ∷ marks) f rest (x ∷ all) e m at = ap (λ es. x ∷ es) (distribute_yes k marks f rest all e m at)

  distribute_no : (k : ℕ) (marks : List Bool) (rest : List FeedEnd) (all : List WorkerEnds) (e : WorkerEnds) → slice_get marks k ≡ Some false → slice_get all k ≡ Some e
      → rest_distributed s (suc k) marks rest all ≡ rest_distributed s k marks rest all
  distribute_no k [] rest all e m at = absurd (none-some false m)
  distribute_no zero (b ∷ marks) rest [] e m at = absurd (none-some e at)
  distribute_no zero (b ∷ marks) rest (x ∷ all) e m at = ap (λ c. distributed s (c ∷ marks) rest (x ∷ all)) (sym (same_Some b false m))
  distribute_no (suc k) (b ∷ marks) rest [] e m at = absurd (none-some e at)
  distribute_no (suc k) (b ∷ marks) rest (x ∷ all) e m at = ap (λ es. x ∷ es) (distribute_no k marks rest all e m at)

  pub distribute_end : (k : ℕ) (marks : List Bool) (rest : List FeedEnd) (all : List WorkerEnds) → length marks ≤ k → length all ≡ length marks → rest_distributed s k marks rest all ≡ all
  distribute_end zero [] rest all past e = refl
  distribute_end zero (b ∷ marks) rest all past e = absurd (omega (arith, past))
  distribute_end (suc k) [] rest [] past e = refl
  distribute_end (suc k) [] rest (x ∷ all) past e = absurd (omega (arith, e))
  distribute_end (suc k) (b ∷ marks) rest [] past e = absurd (omega (arith, e))
  distribute_end (suc k) (b ∷ marks) rest (x ∷ all) past e = ap (λ es. x ∷ es) (distribute_end k marks rest all (omega (arith, past)) (omega (arith, e)))

pub count_at : (k : ℕ) (marks : List Bool) → slice_get marks k ≡ Some true → count_true (drop k marks) ≡ suc (count_true (drop (suc k) marks))
count_at k [] m = absurd (none-some true m)
count_at zero (b ∷ marks) m = ap (λ c. count_true (c ∷ marks)) (same_Some b true m)
count_at (suc k) (b ∷ marks) m = count_at k marks m

pub count_not : (k : ℕ) (marks : List Bool) → slice_get marks k ≡ Some false → count_true (drop k marks) ≡ count_true (drop (suc k) marks)
count_not k [] m = absurd (none-some false m)
count_not zero (b ∷ marks) m = ap (λ c. count_true (c ∷ marks)) (same_Some b false m)
count_not (suc k) (b ∷ marks) m = count_not k marks m

-- one step more
pub distributed_yes : (s : Station) (k : ℕ) (marks : List Bool) (f : FeedEnd) (rest : List FeedEnd) (all : List WorkerEnds) (e d : WorkerEnds) → slice_get marks k ≡ Some true → slice_get all k ≡ Some e → d ≡ with_feed s f e
    → rest_distributed s (k + 1) marks rest (slice_set all k d) ≡ rest_distributed s k marks (f ∷ rest) all
distributed_yes s k marks f rest all e d m at is =
    ap (λ n. rest_distributed s n marks rest (slice_set all k d)) (add-one k) ∙ (ap (λ x. rest_distributed s (suc k) marks rest (slice_set all k x)) is ∙ distribute_yes s k marks f rest all e m at)

pub distributed_no : (s : Station) (k : ℕ) (marks : List Bool) (rest : List FeedEnd) (all : List WorkerEnds) (e : WorkerEnds) → slice_get marks k ≡ Some false → slice_get all k ≡ Some e
    → rest_distributed s (k + 1) marks rest all ≡ rest_distributed s k marks rest all
distributed_no s k marks rest all e m at = ap (λ n. rest_distributed s n marks rest all) (add-one k) ∙ distribute_no s k marks rest all e m at

-- an element at its place
pub place_get : {X : Type 0} (xs : List X) (k : ℕ) → k < length xs → (x : X) × (slice_get xs k ≡ Some x)
place_get [] k less = absurd (omega (arith, less))
place_get (x ∷ xs) zero less = (x, refl)
place_get (x ∷ xs) (suc k) less = place_get xs k (omega (arith, less))

pub yes_more : (s : Station) (k : ℕ) (marks : List Bool) (f : FeedEnd) (rest later : List FeedEnd) (all new final : List WorkerEnds) (e d : WorkerEnds)
    → slice_get marks k ≡ Some true → slice_get all k ≡ Some e → d ≡ with_feed s f e → new ≡ slice_set all k d → rest ≡ f ∷ later
    → rest_distributed s k marks rest all ≡ final → count_true (drop k marks) ≡ length rest → length all ≡ length marks
    → (rest_distributed s (k + 1) marks later new ≡ final) × (count_true (drop (k + 1) marks) ≡ length later) × (length new ≡ length marks)
yes_more s k marks f rest later all new final e d m at is then first so count each = (
  ap (rest_distributed s (k + 1) marks later) then ∙ (distributed_yes s k marks f later all e d m at is ∙ (ap (λ fs. rest_distributed s k marks fs all) (sym first) ∙ so)),
  (let a = count_at k marks m in let b = ap length first in let g = ap (λ n. count_true (drop n marks)) (add-one k) in omega (arith, a, b, g, count)),
  ap length then ∙ (length-set all k d ∙ each),
)

pub no_more : (s : Station) (k : ℕ) (marks : List Bool) (rest later : List FeedEnd) (all new final : List WorkerEnds)
    → slice_get marks k ≡ Some false → k < length all → new ≡ all → later ≡ rest
    → rest_distributed s k marks rest all ≡ final → count_true (drop k marks) ≡ length rest → length all ≡ length marks
    → (rest_distributed s (k + 1) marks later new ≡ final) × (count_true (drop (k + 1) marks) ≡ length later) × (length new ≡ length marks)
no_more s k marks rest later all new final m less then same so count each =
    let e = place_get all k less in (
      ap (rest_distributed s (k + 1) marks later) then ∙ (ap (λ fs. rest_distributed s (k + 1) marks fs all) same ∙ (distributed_no s k marks rest all e.0 m e.1 ∙ so)),
      ap (λ n. count_true (drop n marks)) (add-one k) ∙ (sym (count_not k marks m) ∙ (count ∙ ap length (sym same))),
      ap length then ∙ each,
    )

-- where one more is marked, a feed is left
pub none_here : (k : ℕ) (marks : List Bool) (rest : List FeedEnd) → slice_get marks k ≡ Some true → count_true (drop k marks) ≡ length rest → length rest ≡ 0 → ⊥
none_here k marks rest m count none = let a = count_at k marks m in omega (arith, a, none, count)

pub distributed_length : (s : Station) (marks : List Bool) (fs : List FeedEnd) (all : List WorkerEnds) → length (distributed s marks fs all) ≡ length all
distributed_length s [] fs all = refl
distributed_length s (m ∷ marks) fs [] = refl
distributed_length s (true ∷ marks) [] (e ∷ all) = ap suc (distributed_length s marks [] all)
distributed_length s (true ∷ marks) (f ∷ fs) (e ∷ all) = ap suc (distributed_length s marks fs all)
distributed_length s (false ∷ marks) fs (e ∷ all) = ap suc (distributed_length s marks fs all)

pub changed_set : {X : Type 0} (f : X → X) (k : ℕ) (xs : List X) (x y : X) → slice_get xs k ≡ Some x → y ≡ f x → slice_set xs k y ≡ changed_at f k xs
changed_set f k [] x y at is = absurd (none-some x at)
changed_set f zero (z ∷ xs) x y at is = ap (λ u. u ∷ xs) (is ∙ ap f (sym (same_Some z x at)))
changed_set f (suc k) (z ∷ xs) x y at is = ap (λ us. z ∷ us) (changed_set f k xs x y at is)

tap_is : (t : TapEnd) (n : ℕ) → t.feeders ≡ n → t.taken ≡ [] → t ≡ fresh_tap t.opening n
tap_is t n e f = ap (λ (m : ℕ). with_count t m) e ∙ ap (λ (xs : List Tagged). all_of t n xs) f
  where
    with_count : TapEnd → ℕ → TapEnd
    with_count t m = record { opening = t.opening; feeders = m; taken = t.taken }

    all_of : TapEnd → ℕ → List Tagged → TapEnd
    all_of t m xs = record { opening = t.opening; feeders = m; taken = xs }

pub adds_queue : (ws : List Worker) (marks : List Bool) (s : Station) (old mid : List WorkerEnds) (shelf later : List (Station × ℕ)) (n place : ℕ) (feeds : List FeedEnd) (tap : TapEnd) (x y : WorkerEnds)
    → n ≡ count_true marks → feeds ≡ fresh_feeds tap.opening n → (tap.feeders ≡ n) × (tap.taken ≡ []) → ((room : ℕ) × (n ≤ room) × (later ≡ shelf ++ (s, room) ∷ []))
    → mid ≡ distributed s marks feeds old → slice_get ws place ≡ Some (taker s) → slice_get mid place ≡ Some x → y ≡ with_tap s tap x → IsOpenedAs tap.opening s n → AddsQueue ws marks s old (slice_set mid place y) shelf later
adds_queue ws marks s old mid shelf later n place feeds tap x y count are fresh room distributing there at is kind =
    let o = tap.opening in
    let t : tap ≡ fresh_tap o (count_true marks) = tap_is tap (count_true marks) (fresh.0 ∙ count) fresh.1 in
    record {
      opening = o;
      place = place;
      there = there;
      kind = subst (IsOpenedAs o s) count kind;
      ends = changed_set (with_tap s (fresh_tap o (count_true marks))) place mid x y at (is ∙ ap (λ (u : TapEnd). with_tap s u x) t)
          ∙ ap (changed_at (with_tap s (fresh_tap o (count_true marks))) place) (distributing ∙ ap (λ (fs : List FeedEnd). distributed s marks fs old) (are ∙ ap (fresh_feeds o) count));
      room = room.0;
      enough = (let e = room.1 in omega (arith, e, count));
      behind = room.2;
    }
