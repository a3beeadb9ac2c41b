-- Items that are put one by one, from the front.
use Rattle.std.proofs.Common.{◌≡◌, Bool, true, false, cond, Result, Ok, Err, List, [], ◌∷◌, ◌++◌, Option, Some, None, ◌<◌, length, arith, IfSome, option_and_then, slice_get, refl, ap, sym, ◌∙◌, subst, append_assoc, append-nil, true≢false}
use Rattle.std.specs.Result.{IsErr}
use Rattle.std.proofs.lemmas.List.Elements.{filter-append, All-tail}
use Rattle.sdl_signal.specs.declared.values.Item.{Item}
use Rattle.sdl_routes.specs.declared.route.TableRow.{TableRow}
use Rattle.sdl_routes.specs.declared.route.Station.{Station}
use Rattle.sdl_routes.specs.Routes.{FollowsIn}
use Rattle.sdl_forward.specs.Queues.{Relations, nothing, one_at, with_more}
use Rattle.sdl_block_hand.specs.declared.hand.Refused.{Refused}
use Rattle.sdl_block_hand.specs.Work.{beginning_at, first_station, is_station}
use Rattle.sdl_block_hand.specs.Puts.{AreRouted, IsRouted}
use Rattle.sdl_block_hand.specs.PutsBy.{CanPutOut, PutsFirsts, PutsOutBy}

pub beginning-append : (rows : List TableRow) (s : Station) (xs ys : List Item) → beginning_at rows s (xs ++ ys) ≡ beginning_at rows s xs ++ beginning_at rows s ys
beginning-append rows s xs ys = filter-append (λ i. is_station s (first_station rows i)) xs ys

-- the front one of the items goes on by its route

pub first_so : (o : Option TableRow) (s : Station) (row : TableRow) → o ≡ Some row → IfSome o (λ row. FollowsIn row.route.stations.items None (Some s))
    → option_and_then (λ row. slice_get row.route.stations.items 0) o ≡ Some s
first_so None s row there h = absurd (let e : None ≡ Some row = there in cc)
first_so (Some x) s row there h = sym h

pub front_routed : (rows : List TableRow) (items : List Item) (i : Item) (new : List Item) → items ≡ i ∷ new → AreRouted rows items → IsRouted rows i
front_routed rows items i new front routed = let lt : 0 < length (i ∷ new) = omega arith in (subst (AreRouted rows) front routed) 0 i lt

abbrev is_cons : {X : Type 0} → List X → Bool
is_cons [] = false
is_cons (x ∷ xs) = true

not_nil : {X : Type 0} (x : X) (put xs : List X) → put ++ x ∷ xs ≡ [] → ⊥
not_nil x [] xs e = true≢false (ap is_cons e)
not_nil x (y ∷ put) xs e = true≢false (ap is_cons e)

module _ {B : Type 0} (q : Relations B) (rows : List TableRow) where
  -- some are put, and then more
  pub puts_both : (before : B) (put : List Item) (between : B) (more : List Item) (after : B) → PutsFirsts q rows before put between → PutsFirsts q rows between more after → PutsFirsts q rows before (put ++ more) after
  puts_both before put between more after h k =
      let same : with_more (λ t. beginning_at rows t put) (λ t. beginning_at rows t more) ≡ (λ t. beginning_at rows t (put ++ more)) = λ j t. sym (beginning-append rows t put more) j in
      subst (λ (p : Station → List Item). q.Puts p before after) same (q.puts_then (λ t. beginning_at rows t put) (λ t. beginning_at rows t more) before between after h k)

  -- one is put at its first station
  puts_one : (before : B) (i : Item) (s : Station) (after : B) → first_station rows i ≡ Some s → q.Puts (one_at s i) before after → PutsFirsts q rows before (i ∷ []) after
  puts_one before i s after first one = subst (λ (o : Option Station). q.Puts (λ t. cond (is_station t o) (i ∷ []) []) before after) (sym first) one

  -- What holds while the hand is put out from `old`: those in front are put, and the others are in hand.
  pub record IsPutting (old : List Item) (before : B) (new : List Item) (after : B) : Type 0 where
    pub put : List Item
    pub whole : put ++ new ≡ old
    pub puts : PutsFirsts q rows before put after
    pub routed : AreRouted rows new
    pub ways : CanPutOut q rows after new
    pub none : old ≡ [] → after ≡ before

  pub putting_starts : (old : List Item) (before : B) → AreRouted rows old → CanPutOut q rows before old → IsPutting old before old before
  putting_starts old before routed ways = record { put = []; whole = refl; puts = q.puts_none before; routed = routed; ways = ways; none = λ none. refl }

  pub putting_on : (old : List Item) (before : B) (mid : List Item) (between : B) (i : Item) (s : Station) (new : List Item) (after : B)
      → IsPutting old before mid between → mid ≡ i ∷ new → first_station rows i ≡ Some s → q.Puts (one_at s i) between after → IsPutting old before new after
  putting_on old before mid between i s new after p front first one =
      let whole : p.put ++ i ∷ new ≡ old = ap (λ l. p.put ++ l) (sym front) ∙ p.whole in
      let moved = q.puts_move s (one_at s i) between after one in
      let still = All-tail (λ x. (t : Station) → first_station rows x ≡ Some t → q.CanPut between t) i new (subst (CanPutOut q rows between) front p.ways) in
      record {
        put = p.put ++ i ∷ [];
        whole = append_assoc p.put (i ∷ []) new ∙ whole;
        puts = puts_both before p.put between (i ∷ []) after p.puts (puts_one between i s after first one);
        routed = All-tail (IsRouted rows) i new (subst (AreRouted rows) front p.routed);
        ways = λ k x at t there. q.can_still s (one_at s i) [] between after t moved (still k x at t there);
        none = λ none. absurd (not_nil i p.put new (whole ∙ none));
      }

  -- all is put
  pub putting_ends : (old : List Item) (before : B) (new : List Item) (after : B) (some : Bool)
      → IsPutting old before new after → new ≡ [] → (some ≡ true → old ≡ [] → ⊥) → (some ≡ false → old ≡ []) → PutsOutBy q rows old before (Ok some) new after
  putting_ends old before new after true p none said unsaid =
      let all : p.put ≡ old = sym (append-nil p.put) ∙ ap (λ l. p.put ++ l) (sym none) ∙ p.whole in
      (subst (λ l. PutsFirsts q rows before l after) all p.puts, said refl, none)
  putting_ends old before new after false p none said unsaid = (unsaid refl, none, p.none (unsaid refl))

  -- a put is refused
  pub putting_refused : (old : List Item) (before : B) (mid : List Item) (between : B) (result : Result Bool Refused) → IsErr result → (new : List Item) (after : B)
      → IsPutting old before mid between → new ≡ mid → q.Puts nothing between after → PutsOutBy q rows old before result new after
  putting_refused old before mid between (Err r) err new after p same none =
      (p.put, ap (λ l. p.put ++ l) same ∙ p.whole, subst (λ l. PutsFirsts q rows before l after) (append-nil p.put) (puts_both before p.put between [] after p.puts none))
  putting_refused old before mid between (Ok did) err new after p same none = absurd (true≢false (sym err))
