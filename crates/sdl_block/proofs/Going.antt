-- The phases of a step, as parts, and what their answers say.
use Rattle.std.proofs.Common.{◌≡◌, ℕ, ◌+◌, ◌≤◌, inl, inr, Bool, true, false, ◌||◌, Result, Ok, Err, List, [], ◌∷◌, ◌++◌, Option, None, length, All, refl, ap, sym, ◌∙◌, subst, append-nil, length-append, true≢false, arith}
use Rattle.std.specs.Option.{option_to_list}
use Rattle.std.specs.Prelude.{MatchOption, MatchResult, ⊤}
use Rattle.std.proofs.lemmas.List.Elements.{All-nil}
use Rattle.sdl_signal.specs.declared.ids.BlockId.{BlockId}
use Rattle.sdl_signal.specs.declared.values.Item.{Item}
use Rattle.sdl_routes.specs.declared.route.TableRow.{TableRow}
use Rattle.sdl_routes.specs.declared.route.Station.TheVariants as station
use Rattle.sdl_transition_behaviour.specs.declared.step.Frame.{Frame}
use Rattle.sdl_transition_behaviour.specs.declared.step.Step.{Step}
use Rattle.sdl_instances_log.specs.declared.event.Event.{Event}
use Rattle.sdl_instances_log.specs.declared.event.Event.TheVariants as event
use Rattle.sdl_instances_log.specs.declared.event.Arrival.{Arrival}
use Rattle.sdl_instances_log.specs.declared.event.Arrival.TheVariants as arrival
use Rattle.sdl_instances.specs.Machine.{System}
use Rattle.sdl_instances.specs.Run.{arrived, sent, turns, turn_in}
use Rattle.sdl_instances.specs.Core.{Core, IsSound, IsLegalIn, arrival_event}
use Rattle.sdl_instances.specs.Calls.{LeavesOthers}
use Rattle.sdl_forward.specs.Queues.{Relations, Fills}
use Rattle.sdl_block_hand.specs.declared.hand.Refused.{Refused}
use Rattle.sdl_block_hand.specs.Work.{Working, beginning_at}
use Rattle.sdl_block_hand.specs.PutsBy.{PutsOutBy}
use Rattle.sdl_block_hand.proofs.Through.{nil_left}
use Rattle.sdl_block.specs.Phases.{IsSpent, ArrivesOrStays, MakesTurn}
use Rattle.sdl_block.specs.Around.{Queues, TakesBy, PutsBy, LetsBy, around}
use Rattle.sdl_block_hand.specs.Puts.{AreRouted}
use Rattle.sdl_block.proofs.Parts.{Part, part_then, keeps-same}

abbrev is_cons : {X : Type 0} → List X → Bool
is_cons [] = false
is_cons (x ∷ xs) = true

nil_right : {X : Type 0} (xs ys : List X) → xs ++ ys ≡ [] → ys ≡ []
nil_right [] ys e = e
nil_right (x ∷ xs) ys e = absurd (true≢false (ap is_cons e))

pub cons_not_nil : {X : Type 0} (x : X) (xs : List X) → x ∷ xs ≡ [] → ⊥
cons_not_nil x xs e = true≢false (ap is_cons e)

-- an arrival sends nothing, and its item arrives
pub sent_none : (i : Item) (a : Arrival) → sent (arrival_event i a ∷ []) ≡ []
sent_none i (arrival.Entered p) = refl
sent_none i (arrival.Discarded c) = refl

pub arrived_one : (i : Item) (a : Arrival) → arrived (arrival_event i a ∷ []) ≡ i ∷ []
arrived_one i (arrival.Entered p) = refl
arrived_one i (arrival.Discarded c) = refl

-- nothing arrives in a turn
pub arrived_none : (e : Event) → turn_in e ≡ 1 → arrived (e ∷ []) ≡ []
arrived_none (event.Turn p t f s d x) is = refl
arrived_none (event.Entered i p) is = absurd (let bad : ⊥ = omega (arith, is) in bad)
arrived_none (event.Discarded i c) is = absurd (let bad : ⊥ = omega (arith, is) in bad)

pub routed : (sys : System) (items : List Item) → All (IsLegalIn sys) items → AreRouted sys.routes items
routed sys items legal = λ k d within. ((legal k d within).carried.0, (legal k d within).carried.1)

module _ {B : Type 0} (q : Relations B) (rows : List TableRow) (core : Core) where
  -- what was put out, around the block
  pub puts_so : (old : List Item) (before : B) (result : Result Bool Refused) (new : List Item) (after : B) → PutsOutBy q rows old before result new after → PutsBy (around q rows core) old before result new after
  puts_so old before (Ok true) new after (puts, some, none) = (q.puts_move (station.Inlet core.block) (λ s. beginning_at rows s old) before after puts, some, none)
  puts_so old before (Ok false) new after (was, none, same) = (was, none, subst (q.Still before) (sym same) (q.still_same before))
  puts_so old before (Err r) new after (put, whole, puts) = (put, whole, q.puts_move (station.Inlet core.block) (λ s. beginning_at rows s put) before after puts)

module _ {B : Type 0} (q : Relations B) (may : ℕ → Frame → Step → Type 0) (sys : System) (old : Working) (before : B) where
  -- what is kept then: what was, or what was taken; none where nothing was there to be taken
  abbrev Kept : BlockId → Option Item → B → Type 0
  Kept block kept after = MatchOption kept ((old.kept ≡ None) × q.Still before after × q.Empty before (station.Inlet block)) (λ i. Fills q (station.Inlet block) old.kept before i after)

  takes_so : (i : Item) (after : B) → Fills q (station.Inlet old.core.block) old.kept before i after → TakesBy (around q sys.routes old.core) old before i after
  takes_so i after (inl (kept, same)) = inl (kept, subst (q.Still before) (sym same) (q.still_same before))
  takes_so i after (inr (none, moves)) = inr (none, moves)

  -- the item that is kept then arrives, or stays
  pub lets_from : (block : BlockId) → block ≡ old.core.block → (kept : Option Item) (result : Result Bool Refused) (new : Working) (after : B) → (IsSpent old.core → ⊥) → Kept block kept after → ArrivesOrStays may sys (record old { kept = kept }) result new
      → LetsBy may sys (around q sys.routes old.core) old before result new after
  lets_from block here kept (Ok true) new after unspent took (i, is, arrives) = (i, unspent, takes_so i after (subst (λ (k : Option Item). Kept old.core.block k after) is (subst (λ (b : BlockId). Kept b kept after) here took)), arrives)
  lets_from block here kept (Ok false) new after unspent took (none, same) =
      let (was, still, empty) = subst (λ (k : Option Item). Kept old.core.block k after) none (subst (λ (b : BlockId). Kept b kept after) here took) in
      (same ∙ ap (λ (k : Option Item). record old { kept = k }) (none ∙ sym was), still, was, inr empty)
  lets_from block here kept (Err r) new after unspent took (i, is, same) =
      inr (unspent, (i, takes_so i after (subst (λ (k : Option Item). Kept old.core.block k after) is (subst (λ (b : BlockId). Kept b kept after) here took)), same ∙ ap (λ (k : Option Item). record old { kept = k }) is))

  -- none arrives once the budget is used
  pub lets_none : (result : Result Bool Refused) → IsSpent old.core → MatchResult result (λ arrived. (arrived ≡ false) × (old.kept ≡ None)) (λ _. ⊤) → LetsBy may sys (around q sys.routes old.core) old before result old before
  lets_none (Ok true) spent (said, none) = absurd (true≢false said)
  lets_none (Ok false) spent (said, none) = (refl, q.still_same before, none, inl spent)
  lets_none (Err r) spent said = inl (spent, refl, q.still_same before)

module _ (may : ℕ → Frame → Step → Type 0) (sys : System) {B : Type 0} (q : Queues B) where
  -- part of a step in which at most so many items are taken, and after the budget is used nothing happens
  pub record Going (most : ℕ) (old : Working) (before : B) (new : Working) (after : B) : Type 0 where
    pub put : List Item
    pub taken : List Item
    pub events : List Event
    pub part : Part may sys q old before put taken events new after
    pub few : length taken ≤ most
    pub spent : IsSpent old.core → new.core ≡ old.core

  -- what is said of it: that something was put or happened, or that nothing changed
  pub record Says (did : Bool) (put : List Item) (events : List Event) (old : Working) (before : B) (new : Working) (after : B) : Type 0 where
    pub some : did ≡ true → (put ≡ []) × (events ≡ []) → ⊥
    pub none : did ≡ false → (new ≡ old) × q.Still before after

  abbrev pub going_then : (m n : ℕ) (old : Working) (before : B) (mid : Working) (between : B) (new : Working) (after : B)
      → Going m old before mid between → Going n mid between new after → Going (m + n) old before new after
  going_then m n old before mid between new after a b =
      record {
        put = a.put ++ b.put;
        taken = a.taken ++ b.taken;
        events = a.events ++ b.events;
        part = part_then may sys q old before a.put a.taken a.events mid between b.put b.taken b.events new after a.part b.part;
        few = let l : length (a.taken ++ b.taken) ≡ length a.taken + length b.taken = length-append a.taken b.taken in omega (arith, l, a.few, b.few);
        spent = λ used. b.spent (subst IsSpent (sym (a.spent used)) used) ∙ a.spent used;
      }

  pub says_then : (d e : Bool) (m n : ℕ) (old : Working) (before : B) (mid : Working) (between : B) (new : Working) (after : B)
      → (a : Going m old before mid between) → (b : Going n mid between new after)
      → Says d a.put a.events old before mid between → Says e b.put b.events mid between new after
      → Says (d || e) (a.put ++ b.put) (a.events ++ b.events) old before new after
  says_then true e m n old before mid between new after a b s t =
      record {
        some = λ said (no_put, no_event). s.some refl (nil_left a.put b.put no_put, nil_left a.events b.events no_event);
        none = λ said. absurd (true≢false said);
      }
  says_then false e m n old before mid between new after a b s t =
      record {
        some = λ said (no_put, no_event). t.some said (nil_right a.put b.put no_put, nil_right a.events b.events no_event);
        none = λ said. let same = s.none refl in let also = t.none said in (also.0 ∙ same.0, q.still_then before between after same.1 also.1);
      }

  -- the part that puts items out
  pub put_part : (old : Working) (before : B) (put rest : List Item) (kept : Option Item) (after : B)
      → put ++ rest ≡ old.outgoing → q.Moves put [] before after → kept ≡ old.kept → IsSound may sys old.core
      → Part may sys q old before put [] [] (record { core = old.core; kept = kept; outgoing = rest }) after
  put_part old before put rest kept after same moves still sound =
      record {
        moves = moves;
        came = append-nil (option_to_list old.kept) ∙ ap option_to_list (sym still);
        went = same ∙ sym (append-nil old.outgoing);
        log = sym (append-nil old.core.log);
        sound = sound;
        rest = keeps-same old.core;
        legal = All-nil (IsLegalIn sys);
        few = omega arith;
      }

  abbrev pub put_going : (old : Working) (before : B) (put rest : List Item) (kept : Option Item) (after : B)
      → put ++ rest ≡ old.outgoing → q.Moves put [] before after → kept ≡ old.kept → IsSound may sys old.core
      → Going 0 old before (record { core = old.core; kept = kept; outgoing = rest }) after
  put_going old before put rest kept after same moves still sound =
      record { put = put; taken = []; events = []; part = put_part old before put rest kept after same moves still sound; few = omega arith; spent = λ used. refl }

  -- an item is taken, and arrives or is kept
  pub taken_part : (old : Working) (before : B) (i : Item) (events : List Event) (new : Working) (after : B)
      → TakesBy q old before i after → arrived events ++ option_to_list new.kept ≡ i ∷ [] → new.outgoing ≡ old.outgoing → sent events ≡ []
      → new.core.log ≡ old.core.log ++ events → IsSound may sys new.core → LeavesOthers old.core new.core
      → (taken : List Item) × (length taken ≤ 1) × Part may sys q old before [] taken events new after
  taken_part old before i events new after (inl (kept, same)) came out none log sound rest = (
    [],
    omega arith,
    record {
      moves = q.still_moves before after same;
      came = append-nil (option_to_list old.kept) ∙ ap option_to_list kept ∙ sym came;
      went = out ∙ sym (append-nil old.outgoing) ∙ ap (λ l. old.outgoing ++ l) (sym none);
      log = log;
      sound = sound;
      rest = rest;
      legal = subst (All (IsLegalIn sys)) (sym none) (All-nil (IsLegalIn sys));
      few = let z = ap length none in omega (arith, z);
    },
  )
  taken_part old before i events new after (inr (kept, moves)) came out none log sound rest = (
    i ∷ [],
    omega arith,
    record {
      moves = moves;
      came = ap (λ (o : Option Item). option_to_list o ++ i ∷ []) kept ∙ sym came;
      went = out ∙ sym (append-nil old.outgoing) ∙ ap (λ l. old.outgoing ++ l) (sym none);
      log = log;
      sound = sound;
      rest = rest;
      legal = subst (All (IsLegalIn sys)) (sym none) (All-nil (IsLegalIn sys));
      few = let z = ap length none in omega (arith, z);
    },
  )

  pub turn_part : (old : Working) (before : B) (new : Working) (made : MakesTurn may sys old new) → old.outgoing ≡ [] → Part may sys q old before [] [] (made.event ∷ []) new before
  turn_part old before new made none =
      record {
        moves = q.still_moves before before (q.still_same before);
        came = append-nil (option_to_list old.kept) ∙ ap option_to_list (sym made.kept) ∙ ap (λ l. l ++ option_to_list new.kept) (sym (arrived_none made.event made.turn));
        went = made.hand ∙ ap (λ l. l ++ sent (made.event ∷ [])) (sym none);
        log = made.log;
        sound = made.sound;
        rest = made.rest;
        legal = subst (All (IsLegalIn sys)) made.hand made.legal;
        few =
            let l = ap length made.hand in
            let t : turns (made.event ∷ []) ≡ 0 + turn_in made.event = refl in
            omega (arith, l, t, made.turn, made.few);
      }
