-- A step is one round: what each of its parts adds to the log, and that a kept item leaves none to be taken.
use Rattle.std.proofs.Common.{◌≡◌, ℕ, ◌+◌, ◌≤◌, ◌⊎◌, inl, inr, Bool, true, false, Result, Ok, Err, List, [], ◌∷◌, ◌++◌, drop, Option, None, Some, length, refl, ap, sym, ◌∙◌, subst, append_assoc, append-nil, length-append, true≢false, arith}
use Rattle.std.specs.Result.{IsErr}
use Rattle.std.proofs.Math.Seq.{drop-append_seam}
use Rattle.sdl_signal.specs.declared.values.Pid.{Pid}
use Rattle.sdl_signal.specs.declared.values.Item.{Item}
use Rattle.sdl_transition_behaviour.specs.declared.step.Frame.{Frame}
use Rattle.sdl_transition_behaviour.specs.declared.step.Step.{Step}
use Rattle.sdl_instances_log.specs.declared.event.Event.{Event}
use Rattle.sdl_instances.specs.Machine.{System}
use Rattle.sdl_instances.specs.Run.{arrived, turns, turn_in}
use Rattle.sdl_instances.specs.Core.{Core, IsReady, arrival_event}
use Rattle.sdl_instances_log.specs.declared.event.Arrival.{Arrival}
use Rattle.sdl_instances_log.specs.declared.event.Arrival.TheVariants as arrival
use Rattle.sdl_block_hand.specs.declared.hand.Stepped.{Stepped}
use Rattle.sdl_block_hand.specs.declared.hand.Stepped.TheVariants as stepped
use Rattle.sdl_block_hand.specs.declared.hand.Refused.{Refused}
use Rattle.sdl_block_hand.specs.Work.{Working}
use Rattle.sdl_block_hand.specs.Puts.{answer_of}
use Rattle.sdl_block.specs.Phases.{IsSpent, TriesTurn}
use Rattle.sdl_block.specs.Rounds.{new_events, arrivals, turns_made}
use Rattle.sdl_block.specs.Around.{Queues, TakesBy, LetsBy, PutsBy}
use Rattle.sdl_block_hand.proofs.Through.{arrived-append}
use Rattle.sdl_block.proofs.Parts.{turns-append}
use Rattle.sdl_block.proofs.Going.{arrived_one, arrived_none}
use Rattle.sdl_block.proofs.Stepping.{holding}

-- one where it did something
abbrev once : Bool → ℕ
once true = 1
once false = 0

-- so many items arrive and so many turns are made from one core to another
record Adds (old new : Core) (items made : ℕ) : Type 0 where
  pub events : List Event
  pub log : new.log ≡ old.log ++ events
  pub items_are : length (arrived events) ≡ items
  pub made_are : turns events ≡ made

adds_same : (old new : Core) → new ≡ old → Adds old new 0 0
adds_same old new same = record { events = []; log = ap (λ (c : Core). c.log) same ∙ sym (append-nil old.log); items_are = refl; made_are = refl }

adds_then : (a b c : Core) (m n k l : ℕ) → Adds a b m n → Adds b c k l → Adds a c (m + k) (n + l)
adds_then a b c m n k l p q =
    record {
      events = p.events ++ q.events;
      log = q.log ∙ ap (λ e. e ++ q.events) p.log ∙ append_assoc a.log p.events q.events;
      items_are =
          let s = ap length (arrived-append p.events q.events) ∙ length-append (arrived p.events) (arrived q.events) in
          omega (arith, s, p.items_are, q.items_are);
      made_are = let s = turns-append p.events q.events in omega (arith, s, p.made_are, q.made_are);
    }

new_are : (old new : Core) (m n : ℕ) → (a : Adds old new m n) → new_events old new ≡ a.events
new_are old new m n a = ap (λ e. drop (length old.log) e) a.log ∙ drop-append_seam old.log a.events

arrivals_are : (old new : Core) (m n : ℕ) → Adds old new m n → arrivals old new ≡ m
arrivals_are old new m n a = ap (λ e. length (arrived e)) (new_are old new m n a) ∙ a.items_are

turns_are : (old new : Core) (m n : ℕ) → Adds old new m n → turns_made old new ≡ n
turns_are old new m n a = ap turns (new_are old new m n a) ∙ a.made_are

no_turn : (i : Item) (a : Arrival) → turns (arrival_event i a ∷ []) ≡ 0
no_turn i (arrival.Entered p) = refl
no_turn i (arrival.Discarded c) = refl

abbrev is_did : Stepped → Bool
is_did stepped.Did = true
is_did stepped.Idle = false
is_did stepped.Memory = false

not_did : (result : Result Bool Refused) → IsErr result → answer_of result ≡ stepped.Did → ⊥
not_did (Err r) h e = true≢false (sym (ap is_did e))
not_did (Ok did) h e = true≢false (sym h)

abbrev filled : {X : Type 0} → Option X → Bool
filled (Some x) = true
filled None = false

some_not_none : {X : Type 0} (o : Option X) (x : X) → o ≡ Some x → o ≡ None → ⊥
some_not_none o x some none = true≢false (ap filled (sym some ∙ none))

module _ {B : Type 0} (q : Queues B) where
  -- items may be put, and none is taken
  abbrev pub NoneTaken : B → B → Type 0
  NoneTaken before after = (put : List Item) × q.Moves put [] before after

  still_none : (before after : B) → q.Still before after → NoneTaken before after
  still_none before after still = ([], q.still_moves before after still)

  none_then : (a b c : B) → NoneTaken a b → NoneTaken b c → NoneTaken a c
  none_then a b c (m, h) (n, k) = (m ++ n, q.moves_then m [] n [] a b c h k)

  puts_none : (items : List Item) (before : B) (result : Result Bool Refused) (rest : List Item) (after : B) → PutsBy q items before result rest after → NoneTaken before after
  puts_none items before (Ok true) rest after (moves, some, none) = (items, moves)
  puts_none items before (Ok false) rest after (was, none, still) = still_none before after still
  puts_none items before (Err r) rest after (put, same, moves) = (put, moves)

  -- all is put
  puts_all : (items : List Item) (before : B) (d : Bool) (rest : List Item) (after : B) → PutsBy q items before (Ok d) rest after → q.Moves items [] before after
  puts_all items before true rest after (moves, some, none) = moves
  puts_all items before false rest after (was, none, still) = subst (λ (l : List Item). q.Moves l [] before after) (sym was) (q.still_moves before after still)

  takes_kept : (w : Working) (before after : B) (i j : Item) → w.kept ≡ Some j → TakesBy q w before i after → q.Still before after
  takes_kept w before after i j kept (inl (is, still)) = still
  takes_kept w before after i j kept (inr (none, moves)) = absurd (some_not_none w.kept j kept none)

  -- no item came: none is kept, and none could be taken once what is in hand was put, nor was one
  pub record NoneCame (w : Working) (before after : B) : Type 0 where
    pub kept : w.kept ≡ None
    pub between : B
    pub put : q.Moves w.outgoing [] before between
    pub empty : q.Empty between
    pub none : NoneTaken before after

  -- a step is one round
  pub record RoundBy (old : Working) (before : B) (answer : Stepped) (new : Working) (after : B) : Type 0 where
    pub one_arrival : arrivals old.core new.core ≤ 1
    pub one_turn : turns_made old.core new.core ≤ 1
    pub in_place : (i : Item) → old.kept ≡ Some i → NoneTaken before after
    pub arrival : answer ≡ stepped.Did → (arrivals old.core new.core ≡ 1) ⊎ (IsSpent old.core ⊎ NoneCame old before after)
    pub turn : answer ≡ stepped.Did → (turns_made old.core new.core ≡ 1) ⊎ (IsSpent new.core ⊎ ((p : Pid) → IsReady p new.core.state → ⊥))

few : (b : Bool) → once b ≤ 1
few true = omega arith
few false = omega arith

and_none : (b : Bool) → once b + 0 ≡ once b
and_none true = refl
and_none false = refl

none_and : (b : Bool) → 0 + once b ≡ once b
none_and true = refl
none_and false = refl

adds_so : (old new : Core) (m n k l : ℕ) → m ≡ k → n ≡ l → Adds old new m n → Adds old new k l
adds_so old new m n k l m_is n_is a = record { events = a.events; log = a.log; items_are = a.items_are ∙ m_is; made_are = a.made_are ∙ n_is }

module _ (may : ℕ → Frame → Step → Type 0) (sys : System) where
  turn_adds : (old : Working) (t : Bool) (new : Working) → TriesTurn may sys old (Ok t) new → Adds old.core new.core 0 (once t)
  turn_adds old true new made =
      record {
        events = made.event ∷ [];
        log = made.log;
        items_are = ap length (arrived_none made.event made.turn);
        made_are = let one : turns (made.event ∷ []) ≡ 0 + turn_in made.event = refl in omega (arith, one, made.turn);
      }
  turn_adds old false new (same, work) = adds_same old.core new.core (ap (λ (w : Working). w.core) same)

  -- a turn is left out only where none can be made
  turn_left : (old : Working) (t : Bool) (new : Working) → TriesTurn may sys old (Ok t) new → (t ≡ true) ⊎ (IsSpent new.core ⊎ ((p : Pid) → IsReady p new.core.state → ⊥))
  turn_left old true new made = inl refl
  turn_left old false new (same, work) = inr (subst (λ (w : Working). IsSpent w.core ⊎ ((p : Pid) → IsReady p w.core.state → ⊥)) (sym same) work)

module _ (may : ℕ → Frame → Step → Type 0) (sys : System) {B : Type 0} (q : Queues B) where
  lets_none : (old : Working) (before : B) (result : Result Bool Refused) (new : Working) (after : B) (j : Item) → old.kept ≡ Some j → LetsBy may sys q old before result new after → NoneTaken q before after
  lets_none old before (Ok true) new after j kept (i, unspent, takes, admits) = still_none q before after (takes_kept q old before after i j kept takes)
  lets_none old before (Ok false) new after j kept (same, still, none, work) = still_none q before after still
  lets_none old before (Err r) new after j kept (inl (used, same, still)) = still_none q before after still
  lets_none old before (Err r) new after j kept (inr (unspent, (i, takes, same))) = still_none q before after (takes_kept q old before after i j kept takes)

  lets_adds : (old : Working) (before : B) (a : Bool) (new : Working) (after : B) → LetsBy may sys q old before (Ok a) new after → Adds old.core new.core (once a) 0
  lets_adds old before true new after (i, unspent, takes, admits) =
      record { events = arrival_event i admits.arrival ∷ []; log = admits.log; items_are = ap length (arrived_one i admits.arrival); made_are = no_turn i admits.arrival }
  lets_adds old before false new after (same, still, none, work) = adds_same old.core new.core (ap (λ (w : Working). w.core) same)

  refused_adds : (old : Working) (before : B) (r : Refused) (new : Working) (after : B) → LetsBy may sys q old before (Err r) new after → Adds old.core new.core 0 0
  refused_adds old before r new after (inl (used, same, still)) = adds_same old.core new.core (ap (λ (w : Working). w.core) same)
  refused_adds old before r new after (inr (unspent, (i, takes, same))) = adds_same old.core new.core (ap (λ (w : Working). w.core) same)

  -- an arrival is left out only where none comes
  arrival_left : (old : Working) (before : B) (a : Bool) (new : Working) (after : B) → LetsBy may sys q old before (Ok a) new after
      → (a ≡ true) ⊎ (IsSpent old.core ⊎ ((old.kept ≡ None) × q.Empty before × q.Still before after))
  arrival_left old before true new after h = inl refl
  arrival_left old before false new after (same, still, none, work) = elim work [
    | inl used ↦ inr (inl used)
    | inr empty ↦ inr (inr (none, empty, still))
  ]

  -- a round that was refused
  refused_round : (old : Working) (before : B) (result : Result Bool Refused) (new : Working) (after : B) (m n : ℕ)
      → IsErr result → Adds old.core new.core m n → m ≤ 1 → n ≤ 1 → ((i : Item) → old.kept ≡ Some i → NoneTaken q before after) → RoundBy q old before (answer_of result) new after
  refused_round old before result new after m n err adds few_m few_n none =
      record {
        one_arrival = subst (λ (k : ℕ). k ≤ 1) (sym (arrivals_are old.core new.core m n adds)) few_m;
        one_turn = subst (λ (k : ℕ). k ≤ 1) (sym (turns_are old.core new.core m n adds)) few_n;
        in_place = none;
        arrival = λ said. absurd (not_did result err said);
        turn = λ said. absurd (not_did result err said);
      }

  module _ (old : Working) (before : B) where
    pub round_at_put : (result : Result Bool Refused) → IsErr result → (r : Refused) (kept : Option Item) (rest : List Item) (after : B)
        → PutsBy q old.outgoing before (Err r) rest after → RoundBy q old before (answer_of result) (holding old.core kept rest) after
    round_at_put result err r kept rest after puts =
        refused_round old before result (holding old.core kept rest) after 0 0 err (adds_same old.core old.core refl) (omega arith) (omega arith)
        (λ i is. puts_none q old.outgoing before (Err r) rest after puts)

    module _ (d : Bool) (kept : Option Item) (rest : List Item) (between : B) (out : PutsBy q old.outgoing before (Ok d) rest between) (still : kept ≡ old.kept) where
      abbrev mid : Working
      mid = holding old.core kept rest

      none_first : NoneTaken q before between
      none_first = puts_none q old.outgoing before (Ok d) rest between out

      none_lets : (result : Result Bool Refused) (new : Working) (after : B) → LetsBy may sys q mid between result new after → (i : Item) → old.kept ≡ Some i → NoneTaken q before after
      none_lets result new after lets i is = none_then q before between after none_first (lets_none mid between result new after i (still ∙ is) lets)

      pub round_at_arrival : (result : Result Bool Refused) → IsErr result → (r : Refused) (new : Working) (after : B) → LetsBy may sys q mid between (Err r) new after → RoundBy q old before (answer_of result) new after
      round_at_arrival result err r new after lets =
          refused_round old before result new after 0 0 err (refused_adds mid between r new after lets) (omega arith) (omega arith) (none_lets (Err r) new after lets)

      module _ (a : Bool) (arrived : Working) (taken : B) (lets : LetsBy may sys q mid between (Ok a) arrived taken) where
        first_adds : Adds old.core arrived.core (once a) 0
        first_adds = lets_adds mid between a arrived taken lets

        pub round_at_turn : (result : Result Bool Refused) → IsErr result → (new : Working) → new ≡ arrived → RoundBy q old before (answer_of result) new taken
        round_at_turn result err new same =
            refused_round old before result new taken (once a) 0 err
            (adds_so old.core new.core (once a + 0) (0 + 0) (once a) 0 (and_none a) refl
            (adds_then old.core arrived.core new.core (once a) 0 0 0 first_adds (adds_same arrived.core new.core (ap (λ (w : Working). w.core) same))))
            (few a) (omega arith) (none_lets (Ok a) arrived taken lets)

        module _ (others : System) (t : Bool) (turned : Working) (makes : TriesTurn may others arrived (Ok t) turned) where
          both_add : Adds old.core turned.core (once a) (once t)
          both_add =
              adds_so old.core turned.core (once a + 0) (0 + once t) (once a) (once t) (and_none a) (none_and t)
              (adds_then old.core arrived.core turned.core (once a) 0 0 (once t) first_adds (turn_adds may others arrived t turned makes))

          none_all : (result : Result Bool Refused) (left : List Item) (after : B) → PutsBy q turned.outgoing taken result left after → (i : Item) → old.kept ≡ Some i → NoneTaken q before after
          none_all result left after outs i is =
              none_then q before taken after (none_lets (Ok a) arrived taken lets i is) (puts_none q turned.outgoing taken result left after outs)

          pub round_at_last : (result : Result Bool Refused) → IsErr result → (r : Refused) (last : Option Item) (left : List Item) (after : B) → PutsBy q turned.outgoing taken (Err r) left after
              → RoundBy q old before (answer_of result) (holding turned.core last left) after
          round_at_last result err r last left after outs =
              refused_round old before result (holding turned.core last left) after (once a) (once t) err both_add (few a) (few t) (none_all (Err r) left after outs)

          arrival_in : (after : B) → NoneTaken q taken after → (arrivals old.core turned.core ≡ 1) ⊎ (IsSpent old.core ⊎ NoneCame q old before after)
          arrival_in after none_after =
              elim (arrival_left mid between a arrived taken lets) [
                | inl did ↦ inl (arrivals_are old.core turned.core (once a) (once t) both_add ∙ ap once did)
                | inr (inl used) ↦ inr (inl used)
                | inr (inr (none, empty, at_rest)) ↦
                    inr (inr (record {
                      kept = sym still ∙ none;
                      between = between;
                      put = puts_all q old.outgoing before d rest between out;
                      empty = empty;
                      none = none_then q before taken after (none_then q before between taken none_first (still_none q between taken at_rest)) none_after;
                    }))
              ]

          turn_in_round : (turns_made old.core turned.core ≡ 1) ⊎ (IsSpent turned.core ⊎ ((x : Pid) → IsReady x turned.core.state → ⊥))
          turn_in_round =
              elim (turn_left may others arrived t turned makes) [
                | inl did ↦ inl (turns_are old.core turned.core (once a) (once t) both_add ∙ ap once did)
                | inr none ↦ inr none
              ]

          pub round_whole : (did e : Bool) (last : Option Item) (left : List Item) (after : B) → PutsBy q turned.outgoing taken (Ok e) left after
              → RoundBy q old before (answer_of (Ok did)) (holding turned.core last left) after
          round_whole did e last left after outs =
              record {
                one_arrival = subst (λ (k : ℕ). k ≤ 1) (sym (arrivals_are old.core turned.core (once a) (once t) both_add)) (few a);
                one_turn = subst (λ (k : ℕ). k ≤ 1) (sym (turns_are old.core turned.core (once a) (once t) both_add)) (few t);
                in_place = none_all (Ok e) left after outs;
                arrival = λ said. arrival_in after (puts_none q turned.outgoing taken (Ok e) left after outs);
                turn = λ said. turn_in_round;
              }
