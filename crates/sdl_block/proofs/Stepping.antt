-- The phases of a step, one after another, and what the step answers.
use Rattle.std.proofs.Common.{◌≡◌, ℕ, ◌+◌, ◌⊎◌, inl, inr, Bool, true, false, ◌||◌, Result, Ok, Err, List, [], ◌∷◌, ◌++◌, Option, None, length, All, refl, ap, sym, ◌∙◌, subst, append-nil, length-append, true≢false, arith}
use Rattle.std.specs.Option.{option_to_list}
use Rattle.std.specs.Result.{IsErr}
use Rattle.std.proofs.lemmas.List.Elements.{All-nil}
use Rattle.sdl_signal.specs.declared.values.Pid.{Pid}
use Rattle.sdl_signal.specs.declared.values.Item.{Item}
use Rattle.sdl_transition_behaviour.specs.declared.step.Frame.{Frame}
use Rattle.sdl_transition_behaviour.specs.declared.step.Step.{Step}
use Rattle.sdl_instances.specs.Machine.{System}
use Rattle.sdl_instances.specs.Run.{arrived, sent}
use Rattle.sdl_instances.specs.Core.{Core, IsReady, IsSound, IsLegalIn, arrival_event}
use Rattle.sdl_instances.specs.Calls.{LeavesOthers}
use Rattle.sdl_block_hand.specs.declared.hand.Refused.{Refused}
use Rattle.sdl_block_hand.specs.Work.{Working}
use Rattle.sdl_block_hand.specs.Puts.{answer_of}
use Rattle.sdl_block.specs.Phases.{IsSpent, TriesTurn, PutsFirst, IsEmptyAfter}
use Rattle.sdl_block.specs.Around.{Queues, LetsBy, PutsBy}
use Rattle.sdl_block.proofs.Parts.{Part, no_part, keeps-same}
use Rattle.sdl_block.proofs.Going.{Going, Says, going_then, says_then, put_going, taken_part, turn_part, cons_not_nil, sent_none, arrived_one}

-- the block with the core and another hand
abbrev pub holding : Core → Option Item → List Item → Working
holding core kept outgoing = record { core = core; kept = kept; outgoing = outgoing }

or_same : (t e : Bool) → (e ≡ true → t ≡ true) → (t || e) ≡ t
or_same true e h = refl
or_same false true h = absurd (true≢false (sym (h refl)))
or_same false false h = refl

or_left : (d e : Bool) → (d || e) ≡ false → d ≡ false
or_left true e h = h
or_left false e h = refl

or_right : (d e : Bool) → (d || e) ≡ false → e ≡ false
or_right true e h = absurd (true≢false h)
or_right false e h = h

or_turn : (d t : Bool) → t ≡ true → (d || t) ≡ true
or_turn true t h = refl
or_turn false t h = h

module _ (may : ℕ → Frame → Step → Type 0) (sys : System) where
  pub legal_after : (t : Bool) (old new : Working) → TriesTurn may sys old (Ok t) new → old.outgoing ≡ [] → All (IsLegalIn sys) new.outgoing
  legal_after true old new made none = made.legal
  legal_after false old new (same, work) none = subst (All (IsLegalIn sys)) (sym (ap (λ (w : Working). w.outgoing) same ∙ none)) (All-nil (IsLegalIn sys))

  kept_still : (t : Bool) (old new : Working) → TriesTurn may sys old (Ok t) new → new.kept ≡ old.kept
  kept_still true old new made = made.kept
  kept_still false old new (same, work) = ap (λ (w : Working). w.kept) same

pub empty_so : (did : Bool) (w : Working) → w.kept ≡ None → w.outgoing ≡ [] → IsEmptyAfter (answer_of (Ok did)) w
empty_so true w kept outgoing = (kept, outgoing)
empty_so false w kept outgoing = (kept, outgoing)

pub refused_hand : (result : Result Bool Refused) → IsErr result → (w : Working) → IsEmptyAfter (answer_of result) w
refused_hand (Err r) h w = tt
refused_hand (Ok did) h w = absurd (true≢false (sym h))

module _ (may : ℕ → Frame → Step → Type 0) (sys : System) {B : Type 0} (q : Queues B) where
  -- a phase: what it does, and what its answer says
  pub record Phase (most : ℕ) (did : Bool) (old : Working) (before : B) (new : Working) (after : B) : Type 0 where
    pub going : Going may sys q most old before new after
    pub says : Says may sys q did going.put going.events old before new after

  pub going_same : (most : ℕ) (old : Working) (before : B) (new : Working) (after : B) → new ≡ old → q.Still before after → IsSound may sys old.core → Going may sys q most old before new after
  going_same most old before new after same still sound =
      record {
        put = [];
        taken = [];
        events = [];
        part = subst (λ (w : Working). Part may sys q old before [] [] [] w after) (sym same) (no_part may sys q old before after still sound);
        few = omega arith;
        spent = λ used. ap (λ (w : Working). w.core) same;
      }

  pub phase_then : (m n : ℕ) (d e : Bool) (old : Working) (before : B) (mid : Working) (between : B) (new : Working) (after : B)
      → Phase m d old before mid between → Phase n e mid between new after → Phase (m + n) (d || e) old before new after
  phase_then m n d e old before mid between new after a b =
      record {
        going = going_then may sys q m n old before mid between new after a.going b.going;
        says = says_then may sys q d e m n old before mid between new after a.going b.going a.says b.says;
      }

  pub put_phase : (d : Bool) (old : Working) (before : B) (kept : Option Item) (rest : List Item) (after : B)
      → PutsBy q old.outgoing before (Ok d) rest after → kept ≡ old.kept → IsSound may sys old.core → Phase 0 d old before (holding old.core kept rest) after
  put_phase true old before kept rest after (moves, some, none) still sound =
      record {
        going = put_going may sys q old before old.outgoing rest kept after (ap (λ l. old.outgoing ++ l) none ∙ append-nil old.outgoing) moves still sound;
        says = record { some = λ said (no_put, no_event). some no_put; none = λ said. absurd (true≢false said) };
      }
  put_phase false old before kept rest after (was, none, same) still sound =
      record {
        going = put_going may sys q old before [] rest kept after (none ∙ sym was) (q.still_moves before after same) still sound;
        says =
            record {
              some = λ said. absurd (true≢false (sym said));
              none = λ said. (ap (λ k. holding old.core k rest) still ∙ ap (λ o. holding old.core old.kept o) (none ∙ sym was), same);
            };
      }

  pub none_left : (d : Bool) (old rest : List Item) (before after : B) → PutsBy q old before (Ok d) rest after → rest ≡ []
  none_left true old rest before after h = h.2
  none_left false old rest before after h = h.1

  pub lets_phase : (a : Bool) (old : Working) (before : B) (new : Working) (after : B) → LetsBy may sys q old before (Ok a) new after → IsSound may sys old.core → Phase 1 a old before new after × (new.outgoing ≡ old.outgoing)
  lets_phase true old before new after (i, unspent, takes, admits) sound =
      let came : arrived (arrival_event i admits.arrival ∷ []) ++ option_to_list new.kept ≡ i ∷ [] = ap (λ l. l ++ option_to_list new.kept) (arrived_one i admits.arrival) ∙ ap (λ o. i ∷ [] ++ option_to_list o) admits.hand.0 in
      let (taken, few, part) = taken_part may sys q old before i (arrival_event i admits.arrival ∷ []) new after takes came admits.hand.1 (sent_none i admits.arrival) admits.log admits.sound admits.rest in (
        record {
          going = record { put = []; taken = taken; events = arrival_event i admits.arrival ∷ []; part = part; few = few; spent = λ used. absurd (unspent used) };
          says = record { some = λ said (no_put, no_event). cons_not_nil (arrival_event i admits.arrival) [] no_event; none = λ said. absurd (true≢false said) };
        },
        admits.hand.1,
      )
  lets_phase false old before new after (same, still, kept, work) sound = (
    record {
      going = going_same 1 old before new after same still sound;
      says = record { some = λ said. absurd (true≢false (sym said)); none = λ said. (same, still) };
    },
    ap (λ (w : Working). w.outgoing) same,
  )

  pub lets_refused : (r : Refused) (old : Working) (before : B) (new : Working) (after : B) → LetsBy may sys q old before (Err r) new after → IsSound may sys old.core → Going may sys q 1 old before new after
  lets_refused r old before new after (inl (used, same, still)) sound = going_same 1 old before new after same still sound
  lets_refused r old before new after (inr (unspent, (i, takes, same))) sound =
      let core = ap (λ (w : Working). w.core) same in
      let (taken, few, part) =
      taken_part may sys q old before i [] new after takes (ap (λ (w : Working). option_to_list w.kept) same) (ap (λ (w : Working). w.outgoing) same) refl
      (ap (λ (c : Core). c.log) core ∙ sym (append-nil old.core.log)) (subst (λ (c : Core). IsSound may sys c) (sym core) sound) (subst (λ (c : Core). LeavesOthers old.core c) (sym core) (keeps-same old.core)) in
      record { put = []; taken = taken; events = []; part = part; few = few; spent = λ used. core }

  pub turn_phase : (t : Bool) (old : Working) (before : B) (new : Working) → TriesTurn may sys old (Ok t) new → old.outgoing ≡ [] → IsSound may sys old.core → Phase 0 t old before new before
  turn_phase true old before new made none sound =
      record {
        going = record { put = []; taken = []; events = made.event ∷ []; part = turn_part may sys q old before new made none; few = omega arith; spent = λ used. absurd (made.within used) };
        says = record { some = λ said (no_put, no_event). cons_not_nil made.event [] no_event; none = λ said. absurd (true≢false said) };
      }
  turn_phase false old before new (same, work) none sound =
      record {
        going = going_same 0 old before new before same (q.still_same before) sound;
        says = record { some = λ said. absurd (true≢false (sym said)); none = λ said. (same, q.still_same before) };
      }

  -- where something is then put, a turn was made
  put_after_turn : (t e : Bool) (old new : Working) (before after : B) (rest : List Item) → TriesTurn may sys old (Ok t) new → old.outgoing ≡ [] → PutsBy q new.outgoing before (Ok e) rest after → e ≡ true → t ≡ true
  put_after_turn true e old new before after rest turned none h said = refl
  put_after_turn false true old new before after rest (same, work) none h said = absurd (h.1 (ap (λ (w : Working). w.outgoing) same ∙ none))
  put_after_turn false false old new before after rest turned none h said = said

  -- an item that did not arrive is kept by a refusal alone
  kept_none : (a : Bool) (old : Working) (before : B) (new : Working) (after : B) → LetsBy may sys q old before (Ok a) new after → new.kept ≡ None
  kept_none true old before new after (i, unspent, takes, admits) = admits.hand.0
  kept_none false old before new after (same, still, kept, work) = ap (λ (w : Working). w.kept) same ∙ kept

  -- there is nothing to do: nothing is in hand, and the budget is used, or no item can be taken and no instance is ready
  pub record RestsBy (w : Working) (before : B) : Type 0 where
    pub kept : w.kept ≡ None
    pub outgoing : w.outgoing ≡ []
    pub work : IsSpent w.core ⊎ (q.Empty before × ((p : Pid) → IsReady p w.core.state → ⊥))

  -- what a step does, by its answer
  abbrev pub StepsBy : Working → B → Result Bool Refused → Working → B → Type 0
  StepsBy old before (Ok true) new after = (g : Going may sys q 1 old before new after) × ((g.put ≡ []) × (g.events ≡ []) → ⊥)
  StepsBy old before (Ok false) new after = (new ≡ old) × q.Still before after × RestsBy old before
  StepsBy old before (Err _) new after = Going may sys q 1 old before new after

  -- what a step ends with: its answer, and what follows where it was refused a put at first, or the budget was used
  abbrev pub Ends : Working → B → Result Bool Refused → Working → B → Type 0
  Ends old before result new after = StepsBy old before result new after × PutsFirst old new × (IsSpent old.core → new.core ≡ old.core)

  ends_refused : (r : Refused) (old : Working) (before : B) (new : Working) (after : B) → Going may sys q 1 old before new after → PutsFirst old new → Ends old before (Err r) new after
  ends_refused r old before new after g first = (g, first, g.spent)

  ends_so : (did : Bool) (old : Working) (before : B) (new : Working) (after : B) → Phase 1 did old before new after → (did ≡ false → RestsBy old before) → PutsFirst old new → Ends old before (Ok did) new after
  ends_so true old before new after so rests first = ((so.going, so.says.some refl), first, so.going.spent)
  ends_so false old before new after so rests first = let same = so.says.none refl in ((same.0, same.1, rests refl), first, so.going.spent)

  -- a step that was not refused at its first put has put all that was in hand
  first_put : (most : ℕ) (old mid : Working) (between : B) (new : Working) (after : B) → Going may sys q most mid between new after → mid.core ≡ old.core → mid.outgoing ≡ [] → PutsFirst old new
  first_put most old mid between new after g core none =
      let all : g.put ++ new.outgoing ≡ sent g.events = g.part.went ∙ ap (λ l. l ++ sent g.events) none in
      let l : length (g.put ++ new.outgoing) ≡ length g.put + length new.outgoing = length-append g.put new.outgoing in
      let e = ap length all in
      inr (g.events, g.part.log ∙ ap (λ (c : Core). c.log ++ g.events) core, omega (arith, l, e))

  -- a refused put at first
  pub ends_at_put : (r : Refused) (old : Working) (before : B) (kept : Option Item) (rest : List Item) (after : B)
      → PutsBy q old.outgoing before (Err r) rest after → kept ≡ old.kept → IsSound may sys old.core → Ends old before (Err r) (holding old.core kept rest) after
  ends_at_put r old before kept rest after (put, same, moves) still sound =
      let g = put_going may sys q old before put rest kept after same moves still sound in
      (record { put = g.put; taken = g.taken; events = g.events; part = g.part; few = omega arith; spent = g.spent }, inl refl, g.spent)

  module _ (old : Working) (before : B) (d : Bool) (kept : Option Item) (rest : List Item) (between : B)
      (out : PutsBy q old.outgoing before (Ok d) rest between) (still : kept ≡ old.kept) (sound : IsSound may sys old.core) where
    abbrev mid : Working
    mid = holding old.core kept rest

    put_so : Phase 0 d old before mid between
    put_so = put_phase d old before kept rest between out still sound

    empty : rest ≡ []
    empty = none_left d old.outgoing rest before between out

    -- a refused arrival
    pub ends_at_arrival : (r : Refused) (new : Working) (after : B) → LetsBy may sys q mid between (Err r) new after → Ends old before (Err r) new after
    ends_at_arrival r new after lets =
        let g = lets_refused r mid between new after lets sound in
        ends_refused r old before new after (going_then may sys q 0 1 old before mid between new after put_so.going g) (first_put 1 old mid between new after g refl empty)

    module _ (a : Bool) (arrived : Working) (taken : B) (lets : LetsBy may sys q mid between (Ok a) arrived taken) where
      arrive_so : Phase 1 a mid between arrived taken
      arrive_so = (lets_phase a mid between arrived taken lets sound).0

      pub sound_then : IsSound may sys arrived.core
      sound_then = arrive_so.going.part.sound

      pub keeps_then : LeavesOthers old.core arrived.core
      keeps_then = arrive_so.going.part.rest

      pub empty_then : arrived.outgoing ≡ []
      empty_then = (lets_phase a mid between arrived taken lets sound).1 ∙ empty

      both_so : Phase 1 (d || a) old before arrived taken
      both_so = phase_then 0 1 d a old before mid between arrived taken put_so arrive_so

      pub moved_then : Going may sys q 1 old before arrived taken
      moved_then = both_so.going

      -- a turn that was refused
      pub ends_at_turn : (r : Refused) (new : Working) → TriesTurn may sys arrived (Err r) new → Ends old before (Err r) new taken
      ends_at_turn r new same =
          let g = going_same 0 arrived taken new taken same (q.still_same taken) sound_then in
          ends_refused r old before new taken (going_then may sys q 1 0 old before arrived taken new taken both_so.going g)
          (first_put 1 old mid between new taken (going_then may sys q 1 0 mid between arrived taken new taken arrive_so.going g) refl empty)

      module _ (t : Bool) (turned : Working) (makes : TriesTurn may sys arrived (Ok t) turned) where
        turn_so : Phase 0 t arrived taken turned taken
        turn_so = turn_phase t arrived taken turned makes empty_then sound_then

        pub legal_then : All (IsLegalIn sys) turned.outgoing
        legal_then = legal_after may sys t arrived turned makes empty_then

        three_so : Phase 1 ((d || a) || t) old before turned taken
        three_so = phase_then 1 0 (d || a) t old before arrived taken turned taken both_so turn_so

        turned_so : Going may sys q 1 mid between turned taken
        turned_so = going_then may sys q 1 0 mid between arrived taken turned taken arrive_so.going turn_so.going

        pub turned_then : Going may sys q 1 old before turned taken
        turned_then = three_so.going

        -- a put of what was sent that was refused
        pub ends_at_last : (r : Refused) (last : Option Item) (left : List Item) (after : B) → PutsBy q turned.outgoing taken (Err r) left after → last ≡ turned.kept → Ends old before (Err r) (holding turned.core last left) after
        ends_at_last r last left after (put, same, moves) also =
            let g = put_going may sys q turned taken put left last after same moves also turn_so.going.part.sound in
            ends_refused r old before (holding turned.core last left) after (going_then may sys q 1 0 old before turned taken (holding turned.core last left) after three_so.going g)
            (first_put 1 old mid between (holding turned.core last left) after (going_then may sys q 1 0 mid between turned taken (holding turned.core last left) after turned_so g) refl empty)

        at_rest : ((d || a) || t) ≡ false → RestsBy old before
        at_rest said =
            let no_put : d ≡ false = or_left d a (or_left (d || a) t said) in
            let no_arrival : a ≡ false = or_right d a (or_left (d || a) t said) in
            let no_turn : t ≡ false = or_right (d || a) t said in
            let o = subst (λ (x : Bool). PutsBy q old.outgoing before (Ok x) rest between) no_put out in
            let l = subst (λ (x : Bool). LetsBy may sys q mid between (Ok x) arrived taken) no_arrival lets in
            let m = subst (λ (x : Bool). TriesTurn may sys arrived (Ok x) turned) no_turn makes in
            record {
              kept = sym still ∙ l.2;
              outgoing = o.0;
              work =
                  elim l.3 [
                    | inl used ↦ inl used
                    | inr none ↦
                        elim m.1 [
                          | inl used ↦ inl (subst (λ (w : Working). IsSpent w.core) l.0 used)
                          | inr ready ↦ inr (q.empty_before before between o.2 none, subst (λ (w : Working). (x : Pid) → IsReady x w.core.state → ⊥) l.0 ready)
                        ]
                  ];
            }

        -- a whole step
        pub ends_whole : (e : Bool) (last : Option Item) (left : List Item) (after : B) → PutsBy q turned.outgoing taken (Ok e) left after → last ≡ turned.kept
            → Ends old before (Ok ((d || a) || t)) (holding turned.core last left) after
        ends_whole e last left after outs also =
            let final = put_phase e turned taken last left after outs also turn_so.going.part.sound in
            let whole = phase_then 1 0 ((d || a) || t) e old before turned taken (holding turned.core last left) after three_so final in
            let same : (((d || a) || t) || e) ≡ ((d || a) || t) = or_same ((d || a) || t) e (λ said. or_turn (d || a) t (put_after_turn t e arrived turned taken after left makes empty_then outs said)) in
            let so = subst (λ (x : Bool). Phase 1 x old before (holding turned.core last left) after) same whole in
            ends_so ((d || a) || t) old before (holding turned.core last left) after so at_rest
            (first_put 1 old mid between (holding turned.core last left) after (going_then may sys q 1 0 mid between turned taken (holding turned.core last left) after turned_so final.going) refl empty)

        pub empty_after : (e : Bool) (last : Option Item) (left : List Item) (after : B) → PutsBy q turned.outgoing taken (Ok e) left after → last ≡ turned.kept
            → IsEmptyAfter (answer_of (Ok ((d || a) || t))) (holding turned.core last left)
        empty_after e last left after outs also =
            empty_so ((d || a) || t) (holding turned.core last left) (also ∙ kept_still may sys t arrived turned makes ∙ kept_none a mid between arrived taken lets)
            (none_left e turned.outgoing left taken after outs)
