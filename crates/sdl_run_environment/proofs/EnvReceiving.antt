-- The last part of a step of the environment through its own ends, and the whole step.
use Rattle.std.proofs.Common.{◌≡◌, ℕ, ◌≤◌, ◌||◌, inl, inr, Bool, true, false, Result, Ok, Err, List, [], ◌∷◌, ◌++◌, Option, None, Some, Vec, IfOk, length, All, refl, ap, sym, ◌∙◌, subst, append-nil, true≢false, arith}
use Rattle.std.specs.Option.{option_to_list}
use Rattle.std.specs.Result.{IsErr}
use Rattle.std.proofs.lemmas.Option.{none-some}
use Rattle.std.proofs.lemmas.List.Elements.{All-nil, All-cons}
use Rattle.sdl_signal.specs.declared.values.Item.{Item}
use Rattle.sdl_structure_parts.specs.Structure.{Structure, lexicon_of}
use Rattle.sdl_routes.specs.declared.route.TableRow.{TableRow}
use Rattle.sdl_routes.specs.declared.route.Station.{Station}
use Rattle.sdl_forward_ends.specs.Ends.{WorkerEnds, IsSameEnds, put_at, taken_by}
use Rattle.sdl_forward.specs.ByEnds.{by_ends, taken_same}
use Rattle.sdl_block_hand.specs.declared.hand.Refused.{Refused}
use Rattle.sdl_run_outcome.specs.EnvironmentWork.{EnvWorking, IsEnvSound, IsLegalItem, GoesOut, ReadsOn}
use Rattle.sdl_run_environment.specs.EnvPhases.{HasReadBy}
use Rattle.sdl_run_environment.specs.EnvApart.{EnvWorksApart, FoundRoom, TakesNextApart}
use Rattle.sdl_run_environment.specs.EnvSends.{Sends, SendsTo, SentOn}
use Rattle.sdl_run_environment.specs.EnvPhasesApart.{ReceivesApart, EnvStepsToApart}
use Rattle.sdl_run_environment.proofs.EnvPieces.{no_readings, noted, same_noted}
use Rattle.sdl_run_environment.proofs.EnvReading.{read_same}
use Rattle.sdl_run_environment.proofs.EnvSending.{sends_of, sends_any}

put_same : (a b : WorkerEnds) → b.feeds ≡ a.feeds → (s : Station) → put_at b s ≡ put_at a s
put_same a b same s = ap (λ fs. put_at (record { tap = None; feeds = fs }) s) same

module _ (s : Structure) (rows : List TableRow) (worker : ℕ) where
  abbrev Leaves : Item → Type 0
  Leaves i = IsLegalItem s rows worker i × GoesOut rows i

  -- what is taken, and what of it is received, with nothing astray before
  record Receiving (result : Result Bool Refused) (old : EnvWorking) (before : WorkerEnds) (new : EnvWorking) (is : Option Item) (after : WorkerEnds) : Type 0 where
    taken : List Item
    more : List Item
    one : length taken ≤ 1
    takes : taken_by after ≡ taken_by before ++ taken
    puts : (t : Station) → put_at after t ≡ put_at before t
    came : taken ≡ more ++ option_to_list is
    received : new.received ≡ old.received ++ more
    leaves : All Leaves more
    lost : (i : Item) → is ≡ Some i → IsLegalItem s rows worker i → GoesOut rows i → ⊥
    same : new ≡ record old { received = new.received; output = new.output }
    did : result ≡ Ok true → taken ≡ [] → ⊥

  none_lost : (is : Option Item) → is ≡ None → (i : Item) → is ≡ Some i → IsLegalItem s rows worker i → GoesOut rows i → ⊥
  none_lost is none i some legal out = absurd (none-some i (sym none ∙ some))

  one_lost : (is : Option Item) (i : Item) → is ≡ Some i → (Leaves i → ⊥) → (j : Item) → is ≡ Some j → IsLegalItem s rows worker j → GoesOut rows j → ⊥
  one_lost is i this not j some legal out =
      let same : j ≡ i = cc in
      not (subst Leaves same (legal, out))

  nothing_received : (result : Result Bool Refused) → (result ≡ Ok true → ⊥) → (old : EnvWorking) (before : WorkerEnds) (new : EnvWorking) (is : Option Item) (after : WorkerEnds)
      → new ≡ old → is ≡ None → taken_by after ≡ taken_by before → ((t : Station) → put_at after t ≡ put_at before t) → Receiving result old before new is after
  nothing_received result not old before new is after same none takes puts =
      record {
        taken = [];
        more = [];
        one = omega arith;
        takes = takes ∙ sym (append-nil (taken_by before));
        puts = puts;
        came = ap option_to_list (sym none);
        received = ap (λ (w : EnvWorking). w.received) same ∙ sym (append-nil old.received);
        leaves = All-nil Leaves;
        lost = none_lost is none;
        same = same_noted old new same;
        did = λ said. absurd (not said);
      }

  receiving : (result : Result Bool Refused) (old : EnvWorking) (before : WorkerEnds) (new : EnvWorking) (is : Option Item) (after : WorkerEnds)
      → ReceivesApart s rows worker old before result new is after → Receiving result old before new is after
  receiving (Ok true) old before new is after (i, takes, may, same, none) =
      let received : new.received ≡ old.received ++ i ∷ [] = ap (λ (w : EnvWorking). w.received) same in
      record {
        taken = i ∷ [];
        more = i ∷ [];
        one = omega arith;
        takes = takes.taken;
        puts = put_same before after takes.feeds;
        came = ap (λ (o : Option Item). i ∷ [] ++ option_to_list o) (sym none);
        received = received;
        leaves = All-cons Leaves i [] may (All-nil Leaves);
        lost = none_lost is none;
        same = same ∙ ap (λ (l : List Item). record old { received = l; output = new.output }) (sym received);
        did = λ said none. cc;
      }
  receiving (Ok false) old before new is after (same, takes, none) = nothing_received (Ok false) (λ said. cc) old before new is after same none takes.taken (put_same before after takes.feeds)
  receiving (Err r) old before new is after (same, inl (ends, none)) =
      nothing_received (Err r) (λ said. cc) old before new is after same none (ap taken_by ends) (λ t. ap (λ (e : WorkerEnds). put_at e t) ends)
  receiving (Err r) old before new is after (same, inr (i, takes, this, not)) =
      record {
        taken = i ∷ [];
        more = [];
        one = omega arith;
        takes = takes.taken;
        puts = put_same before after takes.feeds;
        came = ap option_to_list (sym this);
        received = ap (λ (w : EnvWorking). w.received) same ∙ sym (append-nil old.received);
        leaves = All-nil Leaves;
        lost = one_lost is i this not;
        same = same_noted old new same;
        did = λ said. cc;
      }

  -- what was sent and then what was received are a step
  abbrev works_of : (result : Result Bool Refused) (old : EnvWorking) (before : WorkerEnds) (mid : EnvWorking) (between : WorkerEnds) (new : EnvWorking) (is : Option Item) (after : WorkerEnds)
      → Sends by_ends s rows worker old before mid between → Receiving result mid between new is after → EnvWorksApart s rows worker old None before new is after
  works_of result old before mid between new is after a r =
      record {
        outs = a.outs;
        put = a.put;
        taken = r.taken;
        more = r.more;
        one = r.one;
        takes = r.takes ∙ ap (λ l. l ++ r.taken) (taken_same before between a.puts.tap);
        puts = λ t. r.puts t ∙ a.puts.each t;
        came = r.came;
        received = r.received ∙ ap (λ l. l ++ r.more) a.received;
        leaves = r.leaves;
        lost = r.lost;
        went = ap (λ (w : EnvWorking). a.put ++ w.outgoing) r.same ∙ a.went;
        outputs = ap (λ (w : EnvWorking). w.put) r.same ∙ a.outputs;
        numbered = a.numbered;
        reads = subst (ReadsOn s rows worker old a.outs) (sym r.same) a.reads;
        legal = a.legal;
        coming = a.coming;
        sound = noted s rows worker mid new.received new r.same a.sound;
      }

  -- a step that only receives
  sends_still : (w : EnvWorking) (ends : WorkerEnds) → IsEnvSound s rows worker w → Sends by_ends s rows worker w ends w ends
  sends_still w ends sound =
      sends_of by_ends s rows worker w ends [] [] w ends
      (record { puts = by_ends.puts_none ends; received = refl; output = refl; went = sym (append-nil w.outgoing); outputs = sym (append-nil w.put); sound = sound })
      (no_readings s rows worker w w (inl (refl, refl, refl)))

  pub works_receiving : (result : Result Bool Refused) (old : EnvWorking) (before : WorkerEnds) (new : EnvWorking) (is : Option Item) (after : WorkerEnds)
      → ReceivesApart s rows worker old before result new is after → IsEnvSound s rows worker old → EnvWorksApart s rows worker old None before new is after
  works_receiving result old before new is after receives sound =
      works_of result old before old before new is after (sends_still old before sound) (receiving result old before new is after receives)

  -- what holds of each refusal holds of an answer that is one
  steps_refused : (result : Result Bool Refused) → IsErr result → (old : EnvWorking) (before : WorkerEnds) (new : EnvWorking) (is : Option Item) (after : WorkerEnds)
      → EnvWorksApart s rows worker old None before new is after → EnvStepsToApart s rows worker old None before result new is after
  steps_refused (Err r) h old before new is after w = w
  steps_refused (Ok did) h old before new is after w = absurd (true≢false (sym h))

  module _ (old : EnvWorking) (b0 : WorkerEnds) (mid : EnvWorking) (b1 : WorkerEnds) where
    -- a refusal as the hand is put out or a line is read
    pub steps_at_sending : (result : Result Bool Refused) → IsErr result → (is : Option Item) → is ≡ None → (r : Refused) → SendsTo by_ends s rows worker old b0 (Err r) mid b1
        → EnvStepsToApart s rows worker old None b0 result mid is b1
    steps_at_sending result err is none r sends =
        steps_refused result err old b0 mid is b1 (works_of (Err r) old b0 mid b1 mid is b1 sends (nothing_received (Err r) (λ said. cc) mid b1 mid is b1 refl none refl (λ t. refl)))

    module _ (d : Bool) (sends : SendsTo by_ends s rows worker old b0 (Ok d) mid b1) (sound : IsEnvSound s rows worker old) (new : EnvWorking) (is : Option Item) (b2 : WorkerEnds) where
      -- a refusal as an item is received
      pub steps_at_receiving : (result : Result Bool Refused) → IsErr result → (r : Refused) → ReceivesApart s rows worker mid b1 (Err r) new is b2 → EnvStepsToApart s rows worker old None b0 result new is b2
      steps_at_receiving result err r receives =
          steps_refused result err old b0 new is b2 (works_of (Err r) old b0 mid b1 new is b2 (sends_any by_ends s rows worker (Ok d) old b0 mid b1 sends sound) (receiving (Err r) mid b1 new is b2 receives))

      pub steps_apart : (t : Bool) → ReceivesApart s rows worker mid b1 (Ok t) new is b2 → EnvStepsToApart s rows worker old None b0 (Ok (d || t)) new is b2
      steps_apart t receives = by d t sends receives
        where
          by : (c e : Bool) → SendsTo by_ends s rows worker old b0 (Ok c) mid b1 → ReceivesApart s rows worker mid b1 (Ok e) new is b2 → EnvStepsToApart s rows worker old None b0 (Ok (c || e)) new is b2
          by true e a r =
              let got = receiving (Ok e) mid b1 new is b2 r in
              (works_of (Ok e) old b0 mid b1 new is b2 a.0 got, λ (same, outs, put, taken). a.1 (sym (ap (λ (w : EnvWorking). w.ended) got.same) ∙ same, outs, put))
          by false true a r =
              let got = receiving (Ok true) mid b1 new is b2 r in
              (works_of (Ok true) old b0 mid b1 new is b2 (sends_any by_ends s rows worker (Ok false) old b0 mid b1 a sound) got, λ (same, outs, put, taken). got.did refl taken)
          by false false a (same, takes, none) = (
            same ∙ a.same,
            none,
            record {
              ended = a.ended;
              outgoing = a.outgoing;
              none = refl;
              taken = takes.taken ∙ ap taken_by a.queues;
              puts = λ t. put_same b1 b2 takes.feeds t ∙ ap (λ (e : WorkerEnds). put_at e t) a.queues;
            },
          )

-- what is said of an answer that is no refusal
receives_keep : (s : Structure) (rows : List TableRow) (worker : ℕ) (t : Bool) (old : EnvWorking) (before : WorkerEnds) (new : EnvWorking) (is : Option Item) (after : WorkerEnds)
    → ReceivesApart s rows worker old before (Ok t) new is after → (new ≡ record old { received = new.received; output = new.output }) × (is ≡ None)
receives_keep s rows worker true old before new is after (i, takes, may, same, none) = ((receiving s rows worker (Ok true) old before new is after (i, takes, may, same, none)).same, none)
receives_keep s rows worker false old before new is after (same, takes, none) = (same_noted old new same, none)

pub steps_on : (s : Structure) (rows : List TableRow) (worker : ℕ) (t : Bool) (old mid : EnvWorking) (between : WorkerEnds) (new : EnvWorking) (is : Option Item) (after : WorkerEnds)
    → SentOn old mid → ReceivesApart s rows worker mid between (Ok t) new is after → SentOn old new × (is ≡ None)
steps_on s rows worker t old mid between new is after on receives =
    let (same, none) = receives_keep s rows worker t mid between new is after receives in
    (subst (SentOn old) (sym same) (record { hand = on.hand; read = on.read }), none)

module _ {A : Type 0} (s : Structure) (rows : List TableRow) (worker : ℕ) (found : Vec Item A) where
  -- what was taken is received, where nothing was refused
  takes_alone : (t : Bool) (old : EnvWorking) (before : WorkerEnds) (new : EnvWorking) (is : Option Item) (after : WorkerEnds)
      → ReceivesApart s rows worker old before (Ok t) new is after → FoundRoom old.received found → TakesNextApart old before found new after
  takes_alone true old before new is after (i, takes, may, same, none) room =
      record { room = room; taken = i ∷ []; takes = takes.taken; received = ap (λ (w : EnvWorking). w.received) same }
  takes_alone false old before new is after (same, takes, none) room =
      record {
        room = room;
        taken = [];
        takes = takes.taken ∙ sym (append-nil (taken_by before));
        received = ap (λ (w : EnvWorking). w.received) same ∙ sym (append-nil old.received);
      }

  pub takes_where_ok : (result : Result Bool Refused) (old : EnvWorking) (before : WorkerEnds) (new : EnvWorking) (is : Option Item) (after : WorkerEnds)
      → ReceivesApart s rows worker old before result new is after → IfOk result (λ did. FoundRoom old.received found) → IfOk result (λ did. TakesNextApart old before found new after)
  takes_where_ok (Ok t) old before new is after receives room = takes_alone t old before new is after receives room
  takes_where_ok (Err r) old before new is after receives room = tt

  -- a sending before it takes and receives nothing
  pub takes_after_sending : (d t : Bool) (old : EnvWorking) (b0 : WorkerEnds) (mid : EnvWorking) (b1 : WorkerEnds) (new : EnvWorking) (is : Option Item) (b2 : WorkerEnds)
      → SendsTo by_ends s rows worker old b0 (Ok d) mid b1 → IsEnvSound s rows worker old → ReceivesApart s rows worker mid b1 (Ok t) new is b2 → FoundRoom mid.received found → TakesNextApart old b0 found new b2
  takes_after_sending d t old b0 mid b1 new is b2 sends sound receives room =
      let a = sends_any by_ends s rows worker (Ok d) old b0 mid b1 sends sound in
      let took = takes_alone t mid b1 new is b2 receives room in
      record {
        room = subst (λ (l : List Item). FoundRoom l found) a.received took.room;
        taken = took.taken;
        takes = took.takes ∙ ap (λ l. l ++ took.taken) (taken_same b0 b1 a.puts.tap);
        received = took.received ∙ ap (λ l. l ++ took.taken) a.received;
      }

-- a receiving leaves what is in hand
pub hand_after_receiving : (s : Structure) (rows : List TableRow) (worker : ℕ) (result : Result Bool Refused) (old : EnvWorking) (before : WorkerEnds) (new : EnvWorking) (is : Option Item) (after : WorkerEnds)
    → ReceivesApart s rows worker old before result new is after → new.outgoing ≡ old.outgoing
hand_after_receiving s rows worker result old before new is after receives = ap (λ (w : EnvWorking). w.outgoing) (receiving s rows worker result old before new is after receives).same

-- what was read so far is not changed by a receiving
pub read_after_receiving : (s : Structure) (rows : List TableRow) (worker own : ℕ) (start now : Option (List ℕ)) (result : Result Bool Refused) (old : EnvWorking) (before : WorkerEnds) (new : EnvWorking) (is : Option Item) (after : WorkerEnds)
    → ReceivesApart s rows worker old before result new is after → HasReadBy (lexicon_of s) rows own start now old → HasReadBy (lexicon_of s) rows own start now new
read_after_receiving s rows worker own start now result old before new is after receives =
    let same = (receiving s rows worker result old before new is after receives).same in
    read_same (lexicon_of s) rows own start now old new (ap (λ (w : EnvWorking). w.ended) same) (ap (λ (w : EnvWorking). w.put) same) (ap (λ (w : EnvWorking). w.reading) same)

-- the ends stay the same
pub same_after_sending : (s : Structure) (rows : List TableRow) (worker : ℕ) (result : Result Bool Refused) (old : EnvWorking) (before : WorkerEnds) (new : EnvWorking) (after : WorkerEnds)
    → SendsTo by_ends s rows worker old before result new after → IsEnvSound s rows worker old → IsSameEnds before after
same_after_sending s rows worker result old before new after sends sound = (sends_any by_ends s rows worker result old before new after sends sound).puts.same
