-- The first parts of a step of the environment, over any queues: what is in hand is put out, a line is read, and what its output
-- sends is put out.
use Rattle.std.proofs.Common.{◌≡◌, ℕ, ◌+◌, ◌||◌, inl, inr, Bool, true, false, Result, Ok, Err, List, [], ◌++◌, Option, Some, IfOk, option_and_then, slice_get, All, length, refl, ap, sym, ◌∙◌, subst, append-nil, true≢false}
use Rattle.std.specs.Result.{IsErr}
use Rattle.std.proofs.lemmas.List.Elements.{All-weaker}
use Rattle.sdl_signal.specs.declared.values.Item.{Item}
use Rattle.sdl_signal.specs.Environment.{Reading}
use Rattle.sdl_structure_parts.specs.Structure.{Structure, lexicon_of}
use Rattle.sdl_routes.specs.declared.route.TableRow.{TableRow}
use Rattle.sdl_routes.specs.declared.route.Station.{Station}
use Rattle.sdl_forward.specs.Queues.{Relations}
use Rattle.sdl_block_hand.specs.declared.hand.Refused.{Refused}
use Rattle.sdl_block_hand.specs.Work.{first_station}
use Rattle.sdl_block_hand.specs.PutsBy.{CanPutOut, PutsFirsts, PutsOutBy}
use Rattle.sdl_block_hand.proofs.Fronts.{puts_both}
use Rattle.sdl_run_outcome.specs.declared.environment_output.EnvOut.{EnvOut}
use Rattle.sdl_run_outcome.specs.EnvironmentWork.{EnvWorking, IsEnvSound, ComesIn, AreCounted, env_origins, env_sent}
use Rattle.sdl_run_environment.specs.EnvPhases.{Reads}
use Rattle.sdl_run_environment.specs.EnvSends.{HasWaysIn, Sends, SendsNothing, SendsTo, SentOn}
use Rattle.sdl_block_hand.proofs.Through.{through, nil_left}
use Rattle.sdl_run_environment.proofs.EnvPieces.{holding, grown, sent-append, put_sound, Readings, no_readings, ReadPart, read_part}
use Rattle.sdl_run_environment.proofs.EnvNext.{line_next, read_around}

module _ {B : Type 0} (q : Relations B) (rows : List TableRow) where
  -- what comes from the environment can be put
  pub ways_of : (queues : B) → HasWaysIn q rows queues → (items : List Item) → All (ComesIn rows) items → CanPutOut q rows queues items
  ways_of queues ways items h =
      All-weaker (ComesIn rows) (λ i. (s : Station) → first_station rows i ≡ Some s → q.CanPut queues s)
      (λ i (row, gate, at, from). λ s first.
      ways i.route.0 row s gate at from (sym (ap (λ (o : Option TableRow). option_and_then (λ r. slice_get r.route.stations.items 0) o) at) ∙ first)) items h

  -- also once something was put
  pub ways_put : (put : Station → List Item) (before after : B) → q.Puts put before after → HasWaysIn q rows before → HasWaysIn q rows after
  ways_put put before after puts ways = λ r row s gate at from first. q.can_still s put [] before after s (q.puts_move s put before after puts) (ways r row s gate at from first)

module _ (s : Structure) (rows : List TableRow) (worker : ℕ) where
  pub around : (old w1 : EnvWorking) (outs : List EnvOut) (w2 new : EnvWorking) → w1.ended ≡ old.ended → w1.reading ≡ old.reading → w1.put ≡ old.put → new.ended ≡ w2.ended → new.reading ≡ w2.reading
      → Readings s rows worker w1 outs w2 → Readings s rows worker old outs new
  around old w1 outs w2 new ended reading put last_ended last_reading r =
      record {
        reads =
            elim r.reads [
              | inl (none, e, same) ↦ inl (none, last_ended ∙ e ∙ ended, last_reading ∙ same ∙ reading)
              | inr (inl (before, after, one, count)) ↦ inr (inl (sym ended ∙ before, last_ended ∙ after, one, ap (λ (x : Reading). x.carried) last_reading ∙ count ∙ ap (λ (x : Reading). x.carried + 1) reading))
              | inr (inr (before, after, none, count)) ↦ inr (inr (sym ended ∙ before, (λ e. after (sym last_ended ∙ e)), none, ap (λ (x : Reading). x.carried) last_reading ∙ count ∙ ap (λ (x : Reading). x.carried) reading))
            ];
        numbered = subst (λ (n : ℕ). AreCounted worker n (env_origins outs)) (ap length put) r.numbered;
        legal = r.legal;
        coming = r.coming;
      }

module _ {B : Type 0} (q : Relations B) (s : Structure) (rows : List TableRow) (worker : ℕ) where
  -- a part of a step in which nothing is taken, with its outputs and what it put
  pub record Sending (old : EnvWorking) (before : B) (outs : List EnvOut) (put : List Item) (new : EnvWorking) (after : B) : Type 0 where
    pub puts : PutsFirsts q rows before put after
    pub received : new.received ≡ old.received
    pub output : new.output ≡ old.output
    pub went : put ++ new.outgoing ≡ old.outgoing ++ env_sent outs
    pub outputs : new.put ≡ old.put ++ outs
    pub sound : IsEnvSound s rows worker new

  sending_then : (old : EnvWorking) (before : B) (outs1 : List EnvOut) (put1 : List Item) (mid : EnvWorking) (between : B) (outs2 : List EnvOut) (put2 : List Item) (new : EnvWorking) (after : B)
      → Sending old before outs1 put1 mid between → Sending mid between outs2 put2 new after → Sending old before (outs1 ++ outs2) (put1 ++ put2) new after
  sending_then old before outs1 put1 mid between outs2 put2 new after a b =
      record {
        puts = puts_both q rows before put1 between put2 after a.puts b.puts;
        received = b.received ∙ a.received;
        output = b.output ∙ a.output;
        went =
            sym (through old.outgoing (env_sent outs1) put1 mid.outgoing (env_sent outs2) put2 new.outgoing (sym a.went) (sym b.went))
            ∙ ap (λ l. old.outgoing ++ l) (sym (sent-append outs1 outs2));
        outputs = grown old.put outs1 mid.put outs2 new.put a.outputs b.outputs;
        sound = b.sound;
      }

  -- with what is said of its outputs it is what the first parts of a step do
  abbrev pub sends_of : (old : EnvWorking) (before : B) (outs : List EnvOut) (put : List Item) (new : EnvWorking) (after : B)
      → Sending old before outs put new after → Readings s rows worker old outs new → Sends q s rows worker old before new after
  sends_of old before outs put new after a r =
      record {
        outs = outs;
        put = put;
        puts = a.puts;
        received = a.received;
        output = a.output;
        went = a.went;
        outputs = a.outputs;
        numbered = r.numbered;
        reads = r.reads;
        legal = r.legal;
        coming = r.coming;
        sound = a.sound;
      }

  -- What is put, by the answer.
  pub record PutPart (result : Result Bool Refused) (old : EnvWorking) (before : B) (new : EnvWorking) (after : B) : Type 0 where
    pub put : List Item
    pub sending : Sending old before [] put new after
    pub same : new ≡ holding old new.outgoing
    pub did : result ≡ Ok true → put ≡ [] → ⊥
    pub idle : result ≡ Ok false → (new ≡ old) × (after ≡ before) × (old.outgoing ≡ [])
    pub empty : (b : Bool) → result ≡ Ok b → new.outgoing ≡ []

  put_so : (old : EnvWorking) (before : B) (put : List Item) (new : EnvWorking) (after : B)
      → put ++ new.outgoing ≡ old.outgoing → PutsFirsts q rows before put after → new ≡ holding old new.outgoing → IsEnvSound s rows worker old → Sending old before [] put new after
  put_so old before put new after whole puts same sound =
      record {
        puts = puts;
        received = ap (λ (w : EnvWorking). w.received) same;
        output = ap (λ (w : EnvWorking). w.output) same;
        went = whole ∙ sym (append-nil old.outgoing);
        outputs = ap (λ (w : EnvWorking). w.put) same ∙ sym (append-nil old.put);
        sound = subst (IsEnvSound s rows worker) (sym same) (put_sound s rows worker old put new.outgoing whole sound);
      }

  pub put_part : (result : Result Bool Refused) (old : EnvWorking) (before : B) (new : EnvWorking) (after : B)
      → PutsOutBy q rows old.outgoing before result new.outgoing after → new ≡ holding old new.outgoing → IsEnvSound s rows worker old → PutPart result old before new after
  put_part (Ok true) old before new after (puts, some, none) same sound =
      record {
        put = old.outgoing;
        sending = put_so old before old.outgoing new after (ap (λ l. old.outgoing ++ l) none ∙ append-nil old.outgoing) puts same sound;
        same = same;
        did = λ said. some;
        idle = λ said. cc;
        empty = λ b said. none;
      }
  put_part (Ok false) old before new after (was, none, still) same sound =
      record {
        put = [];
        sending = put_so old before [] new after (none ∙ sym was) (subst (λ (b : B). PutsFirsts q rows before [] b) (sym still) (q.puts_none before)) same sound;
        same = same;
        did = λ said. cc;
        idle = λ said. (same ∙ ap (λ o. holding old o) (none ∙ sym was), still, was);
        empty = λ b said. none;
      }
  put_part (Err r) old before new after (put, whole, puts) same sound =
      record {
        put = put;
        sending = put_so old before put new after whole puts same sound;
        same = same;
        did = λ said. cc;
        idle = λ said. cc;
        empty = λ b said. cc;
      }

  -- a refused put
  pub sends_at_put : (r : Refused) (old : EnvWorking) (b0 : B) (w1 : EnvWorking) (b1 : B) → PutPart (Err r) old b0 w1 b1 → Sends q s rows worker old b0 w1 b1
  sends_at_put r old b0 w1 b1 p1 =
      sends_of old b0 [] p1.put w1 b1 p1.sending
      (no_readings s rows worker old w1 (inl (refl, ap (λ (w : EnvWorking). w.ended) p1.same, ap (λ (w : EnvWorking). w.reading) p1.same)))

  -- a put and a reading
  module _ (old : EnvWorking) (b0 : B) (r1 : Result Bool Refused) (w1 : EnvWorking) (b1 : B) (p1 : PutPart r1 old b0 w1 b1) (none : w1.outgoing ≡ [])
      (r2 : Result Bool Refused) (w2 : EnvWorking) (reads : Reads (lexicon_of s) rows w1 r2 w2) where
    pub p2 : ReadPart s rows worker r2 w1 w2
    p2 = read_part s rows worker r2 w1 w2 reads none p1.sending.sound

    reading : Sending w1 b1 p2.outs [] w2 b1
    reading = record { puts = q.puts_none b1; received = p2.received; output = p2.output; went = p2.went; outputs = p2.outputs; sound = p2.sound }

    two : Sending old b0 p2.outs (p1.put ++ []) w2 b1
    two = sending_then old b0 [] p1.put w1 b1 p2.outs [] w2 b1 p1.sending reading

    pub readings_to : (new : EnvWorking) → new.ended ≡ w2.ended → new.reading ≡ w2.reading → Readings s rows worker old p2.outs new
    readings_to new ended kept =
        around s rows worker old w1 p2.outs w2 new (ap (λ (w : EnvWorking). w.ended) p1.same) (ap (λ (w : EnvWorking). w.reading) p1.same) (ap (λ (w : EnvWorking). w.put) p1.same) ended kept p2.readings

    pub sends_at_read : Sends q s rows worker old b0 w2 b1
    sends_at_read = sends_of old b0 p2.outs (p1.put ++ []) w2 b1 two (readings_to w2 refl refl)

    pub read_sound : IsEnvSound s rows worker w2
    read_sound = p2.sound

    -- and a put
    module _ (r3 : Result Bool Refused) (w3 : EnvWorking) (b2 : B) (p3 : PutPart r3 w2 b1 w3 b2) where
      outs_are : p2.outs ++ [] ≡ p2.outs
      outs_are = append-nil p2.outs

      pub three : Sending old b0 p2.outs ((p1.put ++ []) ++ p3.put) w3 b2
      three = subst (λ (o : List EnvOut). Sending old b0 o ((p1.put ++ []) ++ p3.put) w3 b2) outs_are (sending_then old b0 p2.outs (p1.put ++ []) w2 b1 [] p3.put w3 b2 two p3.sending)

      abbrev pub sends_at_last : Sends q s rows worker old b0 w3 b2
      sends_at_last =
          sends_of old b0 p2.outs ((p1.put ++ []) ++ p3.put) w3 b2 three (readings_to w3 (ap (λ (w : EnvWorking). w.ended) p3.same) (ap (λ (w : EnvWorking). w.reading) p3.same))

      -- where the first put and the reading did nothing, so did the second put
      still : (z : Bool) → r3 ≡ Ok z → w2.outgoing ≡ [] → (w3 ≡ w2) × (b2 ≡ b1)
      still true e none = absurd (p3.did e (nil_left p3.put w3.outgoing (p3.sending.went ∙ ap (λ (l : List Item). l ++ []) none)))
      still false e none = let i = p3.idle e in (i.0, i.1)

      pub sends_whole : (p r z : Bool) → r1 ≡ Ok p → r2 ≡ Ok r → r3 ≡ Ok z → SendsTo q s rows worker old b0 (Ok (p || r)) w3 b2
      sends_whole true r z e1 e2 e3 = (sends_at_last, λ (same, outs, put). p1.did e1 (nil_left p1.put [] (nil_left (p1.put ++ []) p3.put put)))
      sends_whole false true z e1 e2 e3 = (
        sends_at_last,
        λ (same, outs, put). p2.did e2 (sym (ap (λ (w : EnvWorking). w.ended) p3.same) ∙ same ∙ sym (ap (λ (w : EnvWorking). w.ended) p1.same), outs),
      )
      sends_whole false false z e1 e2 e3 =
          let (same1, ends1, none1) = p1.idle e1 in
          let (same2, unread) = p2.idle e2 in
          let (same3, ends3) = still z e3 (ap (λ (w : EnvWorking). w.outgoing) (same2 ∙ same1) ∙ none1) in
          record { same = same3 ∙ same2 ∙ same1; ended = λ e. unread (ap (λ (w : EnvWorking). w.ended) p1.same ∙ e); outgoing = none1; queues = ends3 ∙ ends1 }

      pub sent_on : (r z : Bool) → r2 ≡ Ok r → r3 ≡ Ok z → SentOn old w3
      sent_on r z e2 e3 =
          record {
            hand = p3.empty z e3;
            read = read_around old w1 w2 w3 (ap (λ (w : EnvWorking). w.ended) p1.same) (ap (λ (w : EnvWorking). w.put) p1.same)
                (ap (λ (w : EnvWorking). w.ended) p3.same) (ap (λ (w : EnvWorking). w.put) p3.same)
                (line_next (lexicon_of s) rows r w1 w2 (subst (λ (x : Result Bool Refused). Reads (lexicon_of s) rows w1 x w2) e2 reads));
          }

  sends_nothing : (old : EnvWorking) (before : B) (new : EnvWorking) (after : B) → SendsNothing old before new after → IsEnvSound s rows worker old → Sends q s rows worker old before new after
  sends_nothing old before new after h sound =
      sends_of old before [] [] new after
      (record {
        puts = subst (λ (b : B). PutsFirsts q rows before [] b) (sym h.queues) (q.puts_none before);
        received = ap (λ (w : EnvWorking). w.received) h.same;
        output = ap (λ (w : EnvWorking). w.output) h.same;
        went = ap (λ (w : EnvWorking). w.outgoing) h.same ∙ sym (append-nil old.outgoing);
        outputs = ap (λ (w : EnvWorking). w.put) h.same ∙ sym (append-nil old.put);
        sound = subst (IsEnvSound s rows worker) (sym h.same) sound;
      })
      (no_readings s rows worker old new (inl (refl, ap (λ (w : EnvWorking). w.ended) h.same, ap (λ (w : EnvWorking). w.reading) h.same)))

  pub sends_any : (result : Result Bool Refused) (old : EnvWorking) (before : B) (new : EnvWorking) (after : B) → SendsTo q s rows worker old before result new after → IsEnvSound s rows worker old → Sends q s rows worker old before new after
  sends_any (Ok true) old before new after h sound = h.0
  sends_any (Ok false) old before new after h sound = sends_nothing old before new after h sound
  sends_any (Err r) old before new after h sound = h

  -- what holds of each refusal holds of an answer that is one
  pub sends_refused : (result : Result Bool Refused) → IsErr result → (old : EnvWorking) (before : B) (new : EnvWorking) (after : B)
      → Sends q s rows worker old before new after → SendsTo q s rows worker old before result new after
  sends_refused (Err r) h old before new after w = w
  sends_refused (Ok did) h old before new after w = absurd (true≢false (sym h))

-- what is said of an answer that is no refusal
pub refused_none : (P : Type 0) (result : Result Bool Refused) → IsErr result → IfOk result (λ did. P)
refused_none P (Err r) h = tt
refused_none P (Ok did) h = absurd (true≢false (sym h))
