-- What the parts of a step of the environment do to it.
use Rattle.std.proofs.Common.{◌≡◌, ◌≢◌, ℕ, ◌+◌, ◌≤◌, inl, inr, Bool, true, false, Result, Ok, Err, List, [], ◌∷◌, ◌++◌, None, Some, length, All, refl, ap, sym, ◌∙◌, subst, append_assoc, append-nil, length-append, arith}
use Rattle.std.proofs.lemmas.List.Concat.{flat_map-append}
use Rattle.std.proofs.lemmas.List.Elements.{All-append, All-nil}
use Rattle.sdl_signal.specs.declared.values.Item.{Item}
use Rattle.sdl_structure_parts.specs.Structure.{Structure, lexicon_of}
use Rattle.sdl_routes.specs.declared.route.TableRow.{TableRow}
use Rattle.sdl_block_hand.specs.declared.hand.Refused.{Refused}
use Rattle.sdl_block_hand.proofs.Through.{all_behind}
use Rattle.sdl_run_outcome.specs.declared.environment_output.EnvOut.{EnvOut}
use Rattle.sdl_run_outcome.specs.declared.environment_output.EnvOut.TheVariants as env_out
use Rattle.sdl_run_outcome.specs.EnvironmentWork.{EnvWorking, IsEnvSound, IsLegalItem, ComesIn, ReadsOn, AreCounted, IsOutputOf, origin_of, env_origins, env_sent, sent_of}
use Rattle.sdl_run_environment.specs.EnvPhases.{Reads, ReadsLine, ReadsEnd}
use Rattle.sdl_run_environment.proofs.EnvLegal.{legal_output}

-- the same, as one that was only received by
pub same_noted : (old new : EnvWorking) → new ≡ old → new ≡ record old { received = new.received; output = new.output }
same_noted old new same = subst (λ (w : EnvWorking). w ≡ record old { received = w.received; output = w.output }) (sym same) refl

-- the environment with another hand
abbrev pub holding : EnvWorking → List Item → EnvWorking
holding w items = record w { outgoing = items }

pub grown : {X : Type 0} (old one mid two new : List X) → mid ≡ old ++ one → new ≡ mid ++ two → new ≡ old ++ (one ++ two)
grown old one mid two new a b = b ∙ ap (λ l. l ++ two) a ∙ append_assoc old one two

pub sent-append : (xs ys : List EnvOut) → env_sent (xs ++ ys) ≡ env_sent xs ++ env_sent ys
sent-append xs ys = flat_map-append sent_of xs ys

few_sent : (out : EnvOut) → length (sent_of out) ≤ 1
few_sent (env_out.Sent i) = omega arith
few_sent (env_out.NoRoute o l) = omega arith

-- the origin of an output that is one of a line
origin_is : (rows : List TableRow) (worker n : ℕ) (line : _) (out : EnvOut) → IsOutputOf rows worker n line out → ((origin_of out).worker ≡ worker) × ((origin_of out).number ≡ n)
origin_is rows worker n line (env_out.Sent i) (is, fits) = (ap (λ (x : Item). x.origin.worker) is, ap (λ (x : Item). x.origin.number) is)
origin_is rows worker n line (env_out.NoRoute o l) (is, same, none) = (ap (λ o. o.worker) is, ap (λ o. o.number) is)

module _ (s : Structure) (rows : List TableRow) (worker : ℕ) where
  -- once some of it is put, the rest is in hand
  pub put_sound : (old : EnvWorking) (put rest : List Item) → put ++ rest ≡ old.outgoing → IsEnvSound s rows worker old → IsEnvSound s rows worker (holding old rest)
  put_sound old put rest same sound =
      record {
        number = sound.number;
        legal = all_behind (IsLegalItem s rows worker) put rest (subst (All (IsLegalItem s rows worker)) (sym same) sound.legal);
        coming = all_behind (ComesIn rows) put rest (subst (All (ComesIn rows)) (sym same) sound.coming);
        few = sound.few;
        one = let l : length (put ++ rest) ≡ length put + length rest = length-append put rest in let e = ap length same in omega (arith, l, e, sound.one);
        counted = sound.counted;
      }

  -- what the outputs of a part of a step are
  pub record Readings (old : EnvWorking) (outs : List EnvOut) (new : EnvWorking) : Type 0 where
    pub reads : ReadsOn s rows worker old outs new
    pub numbered : AreCounted worker (length old.put) (env_origins outs)
    pub legal : All (IsLegalItem s rows worker) (env_sent outs)
    pub coming : All (ComesIn rows) (env_sent outs)

  pub no_readings : (old new : EnvWorking) → ReadsOn s rows worker old [] new → Readings old [] new
  no_readings old new reads = record { reads = reads; numbered = tt; legal = All-nil (IsLegalItem s rows worker); coming = All-nil (ComesIn rows) }

  -- What is read, by the answer. Nothing is received or written.
  pub record ReadPart (result : Result Bool Refused) (old new : EnvWorking) : Type 0 where
    pub outs : List EnvOut
    pub received : new.received ≡ old.received
    pub output : new.output ≡ old.output
    pub went : new.outgoing ≡ old.outgoing ++ env_sent outs
    pub outputs : new.put ≡ old.put ++ outs
    pub sound : IsEnvSound s rows worker new
    pub readings : Readings old outs new
    pub did : result ≡ Ok true → (new.ended ≡ old.ended) × (outs ≡ []) → ⊥
    pub idle : result ≡ Ok false → (new ≡ old) × (old.ended ≢ None)

  line_sound : (old new : EnvWorking) (r : ReadsLine (lexicon_of s) rows old new) → old.outgoing ≡ [] → IsEnvSound s rows worker old
      → All (IsLegalItem s rows worker) (sent_of r.out) → All (ComesIn rows) (sent_of r.out) → IsEnvSound s rows worker new
  line_sound old new r none sound legal coming =
      let hand : new.outgoing ≡ old.outgoing ++ sent_of r.out = ap (λ (w : EnvWorking). w.outgoing) r.same in
      let put : new.put ≡ old.put ++ r.out ∷ [] = ap (λ (w : EnvWorking). w.put) r.same in
      record {
        number = ap (λ (w : EnvWorking). w.number) r.same ∙ sound.number;
        legal = subst (All (IsLegalItem s rows worker)) (sym hand) (All-append (IsLegalItem s rows worker) old.outgoing (sent_of r.out) sound.legal legal);
        coming = subst (All (ComesIn rows)) (sym hand) (All-append (ComesIn rows) old.outgoing (sent_of r.out) sound.coming coming);
        few = r.few;
        one =
            let h : length new.outgoing ≡ length (old.outgoing ++ sent_of r.out) = ap length hand in
            let l : length (old.outgoing ++ sent_of r.out) ≡ length old.outgoing + length (sent_of r.out) = length-append old.outgoing (sent_of r.out) in
            let z : length old.outgoing ≡ 0 = ap length none in
            omega (arith, h, l, z, few_sent r.out);
        counted =
            let h : length new.put ≡ length (old.put ++ r.out ∷ []) = ap length put in
            let l : length (old.put ++ r.out ∷ []) ≡ length old.put + 1 = length-append old.put (r.out ∷ []) in
            omega (arith, h, l, r.count, sound.counted);
      }

  end_sound : (old new : EnvWorking) → ReadsEnd old new → IsEnvSound s rows worker old → IsEnvSound s rows worker new
  end_sound old new r sound =
      let hand : new.outgoing ≡ old.outgoing = ap (λ (w : EnvWorking). w.outgoing) r.same in
      let put : new.put ≡ old.put = ap (λ (w : EnvWorking). w.put) r.same in
      record {
        number = ap (λ (w : EnvWorking). w.number) r.same ∙ sound.number;
        legal = subst (All (IsLegalItem s rows worker)) (sym hand) sound.legal;
        coming = subst (All (ComesIn rows)) (sym hand) sound.coming;
        few = omega (arith, r.count, sound.few);
        one = let h = ap length hand in omega (arith, h, sound.one);
        counted = let h = ap length put in omega (arith, h, r.count, sound.counted);
      }

  -- nothing is read
  none_read : (result : Result Bool Refused) → (result ≡ Ok true → ⊥) → (old new : EnvWorking) → new ≡ old → (result ≡ Ok false → old.ended ≢ None) → IsEnvSound s rows worker old → ReadPart result old new
  none_read result not old new same ended sound =
      record {
        outs = [];
        received = ap (λ (w : EnvWorking). w.received) same;
        output = ap (λ (w : EnvWorking). w.output) same;
        went = ap (λ (w : EnvWorking). w.outgoing) same ∙ sym (append-nil old.outgoing);
        outputs = ap (λ (w : EnvWorking). w.put) same ∙ sym (append-nil old.put);
        sound = subst (IsEnvSound s rows worker) (sym same) sound;
        readings = no_readings old new (inl (refl, ap (λ (w : EnvWorking). w.ended) same, ap (λ (w : EnvWorking). w.reading) same));
        did = λ said. absurd (not said);
        idle = λ said. (same, ended said);
      }

  pub read_part : (result : Result Bool Refused) (old new : EnvWorking) → Reads (lexicon_of s) rows old result new → old.outgoing ≡ [] → IsEnvSound s rows worker old → ReadPart result old new
  read_part (Ok true) old new (unended, inl r) none sound =
      let number : old.number ≡ worker = sound.number in
      let is : IsOutputOf rows worker (length old.put) r.line r.out = subst (λ (w : ℕ). IsOutputOf rows w (length old.put) r.line r.out) number r.output in
      let (legal, coming) = legal_output s rows worker (length old.put) r.line r.out r.named is in
      let sent : sent_of r.out ≡ env_sent (r.out ∷ []) = sym (append-nil (sent_of r.out)) in
      let origin = origin_is rows worker (length old.put) r.line r.out is in
      record {
        outs = r.out ∷ [];
        received = ap (λ (w : EnvWorking). w.received) r.same;
        output = ap (λ (w : EnvWorking). w.output) r.same;
        went = ap (λ (w : EnvWorking). w.outgoing) r.same ∙ ap (λ l. old.outgoing ++ l) sent;
        outputs = ap (λ (w : EnvWorking). w.put) r.same;
        sound = line_sound old new r none sound legal coming;
        readings =
            record {
              reads = inr (inl (unended, ap (λ (w : EnvWorking). w.ended) r.same ∙ unended, refl, r.count));
              numbered = (origin.0, origin.1, tt);
              legal = subst (All (IsLegalItem s rows worker)) sent legal;
              coming = subst (All (ComesIn rows)) sent coming;
            };
        did = λ said (same, no_outs). cc;
        idle = λ said. cc;
      }
  read_part (Ok true) old new (unended, inr r) none sound =
      let ended : new.ended ≡ Some r.end = ap (λ (w : EnvWorking). w.ended) r.same in
      let not : new.ended ≢ None = λ e. cc in
      record {
        outs = [];
        received = ap (λ (w : EnvWorking). w.received) r.same;
        output = ap (λ (w : EnvWorking). w.output) r.same;
        went = ap (λ (w : EnvWorking). w.outgoing) r.same ∙ sym (append-nil old.outgoing);
        outputs = ap (λ (w : EnvWorking). w.put) r.same ∙ sym (append-nil old.put);
        sound = end_sound old new r sound;
        readings = no_readings old new (inr (inr (unended, not, refl, r.count)));
        did = λ said (same, no_outs). not (same ∙ unended);
        idle = λ said. cc;
      }
  read_part (Ok false) old new (same, ended) none sound = none_read (Ok false) (λ said. cc) old new same (λ said. ended) sound
  read_part (Err r) old new same none sound = none_read (Err r) (λ said. cc) old new same (λ said. cc) sound

  pub noted : (old : EnvWorking) (items : List Item) (new : EnvWorking) → new ≡ record old { received = items; output = new.output } → IsEnvSound s rows worker old → IsEnvSound s rows worker new
  noted old items new same sound =
      subst (IsEnvSound s rows worker) (sym same)
      (record { number = sound.number; legal = sound.legal; coming = sound.coming; few = sound.few; one = sound.one; counted = sound.counted })
