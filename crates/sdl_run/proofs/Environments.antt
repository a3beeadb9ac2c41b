-- What the environment's steps keep, from the start of the run on.
use Rattle.std.proofs.Common.{ℕ, List, Option, None, Bool, true, false, Result, Ok, Err, ◌≡◌, ◌≢◌, refl, ap, sym, ◌∙◌, subst, take}
use Rattle.std.proofs.KnownBytes.{Appends-kept}
use Rattle.std.specs.Io.KnownBytes.{Keeps}
use Rattle.sdl_signal.specs.declared.values.Item.{Item}
use Rattle.sdl_signal.specs.declared.ends.OutputEnd.{OutputEnd}
use Rattle.sdl_signal.specs.declared.ends.OutputEnd.TheVariants as output
use Rattle.sdl_structure_parts.specs.Structure.{Structure, lexicon_of}
use Rattle.sdl_routes.specs.declared.route.TableRow.{TableRow}
use Rattle.sdl_routes.specs.declared.route.Station.{Station}
use Rattle.sdl_forward_ends.specs.Ends.{WorkerEnds, IsSameEnds, put_at}
use Rattle.sdl_block_hand.specs.declared.hand.Refused.{Refused}
use Rattle.sdl_block_hand.specs.declared.hand.Stepped.{Stepped}
use Rattle.sdl_block_hand.specs.declared.hand.Stepped.TheVariants.{Memory}
use Rattle.sdl_block_hand.specs.Puts.{answer_of}
use Rattle.sdl_forward.specs.ByEnds.{has_feed_still}
use Rattle.sdl_run_threads.proofs.Flushes.{taken_same}
use Rattle.sdl_run_outcome.specs.EnvironmentWork.{EnvWorking, HasReadSoFar, HasWritten, HasWrittenSoFar, received_text}
use Rattle.sdl_run_environment.specs.EnvApart.{IsEnvPuttingOut}
use Rattle.sdl_run_environment.specs.EnvPhasesApart.{ReceivesApart, TakesOne}
use Rattle.sdl_run.specs.Environment.{KeepsEnvironment}

module _ (s : Structure) (rows : List TableRow) (old : EnvWorking) (was : Option Item) (before : WorkerEnds) (read_from read_to written_from written_to : Option (List ℕ)) (kept : KeepsEnvironment s rows old was before read_from read_to written_from written_to) where
  -- by the worker's own number
  pub puts_out : IsEnvPuttingOut s rows old.number old was before
  puts_out = subst (λ (n : ℕ). IsEnvPuttingOut s rows n old was before) (sym kept.putting.sound.number) kept.putting

  pub goes_over : (new : EnvWorking) (is : Option Item) (after : WorkerEnds) (read_then written_then : Option (List ℕ)) → new.number ≡ old.number → IsEnvPuttingOut s rows new.number new is after
      → ((start : Option (List ℕ)) → HasReadSoFar s rows old.number start read_to old → HasReadSoFar s rows old.number start read_then new)
      → ((start : Option (List ℕ)) → HasWrittenSoFar s rows old.number start written_to old → HasWrittenSoFar s rows old.number start written_then new)
      → KeepsEnvironment s rows new is after read_from read_then written_from written_then
  goes_over new is after read_then written_then same putting reads writes =
      let own = kept.putting.sound.number in
      record {
        structure = kept.structure;
        routes = kept.routes;
        putting = subst (λ (n : ℕ). IsEnvPuttingOut s rows n new is after) (same ∙ own) putting;
        reading = subst (λ (n : ℕ). HasReadSoFar s rows n read_from read_then new) own (reads read_from (subst (λ (n : ℕ). HasReadSoFar s rows n read_from read_to old) (sym own) kept.reading));
        writing = subst (λ (n : ℕ). HasWrittenSoFar s rows n written_from written_then new) own (writes written_from (subst (λ (n : ℕ). HasWrittenSoFar s rows n written_from written_to old) (sym own) kept.writing));
      }

-- where its ends are flushed
pub flushed : (s : Structure) (rows : List TableRow) (w : EnvWorking) (astray : Option Item) (old new : WorkerEnds) (read_from read_to written_from written_to : Option (List ℕ)) → ((t : Station) → put_at new t ≡ put_at old t)
    → new.tap ≡ old.tap → IsSameEnds old new → KeepsEnvironment s rows w astray old read_from read_to written_from written_to → KeepsEnvironment s rows w astray new read_from read_to written_from written_to
flushed s rows w astray old new read_from read_to written_from written_to puts tap same kept =
    let h = kept.putting in
    record {
      structure = kept.structure;
      routes = kept.routes;
      putting = record {
        sound = h.sound;
        put = h.put;
        whole = h.whole;
        each = λ t. puts t ∙ h.each t;
        came = h.came ∙ sym (taken_same old new tap);
        counted = h.counted;
        coming = h.coming;
        legal = h.legal;
        lost = h.lost;
        ways = λ r row t gate at source first. has_feed_still old new t same (h.ways r row t gate at source first);
      };
      reading = kept.reading;
      writing = kept.writing;
    }

-- bytes that were written stay written where what is known of them stays
written_still : (start now later : Option (List ℕ)) (text : List ℕ) (end : OutputEnd) → HasWritten start now text end → Keeps now later → HasWritten start later text end
written_still start now later text output.Whole h keeps = Appends-kept start now later text h keeps
written_still start now later text output.WriteFault h keeps = (h.0, h.1, Appends-kept start now later (take h.0 text) h.2 keeps)

-- where its output is flushed, and all else is as it was
pub written_out : (s : Structure) (rows : List TableRow) (old new : EnvWorking) (was is : Option Item) (before after : WorkerEnds) (read_from read_to read_later written_from written_to written_later : Option (List ℕ))
    → KeepsEnvironment s rows old was before read_from read_to written_from written_to → new ≡ old → is ≡ was → after ≡ before → read_later ≡ read_to → Keeps written_to written_later
    → KeepsEnvironment s rows new is after read_from read_later written_from written_later
written_out s rows old new was is before after read_from read_to read_later written_from written_to written_later kept same_worker same_astray same_ends same_reading keeps =
    let flushed : KeepsEnvironment s rows old was before read_from read_to written_from written_later =
    record {
      structure = kept.structure;
      routes = kept.routes;
      putting = kept.putting;
      reading = kept.reading;
      writing = written_still written_from written_to written_later (received_text (lexicon_of s) rows old.received) old.output kept.writing keeps;
    } in
    subst (λ (w : EnvWorking). KeepsEnvironment s rows w is after read_from read_later written_from written_later) (sym same_worker)
    (subst (λ (a : Option Item). KeepsEnvironment s rows old a after read_from read_later written_from written_later) (sym same_astray)
    (subst (λ (e : WorkerEnds). KeepsEnvironment s rows old was e read_from read_later written_from written_later) (sym same_ends)
    (subst (λ (r : Option (List ℕ)). KeepsEnvironment s rows old was before read_from r written_from written_later) (sym same_reading) flushed)))

-- A step that only receives leaves what is in hand, and nothing is astray after it, where it was not refused.
received_leaves : (s : Structure) (rows : List TableRow) (worker : ℕ) (old : EnvWorking) (before : WorkerEnds) (result : Result Bool Refused) (new : EnvWorking) (is : Option Item) (after : WorkerEnds)
    → ReceivesApart s rows worker old before result new is after → answer_of result ≢ Memory → (new.outgoing ≡ old.outgoing) × (is ≡ None)
received_leaves s rows worker old before (Ok true) new is after (i, takes, may, same, none) not = (ap (λ (w : EnvWorking). w.outgoing) same, none)
received_leaves s rows worker old before (Ok false) new is after (same, takes, none) not = (ap (λ (w : EnvWorking). w.outgoing) same, none)
received_leaves s rows worker old before (Err r) new is after h not = absurd (not refl)

pub receive_leaves : (s : Structure) (rows : List TableRow) (worker : ℕ) (old : EnvWorking) (before : WorkerEnds) (answer : Stepped) (new : EnvWorking) (is : Option Item) (after : WorkerEnds)
    → TakesOne s rows worker old before answer new is after → answer ≢ Memory → (new.outgoing ≡ old.outgoing) × (is ≡ None)
receive_leaves s rows worker old before answer new is after (result, said, h) not = received_leaves s rows worker old before result new is after h (λ e. not (said ∙ e))
