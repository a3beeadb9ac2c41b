-- What was read and written so far, at the start and at the end of a run.
use Rattle.std.proofs.Common.{ℕ, List, [], Option, Some, None, ◌≡◌, ◌≢◌, ap, sym, ◌∙◌, subst}
use Rattle.std.proofs.lemmas.List.{append-nil}
use Rattle.std.specs.Io.KnownBytes.{Appends}
use Rattle.sdl_signal.specs.declared.ends.InputEnd.{InputEnd}
use Rattle.sdl_signal.specs.declared.ends.InputEnd.TheVariants as input
use Rattle.sdl_signal.specs.declared.ends.OutputEnd.{OutputEnd}
use Rattle.sdl_signal.specs.declared.values.Item.{Item}
use Rattle.sdl_signal.specs.Environment.{HasCarried, HasRead}
use Rattle.sdl_structure_parts.specs.Structure.{Structure, lexicon_of}
use Rattle.sdl_routes.specs.declared.route.TableRow.{TableRow}
use Rattle.sdl_run_outcome.specs.declared.environment_output.EnvOut.{EnvOut}
use Rattle.sdl_run_outcome.specs.EnvironmentWork.{EnvWorking, OwnEnd, IsEnvFresh, IsEnvSound, AreOutputsOf, HasReadSoFar, HasReadAll, HasWrittenSoFar, HasWritten, received_text, input_end}
use Rattle.sdl_run_environment.proofs.EnvReading.{read_so_far_is_all}

nothing_more : (start : Option (List ℕ)) → Appends start start []
nothing_more None = tt
nothing_more (Some xs) = sym (append-nil xs)

-- a reading that has ended did not just stop
pub never_stopped : (o : Option InputEnd) → OwnEnd o → (end : InputEnd) → o ≡ Some end → (k : ℕ) → end ≢ input.Stopped k
never_stopped o own end e k h = subst OwnEnd (e ∙ ap (λ (x : InputEnd). Some x) h) own

module _ (s : Structure) (routes : List TableRow) (n : ℕ) (w : EnvWorking) where
  -- before anything was read, nothing was read and written
  pub reads_none : IsEnvFresh n w → (start : Option (List ℕ)) → HasReadSoFar s routes n start start w
  reads_none fresh start = (
    [],
    subst (AreOutputsOf routes n 0 []) (sym fresh.put) tt,
    subst (λ (o : Option InputEnd). elim o as (λ _. Type 0) [ None ↦ HasCarried (lexicon_of s) start start w.reading [] | Some end ↦ HasRead (lexicon_of s) start start [] end ]) (sym fresh.ended)
        (fresh.begins (lexicon_of s) start),
  )

  pub writes_none : IsEnvFresh n w → (start : Option (List ℕ)) → HasWrittenSoFar s routes n start start w
  writes_none fresh start =
      subst (λ (xs : List Item). HasWritten start start (received_text (lexicon_of s) routes xs) w.output) (sym fresh.received)
      (subst (λ (x : OutputEnd). HasWritten start start [] x) (sym fresh.output) (nothing_more start))

-- what a closing shows is all that was read, and all that was written
pub reads_shown : (s : Structure) (routes : List TableRow) (n : ℕ) (w : EnvWorking) → IsEnvSound s routes n w → (outs : List EnvOut) (end : InputEnd) → outs ≡ w.put → end ≡ input_end w
    → (start now : Option (List ℕ)) → HasReadSoFar s routes n start now w → HasReadAll s routes n start now outs end
reads_shown s routes n w sound outs end e f start now h =
    subst (λ (xs : List EnvOut). HasReadAll s routes n start now xs end) (sym e) (subst (λ (x : InputEnd). HasReadAll s routes n start now w.put x) (sym f) (read_so_far_is_all s routes n start now w sound.few h))

pub writes_shown : (s : Structure) (routes : List TableRow) (n : ℕ) (w : EnvWorking) (items : List Item) (end : OutputEnd) → items ≡ w.received → end ≡ w.output
    → (start now : Option (List ℕ)) → HasWrittenSoFar s routes n start now w → HasWritten start now (received_text (lexicon_of s) routes items) end
writes_shown s routes n w items end e f start now h =
    subst (λ (xs : List Item). HasWritten start now (received_text (lexicon_of s) routes xs) end) (sym e) (subst (λ (x : OutputEnd). HasWritten start now (received_text (lexicon_of s) routes w.received) x) (sym f) h)
