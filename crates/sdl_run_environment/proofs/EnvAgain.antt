-- The environment before its first step, and after each step.
use Rattle.std.proofs.Common.{ℕ, List, [], ◌++◌, Option, None, Some, All, sym, subst}
use Rattle.std.proofs.lemmas.List.Elements.{All-append, All-from_recursion, recursion_from_All}
use Rattle.sdl_signal.specs.declared.values.Item.{Item}
use Rattle.sdl_signal.specs.declared.ends.InputEnd.{InputEnd}
use Rattle.sdl_signal.specs.declared.ends.OutputEnd.{OutputEnd}
use Rattle.sdl_signal.specs.declared.ends.OutputEnd.TheVariants as output
use Rattle.sdl_signal.specs.Environment.{HasCarried, HasRead}
use Rattle.sdl_structure_parts.specs.Structure.{Structure, lexicon_of}
use Rattle.sdl_routes.specs.declared.route.TableRow.{TableRow}
use Rattle.sdl_routes.specs.declared.route.Station.{Station}
use Rattle.sdl_routes.specs.declared.route.Station.TheVariants.{Outlet}
use Rattle.sdl_routes.specs.Routes.{AreRoutesOf}
use Rattle.sdl_forward.specs.Boards.{waiting}
use Rattle.sdl_block_hand.specs.declared.hand.Stepped.{Stepped}
use Rattle.sdl_block_hand.specs.declared.hand.Stepped.TheVariants.{Did, Idle, Memory}
use Rattle.sdl_block_hand.specs.Work.{beginning_at}
use Rattle.sdl_run_outcome.specs.EnvironmentWork.{EnvWorking, IsEnvFresh, IsEnvSound, IsLegalItem, GoesOut, AreOutputsOf, EnvWorks, EnvStepsAs, HasReadSoFar, HasWrittenSoFar, HasWritten, received_text, env_sent}
use Rattle.sdl_run_outcome.proofs.Lists.{all_front, all_end}
use Rattle.sdl_run_environment.proofs.EnvLegal.{begins_out}
use Rattle.sdl_run_environment.proofs.EnvWriting.{written_none}

-- before anything was read
pub fresh_read : (structure : Structure) (rows : List TableRow) (worker : ℕ) (start : Option (List ℕ)) (w : EnvWorking) → IsEnvFresh worker w → HasReadSoFar structure rows worker start start w
fresh_read structure rows worker start w fresh =
    let P : Option InputEnd → Type 0 = λ o. elim o [ None ↦ HasCarried (lexicon_of structure) start start w.reading [] | Some end ↦ HasRead (lexicon_of structure) start start [] end ] in
    ([], subst (AreOutputsOf rows worker 0 []) (sym fresh.put) tt, subst P (sym fresh.ended) (fresh.begins (lexicon_of structure) start))

pub fresh_written : (structure : Structure) (rows : List TableRow) (worker : ℕ) (start : Option (List ℕ)) (w : EnvWorking) → IsEnvFresh worker w → HasWrittenSoFar structure rows worker start start w
fresh_written structure rows worker start w fresh =
    let P : OutputEnd → Type 0 = λ e. HasWritten start start (received_text (lexicon_of structure) rows w.received) e in
    let Q : List Item → Type 0 = λ items. HasWritten start start (received_text (lexicon_of structure) rows items) output.Whole in
    subst P (sym fresh.output) (subst Q (sym fresh.received) (written_none start))

module _ (structure : Structure) (rows : List TableRow) (worker : ℕ) (old : EnvWorking) (before : List (Station × List Item)) (new : EnvWorking) (after : List (Station × List Item)) where
  -- after each step the next one can be made
  pub sound_after : (answer : Stepped) → EnvStepsAs structure rows worker old before answer new after → IsEnvSound structure rows worker old → IsEnvSound structure rows worker new
  sound_after Did h sound = h.0.sound
  sound_after Memory h sound = h.sound
  sound_after Idle (same, board, rest) sound = subst (IsEnvSound structure rows worker) (sym same) sound

  works_outlet : EnvWorks structure rows worker old before new after → AreRoutesOf structure rows → IsEnvSound structure rows worker old
      → All (λ i. IsLegalItem structure rows worker i × GoesOut rows i) (waiting before Outlet) → All (λ i. IsLegalItem structure rows worker i × GoesOut rows i) (waiting after Outlet)
  works_outlet w routes sound h =
      let legal = All-append (IsLegalItem structure rows worker) old.outgoing (env_sent w.outs) sound.legal w.legal in
      let each = all_front (IsLegalItem structure rows worker) w.put new.outgoing (recursion_from_All (IsLegalItem structure rows worker) (w.put ++ new.outgoing) (subst (All (IsLegalItem structure rows worker)) (sym w.went) legal)) in
      let put = All-from_recursion (λ i. IsLegalItem structure rows worker i × GoesOut rows i) (beginning_at rows Outlet w.put) (begins_out structure rows worker routes w.put each) in
      let all = subst (All (λ i. IsLegalItem structure rows worker i × GoesOut rows i)) w.outlet (All-append (λ i. IsLegalItem structure rows worker i × GoesOut rows i) (waiting before Outlet) (beginning_at rows Outlet w.put) h put) in
      All-from_recursion (λ i. IsLegalItem structure rows worker i × GoesOut rows i) (waiting after Outlet)
      (all_end (λ i. IsLegalItem structure rows worker i × GoesOut rows i) w.taken (waiting after Outlet) (recursion_from_All (λ i. IsLegalItem structure rows worker i × GoesOut rows i) (w.taken ++ waiting after Outlet) all))

  -- the outlet still holds what may leave there
  pub outlet_after : (answer : Stepped) → EnvStepsAs structure rows worker old before answer new after → AreRoutesOf structure rows → IsEnvSound structure rows worker old
      → All (λ i. IsLegalItem structure rows worker i × GoesOut rows i) (waiting before Outlet) → All (λ i. IsLegalItem structure rows worker i × GoesOut rows i) (waiting after Outlet)
  outlet_after Did h routes sound all = works_outlet h.0 routes sound all
  outlet_after Memory h routes sound all = works_outlet h routes sound all
  outlet_after Idle (same, board, rest) routes sound all =
      subst (λ (b : List (Station × List Item)). All (λ i. IsLegalItem structure rows worker i × GoesOut rows i) (waiting b Outlet)) (sym board) all
