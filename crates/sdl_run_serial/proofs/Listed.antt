-- What holds of a closing holds of it with its logs as lists.
use Rattle.std.proofs.Common.{◌≡◌, ℕ, List, Option, Vec, Global, sym, ◌∙◌, subst}
use Rattle.sdl_structure_parts.specs.Structure.{lexicon_of}
use Rattle.sdl_signal.specs.declared.values.Item.{Item}
use Rattle.sdl_signal.specs.declared.ends.OutputEnd.{OutputEnd}
use Rattle.sdl_transition_behaviour.specs.declared.step.Frame.{Frame}
use Rattle.sdl_transition_behaviour.specs.declared.step.Step.{Step}
use Rattle.sdl_instances_log.specs.declared.event.Event.{Event}
use Rattle.sdl_run_outcome.specs.declared.end.RunEnd.{RunEnd}
use Rattle.sdl_run_outcome.specs.Plan.{Plan}
use Rattle.sdl_run_outcome.specs.EnvironmentWork.{HasWritten, received_text}
use Rattle.sdl_run_driver.specs.declared.closing.Closing.{Closing}
use Rattle.sdl_run_driver.specs.Closings.{HasWrittenIn, IsRunOf, NamesRefused, outcome_in}

module _ {S K L I : Type 0} {F : I → Type 0} {g : _} (c : Closing S K I F g) (l : Closing S L I F g) where
  pub run_listed : (may : ℕ → Frame → Step → Type 0) (plan : Plan) (schedule : List ℕ) (events : K → List Event) (items : L → List Event)
      → outcome_in items l ≡ outcome_in events c → l.end ≡ c.end → IsRunOf may plan schedule events c → IsRunOf may plan schedule items l
  run_listed may plan schedule events items same end run =
      record {
        start = run.start;
        stop = run.stop;
        refused = run.refused;
        fresh = run.fresh;
        runs = run.runs;
        left = same ∙ run.left;
        ends = subst (λ (e : RunEnd). NamesRefused e run.refused) (sym end) run.ends;
      }

  pub writing_listed : (plan : Plan) (x y : Option (List ℕ)) → l.env_received ≡ c.env_received → l.output ≡ c.output → HasWrittenIn plan x y c → HasWrittenIn plan x y l
  writing_listed plan x y received output h =
      subst (λ (o : OutputEnd). HasWritten x y (received_text (lexicon_of plan.structure) plan.routes l.env_received.items) o) (sym output)
      (subst (λ (r : Vec Item Global). HasWritten x y (received_text (lexicon_of plan.structure) plan.routes r.items) c.output) (sym received) h)
