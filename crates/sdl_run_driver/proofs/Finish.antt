-- All that holds of a run where it stops.
use Rattle.std.proofs.Common.{ℕ, sym, subst, arith}
use Rattle.std.proofs.lemmas.Option.{slice_get_within}
use Rattle.std.specs.List.{AllByRecursion}
use Rattle.sdl_transition_behaviour.specs.declared.step.Frame.{Frame}
use Rattle.sdl_transition_behaviour.specs.declared.step.Step.{Step}
use Rattle.sdl_run_outcome.specs.declared.end.RunEnd.{RunEnd}
use Rattle.sdl_run_ledger.specs.declared.ledger.Ledger.{Ledger}
use Rattle.sdl_forward_opening.specs.declared.worker.Worker.TheVariants.{Environment}
use Rattle.sdl_run_outcome.specs.Plan.{Plan, IsPlan, MayTravel}
use Rattle.sdl_run_ledger.specs.Counts.{IsTraced, IsLimited, IsLedgerOf, IsOnRoute, waiting_in}
use Rattle.sdl_run_outcome.specs.Ends.{EndsAs}
use Rattle.sdl_run_driver.specs.Ended.{HasEnded}
use Rattle.sdl_run_order.specs.Driver.{Site, IsAtWork, outcome_of, finals_of}
use Rattle.sdl_run_outcome.proofs.Lists.{all_weaker}
use Rattle.sdl_run_order.proofs.Whole.{headline}
use Rattle.sdl_run_order.proofs.Ending.{complete, cores, lawful, lefts, within_from, outgoing_same, outcome_in_order, forwarders_put}
use Rattle.sdl_run_ledger.proofs.Balanced.{balanced}
use Rattle.sdl_run_driver.proofs.Meeting.{bound_at, turns_few, outputs_few}

module _ (may : ℕ → Frame → Step → Type 0) (plan : Plan) (ok : IsPlan plan) (site : Site) (work : IsAtWork may plan site) where
  -- what is known of the run where it stops
  pub traced : IsTraced may plan (outcome_of site) (finals_of site)
  traced =
      record {
        is_plan = ok;
        complete = complete may plan ok site work;
        order = outcome_in_order may plan ok site work;
        lawful = lawful may plan ok site work;
        bound = bound_at may plan site.blocks work.blocks work.cores;
        coming = work.coming;
        to_put = subst (AllByRecursion (IsOnRoute plan)) (sym (outgoing_same may plan ok site work Environment tt))
            (all_weaker (MayTravel plan) (IsOnRoute plan) (λ i legal. slice_get_within plan.routes i.route.0 legal.carried.0 legal.carried.1) site.environment.outgoing (work.outgoing_legal Environment tt));
        forwarders = forwarders_put may plan ok site work;
      }

  -- and that it kept to its limits
  pub limited : IsLimited (outcome_of site)
  limited =
      record {
        few_turns = turns_few may plan 0 site.blocks (cores may plan ok site work);
        few_outputs = outputs_few may plan 0 site.blocks (cores may plan ok site work);
        few_lines = let a = work.environment.counted in let b = work.environment.few in omega (arith, a, b);
      }

  -- where the run stops, all holds that holds of a run that has ended, once the end and the ledger are known
  pub ended : (end : RunEnd) (ledger : Ledger) → EndsAs plan (outcome_of site) (finals_of site) end → IsLedgerOf (outcome_of site) (waiting_in (finals_of site)) ledger
      → HasEnded may plan (outcome_of site) end ledger
  ended end ledger ends counts =
      record {
        finals = finals_of site;
        complete = complete may plan ok site work;
        headline = headline may plan (outcome_of site) (finals_of site) ok (complete may plan ok site work) (outcome_in_order may plan ok site work) (lawful may plan ok site work);
        ends = ends;
        within_budget = within_from may plan 0 site.blocks (cores may plan ok site work);
        lefts = lefts may plan ok site work;
        counts = counts;
        balanced = balanced may plan (outcome_of site) (finals_of site) ledger traced counts;
      }
