-- What a block sends starts at it: only instances of its own sets make turns there.
use Rattle.std.proofs.Common.{ℕ, All, List, [], ◌∷◌, ◌≡◌, Option, Some, None, refl, ap, sym, ◌∙◌, subst}
use Rattle.std.proofs.lemmas.Option.{slice_get-map}
use Rattle.std.proofs.lemmas.List.Concat.{flat_map-append}
use Rattle.std.proofs.lemmas.List.Elements.{recursion_from_All}
use Rattle.std.specs.List.{flat_map, AllByRecursion}
use Rattle.sdl_signal.specs.declared.ids.BlockId.{BlockId}
use Rattle.sdl_signal.specs.declared.values.Item.{Item}
use Rattle.sdl_structure_parts.specs.Structure.{set_at}
use Rattle.sdl_routes.specs.declared.route.TableRow.{TableRow}
use Rattle.sdl_transition_behaviour.specs.declared.step.Frame.{Frame}
use Rattle.sdl_transition_behaviour.specs.declared.step.Step.{Step}
use Rattle.sdl_instances_log.specs.declared.event.Event.{Event}
use Rattle.sdl_instances.specs.Machine.{State}
use Rattle.sdl_instances.specs.Run.{Leads, done_in, sent_by, sent, all_done, initial}
use Rattle.sdl_instances.specs.Core.{Core, IsSound, IsBoundIn, numbers_of, sets_of}
use Rattle.sdl_instances.proofs.Home.{IsHome, IsFromBlock, next_home, run_home}
use Rattle.sdl_forward_opening.specs.declared.worker.Worker.{Worker}
use Rattle.sdl_forward_opening.specs.declared.worker.Worker.TheVariants.{Block, Environment}
use Rattle.sdl_run_outcome.specs.Plan.{Plan, ways_of, system_at, starter}
use Rattle.sdl_run_outcome.proofs.Lists.{all_append, all_weaker}
use Rattle.sdl_run_outcome.proofs.Ways.{set_worker}

unfoldable pub block : ℕ → BlockId
block n = record { 0 = n }

module _ (may : ℕ → Frame → Step → Type 0) (plan : Plan) (n : ℕ) (b : BlockId) (at_n : b ≡ block n) where
  abbrev StartsHere : Item → Type 0
  StartsHere i = (ways_of plan).start i.route.0 ≡ Block (block n)

  abbrev IsFrom : Item → Type 0
  IsFrom = IsFromBlock (sets_of plan.structure) plan.routes b

  from_starts : (i : Item) → IsFrom i → StartsHere i
  from_starts i (set, serial, d, row, sender, found, here, at, from) =
      ap (λ (o : Option TableRow). elim o as (λ _. Worker) [ None ↦ Environment | Some x ↦ starter plan.structure x.source ]) at
      ∙ (ap (starter plan.structure) from
      ∙ (set_worker plan.structure set d (set_at plan.structure set) refl (sym (slice_get-map numbers_of plan.structure.sets set.0) ∙ found) ∙ ap Block (here ∙ at_n)))

  module _ (bound : IsBoundIn (system_at plan n).signals (system_at plan n).sets (system_at plan n).rules b) where
    leads_from : (old : State) (log : List Event) (new : State) → All (λ e. IsHome (sets_of plan.structure) b e.0) old.living → Leads may (system_at plan n) old log new → AllByRecursion IsFrom (sent log)
    leads_from old [] new home h = tt
    leads_from old (e ∷ log) new home (mid, one, rest) =
        let step = next_home may (system_at plan n) b bound old e mid home one in
        subst (AllByRecursion IsFrom) (sym (flat_map-append sent_by (done_in e) (all_done log)))
        (all_append IsFrom (flat_map sent_by (done_in e)) (sent log) (recursion_from_All IsFrom (flat_map sent_by (done_in e)) step.1) (leads_from mid log new step.0 rest))

-- what stands in the log of a sound core as sent starts at its block
pub run_starts : (may : ℕ → Frame → Step → Type 0) (plan : Plan) (n : ℕ) (c : Core) → c.block ≡ block n → IsSound may (system_at plan n) c
    → AllByRecursion (λ (i : Item). (ways_of plan).start i.route.0 ≡ Block (block n)) (sent c.log)
run_starts may plan n c at_n sound =
    let first : State = initial (system_at plan n).rules (system_at plan n).sets c.block in
    let home = run_home may (system_at plan n) c.block sound.bound [] first (record { leads = refl; numbered = tt; stamped = tt }) in
    all_weaker (IsFromBlock (sets_of plan.structure) plan.routes c.block) (λ (i : Item). (ways_of plan).start i.route.0 ≡ Block (block n)) (λ i from. from_starts may plan n c.block at_n i from) (sent c.log)
    (leads_from may plan n c.block at_n sound.bound first c.log c.state home sound.run.leads)
