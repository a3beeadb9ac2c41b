-- A step of a worker keeps what holds of a driver, and lowers what is left to do, or the worker could do nothing.
use Rattle.std.proofs.Common.{ℕ, zero, suc, ◌+◌, ◌≤◌, List, [], ◌∷◌, map, length, get_or, slice_get, set, ◌≡◌, Option, Some, All, refl, ap, sym, ◌∙◌, subst, arith}
use Rattle.std.proofs.lemmas.Option.{same_Some, slice_get_within}
use Rattle.std.proofs.lemmas.List.{length-map, length-append}
use Rattle.sdl_structure_parts.specs.Structure.{Structure}
use Rattle.sdl_routes.specs.declared.route.TableRow.{TableRow}
use Rattle.sdl_transition_behaviour.specs.declared.step.Frame.{Frame}
use Rattle.sdl_transition_behaviour.specs.declared.step.Step.{Step}
use Rattle.sdl_transition.specs.Rules.{Rules, block_rules}
use Rattle.sdl_instances.specs.CoreOf.{CanFire}
use Rattle.sdl_forward.specs.Forwards.{Forwarding}
use Rattle.sdl_forward.specs.Boards.{waiting, IsBoardOf}
use Rattle.sdl_routes.specs.declared.route.Station.TheVariants.{Line}
use Rattle.sdl_forward.specs.declared.forwarder.Forwarded.{Forwarded}
use Rattle.sdl_forward.specs.declared.forwarder.Forwarded.TheVariants as forwarded
use Rattle.sdl_block.specs.declared.worker.BlockWorker.{BlockWorker}
use Rattle.sdl_block_hand.specs.declared.hand.Stepped.{Stepped}
use Rattle.sdl_block_hand.specs.declared.hand.Stepped.TheVariants as stepped
use Rattle.sdl_block_hand.specs.Work.{Working, StepsAs, IsAtRest}
use Rattle.sdl_block.specs.Workers.{behaviours_of}
use Rattle.sdl_forward_opening.specs.declared.worker.Worker.TheVariants.{Environment, Forwarder}
use Rattle.sdl_run_driver.specs.declared.driver.Driver.{Driver}
use Rattle.sdl_run_driver.specs.declared.system.System.{System}
use Rattle.sdl_run_outcome.specs.Plan.{Plan, IsPlan, blocks_in, blocks_from, lines_of, workers_of, system_at}
use Rattle.sdl_run_order.specs.Driver.{Site, IsAtWork, BlockSteps, EnvironmentSteps, ForwarderSteps}
use Rattle.sdl_run_outcome.specs.EnvironmentWork.{EnvWorking, EnvStepsAs, HasReadSoFar, HasWrittenSoFar}
use Rattle.sdl_run_driver.specs.Drivers.{site_of, IsDriving, ReadsOver, WritesOver, StepAnswers, stepped_by}
use Rattle.sdl_run_driver.specs.Systems.{plan_of, IsSameSystem}
use Rattle.sdl_run_order.specs.Measure.{work_left}
use Rattle.sdl_forward_opening.proofs.Counted as counted
use Rattle.sdl_run_outcome.proofs.Lists.{set_same}
use Rattle.sdl_run_order.proofs.Between.{site_is, block_steps, environment_steps, forwarder_steps}
use Rattle.sdl_run_outcome.proofs.Workers.{count_blocks}
use Rattle.sdl_run_order.proofs.Measure.{moves_lower}
use Rattle.sdl_run_order.proofs.Lowers.{works_lower}
use Rattle.sdl_run_order.proofs.LowersEnvironment.{something, env_lowers}

-- the workers are the blocks, the environment and the forwarders
pub workers_count : (may : ℕ → Frame → Step → Type 0) (plan : Plan) (site : Site) → IsAtWork may plan site → length (workers_of plan) ≡ length site.blocks + 1 + length site.forwarders
workers_count may plan site work =
    let a = length-append (blocks_from 0 (blocks_in plan)) (Environment ∷ map Forwarder (lines_of plan)) in
    let b = count_blocks 0 (blocks_in plan) in
    let c = length-map (lines_of plan) Forwarder in
    let d = length-map site.forwarders (λ (f : Forwarding). f.hop) in
    let e = ap length work.forwarders in
    let f = work.blocks in
    omega arith

pub workers_few : (plan : Plan) → IsPlan plan → length (workers_of plan) ≤ 193
workers_few plan ok = counted.workers_few plan.structure (workers_of plan) ok.structure refl

-- of sites alone
module _ (may : ℕ → Frame → Step → Type 0) (plan : Plan) (ok : IsPlan plan) (old new : Site) (work : IsAtWork may plan old) where
  block_answer : (n : ℕ) (answer : Stepped) (was is : Working) → slice_get old.blocks n ≡ Some was → new.blocks ≡ set old.blocks n is → new.environment ≡ old.environment → new.forwarders ≡ old.forwarders
      → StepsAs may (system_at plan n) was old.board answer is new.board → StepAnswers plan n answer old new
  block_answer n stepped.Did was is before after env same step =
      let then : Site = record { blocks = set old.blocks n is; environment = old.environment; forwarders = old.forwarders; board = new.board } in
      let less = works_lower may plan ok old work n was is before new.board step.0 in
      let some = something step.0.put step.0.events step.1 in
      let at = ap (work_left plan) (site_is then new after env same refl) in
      omega arith
  block_answer n stepped.Idle was is before after env same step = (
    sym (site_is old new (after ∙ (ap (set old.blocks n) step.0 ∙ set_same old.blocks n was before)) env same step.1),
    record {
      block = λ w at. subst (λ (k : Working). IsAtRest k old.board) (same_Some was w (sym before ∙ at)) step.2;
      environment = λ e. let l = slice_get_within old.blocks n was before in absurd (omega arith);
      forwarder = λ k f e at. let l = slice_get_within old.blocks n was before in absurd (omega arith);
    },
  )
  block_answer n stepped.Memory was is before after env same step = tt

  pub block_answers : (n : ℕ) (answer : Stepped) → BlockSteps may plan n answer old new → StepAnswers plan n answer old new
  block_answers n answer steps = block_answer n answer steps.was steps.is steps.before steps.after steps.environment steps.forwarders steps.step

  forwarder_answer : (n k : ℕ) (answer : Forwarded) → n ≡ length old.blocks + 1 + k → (steps : ForwarderSteps plan k answer old new) → StepAnswers plan n (stepped_by answer) old new
  forwarder_answer n k forwarded.Moved e steps =
      let then : Site = record { blocks = old.blocks; environment = old.environment; forwarders = set old.forwarders k steps.is; board = new.board } in
      let less = moves_lower may plan ok old work k steps.was steps.is steps.before new.board steps.board (ap (λ (f : Forwarding). f.hop) steps.step.emptied) steps.step in
      let at = ap (work_left plan) (site_is then new steps.blocks steps.environment steps.after refl) in
      omega arith
  forwarder_answer n k forwarded.Idle e steps = (
    sym (site_is old new steps.blocks steps.environment (steps.after ∙ (ap (set old.forwarders k) steps.step.forwarder ∙ set_same old.forwarders k steps.was steps.before)) steps.step.board),
    record {
      block = λ w at. let l = slice_get_within old.blocks n w at in absurd (omega arith);
      environment = λ d. absurd (omega arith);
      forwarder = λ j f d at.
          let same : j ≡ k = omega arith in
          let found : steps.was ≡ f = same_Some steps.was f (sym steps.before ∙ subst (λ (m : ℕ). slice_get old.forwarders m ≡ Some f) same at) in
          (ap (λ (x : Forwarding). x.held) (sym found) ∙ steps.step.held, subst (λ (x : Forwarding). waiting old.board (Line x.hop) ≡ []) found steps.step.empty);
    },
  )
  forwarder_answer n k forwarded.Held e steps = tt

  pub forwarder_answers : (n k : ℕ) (answer : Forwarded) → n ≡ length old.blocks + 1 + k → ForwarderSteps plan k answer old new → StepAnswers plan n (stepped_by answer) old new
  forwarder_answers = forwarder_answer

  environment_answer : (n : ℕ) (answer : Stepped) → n ≡ length old.blocks → new.blocks ≡ old.blocks → new.forwarders ≡ old.forwarders → IsBoardOf plan.routes new.board
      → EnvStepsAs plan.structure plan.routes (blocks_in plan) old.environment old.board answer new.environment new.board → StepAnswers plan n answer old new
  environment_answer n stepped.Did at blocks forwarders board step =
      let then : Site = record { blocks = old.blocks; environment = new.environment; forwarders = old.forwarders; board = new.board } in
      let less = env_lowers may plan ok old work new.environment new.board board step.0 step.1 in
      let same = ap (work_left plan) (site_is then new blocks refl forwarders refl) in
      omega arith
  environment_answer n stepped.Idle at blocks forwarders board step = (
    sym (site_is old new blocks step.0 forwarders step.1),
    record {
      block = λ w found. let l = slice_get_within old.blocks n w found in absurd (omega arith);
      environment = λ e. (step.2.ended, step.2.outgoing, step.2.outlet);
      forwarder = λ k f e found. absurd (omega arith);
    },
  )
  environment_answer n stepped.Memory at blocks forwarders board step = tt

  pub environment_answers : (n : ℕ) (answer : Stepped) → n ≡ length old.blocks → EnvironmentSteps plan answer old new → StepAnswers plan n answer old new
  environment_answers n answer at steps = environment_answer n answer at steps.blocks steps.forwarders steps.board steps.step

-- where the environment makes no step, what was read and written stays
pub reads_still : (plan : Plan) (old new : EnvWorking) (now : Option (List ℕ)) → new ≡ old → ReadsOver plan old now new now
reads_still plan old new now same = λ start h. subst (λ (w : EnvWorking). HasReadSoFar plan.structure plan.routes (blocks_in plan) start now w) (sym same) h

pub writes_still : (plan : Plan) (old new : EnvWorking) (now : Option (List ℕ)) → new ≡ old → WritesOver plan old now new now
writes_still plan old new now same = λ start h. subst (λ (w : EnvWorking). HasWrittenSoFar plan.structure plan.routes (blocks_in plan) start now w) (sym same) h

-- what the environment's worker says of its own number and structure
pub reads_by : (plan : Plan) (s : Structure) (n : ℕ) (old new : EnvWorking) (x y : Option (List ℕ)) → s ≡ plan.structure → n ≡ blocks_in plan
    → ((start : Option (List ℕ)) → HasReadSoFar s plan.routes n start x old → HasReadSoFar s plan.routes n start y new) → ReadsOver plan old x new y
reads_by plan s n old new x y e f h =
    subst (λ (m : ℕ). (start : Option (List ℕ)) → HasReadSoFar plan.structure plan.routes m start x old → HasReadSoFar plan.structure plan.routes m start y new) f
    (subst (λ (t : Structure). (start : Option (List ℕ)) → HasReadSoFar t plan.routes n start x old → HasReadSoFar t plan.routes n start y new) e h)

pub writes_by : (plan : Plan) (s : Structure) (n : ℕ) (old new : EnvWorking) (x y : Option (List ℕ)) → s ≡ plan.structure → n ≡ blocks_in plan
    → ((start : Option (List ℕ)) → HasWrittenSoFar s plan.routes n start x old → HasWrittenSoFar s plan.routes n start y new) → WritesOver plan old x new y
writes_by plan s n old new x y e f h =
    subst (λ (m : ℕ). (start : Option (List ℕ)) → HasWrittenSoFar plan.structure plan.routes m start x old → HasWrittenSoFar plan.structure plan.routes m start y new) f
    (subst (λ (t : Structure). (start : Option (List ℕ)) → HasWrittenSoFar t plan.routes n start x old → HasWrittenSoFar t plan.routes n start y new) e h)

-- of drivers
unfoldable plan_by : Structure → List TableRow → List (List Rules) → ℕ → Plan
plan_by s routes rules budget = record { structure = s; routes = routes; rules = rules; budget = budget }

pub map_map : {X Y Z : Type 0} (f : Y → Z) (h : X → Y) (xs : List X) → map f (map h xs) ≡ map (λ x. f (h x)) xs
map_map f h [] = refl
map_map f h (x ∷ xs) = ap (λ zs. f (h x) ∷ zs) (map_map f h xs)

get_map : {X Y : Type 0} (f : X → Y) (xs : List X) (k : ℕ) (d : X) → get_or (map f xs) k (f d) ≡ f (get_or xs k d)
get_map f [] k d = refl
get_map f (x ∷ xs) zero d = refl
get_map f (x ∷ xs) (suc k) d = get_map f xs k d

module _ {S K I : Type 0} {F : I → Type 0} {g : _} where
  pub same_plan : (old new : System (BlockWorker S K I F g)) → IsSameSystem old new → plan_of new ≡ plan_of old
  unfolding plan_by
  same_plan old new same =
      let rules : map (λ w. block_rules (behaviours_of w)) new.blocks.items ≡ map (λ w. block_rules (behaviours_of w)) old.blocks.items =
      sym (map_map block_rules behaviours_of new.blocks.items) ∙ (ap (map block_rules) same.behaviours ∙ map_map block_rules behaviours_of old.blocks.items) in
      ap (λ (x : Structure). plan_by x new.routes (plan_of new).rules new.budget) same.checked
      ∙ (ap (λ (x : List TableRow). plan_by old.checked x (plan_of new).rules new.budget) same.routes
      ∙ (ap (λ (x : List (List Rules)). plan_by old.checked old.routes x new.budget) rules ∙ ap (λ (x : ℕ). plan_by old.checked old.routes (plan_of old).rules x) same.budget))

  fire_same : (may : ℕ → Frame → Step → Type 0) (old new : List (BlockWorker S K I F g)) → map behaviours_of new ≡ map behaviours_of old → All (λ w. CanFire may (behaviours_of w)) old → All (λ w. CanFire may (behaviours_of w)) new
  fire_same may old new same fire k d less =
      let count : length new ≡ length old = sym (length-map new behaviours_of) ∙ (ap length same ∙ length-map old behaviours_of) in
      let at : behaviours_of (get_or old k d) ≡ behaviours_of (get_or new k d) =
      sym (get_map behaviours_of old k d) ∙ (ap (λ ps. get_or ps k (behaviours_of d)) (sym same) ∙ get_map behaviours_of new k d) in
      subst (CanFire may) at (fire k d (omega arith))

  module _ (may : ℕ → Frame → Step → Type 0) (old new : Driver S K I F g) (driving : IsDriving may old) (same : IsSameSystem old.system new.system) where
    drives : IsAtWork may (plan_of old.system) (site_of new) → IsDriving may new
    drives work =
        record {
          plan = subst IsPlan (sym (same_plan old.system new.system same)) driving.plan;
          work = subst (λ (p : Plan). IsAtWork may p (site_of new)) (sym (same_plan old.system new.system same)) work;
          fire = fire_same may old.system.blocks.items new.system.blocks.items same.behaviours driving.fire;
        }

    pub block_drives : (n : ℕ) (answer : Stepped) → BlockSteps may (plan_of old.system) n answer (site_of old) (site_of new) → IsDriving may new
    block_drives n answer steps = drives (block_steps may (plan_of old.system) driving.plan n answer (site_of old) (site_of new) driving.work steps)

    pub forwarder_drives : (k : ℕ) (answer : Forwarded) → ForwarderSteps (plan_of old.system) k answer (site_of old) (site_of new) → IsDriving may new
    forwarder_drives k answer steps = drives (forwarder_steps may (plan_of old.system) driving.plan k answer (site_of old) (site_of new) driving.work steps)

    pub environment_drives : (answer : Stepped) → EnvironmentSteps (plan_of old.system) answer (site_of old) (site_of new) → IsDriving may new
    environment_drives answer steps = drives (environment_steps may (plan_of old.system) driving.plan answer (site_of old) (site_of new) driving.work steps)

  -- and one step follows another
  module _ (first now next : Driver S K I F g) (same : IsSameSystem first.system now.system) (x y z : Option (List ℕ)) where
    pub reads_on : ReadsOver (plan_of first.system) first.environment x now.environment y → ReadsOver (plan_of now.system) now.environment y next.environment z → ReadsOver (plan_of first.system) first.environment x next.environment z
    reads_on before after = λ start h. (subst (λ (p : Plan). ReadsOver p now.environment y next.environment z) (same_plan first.system now.system same) after) start (before start h)

    pub writes_on : WritesOver (plan_of first.system) first.environment x now.environment y → WritesOver (plan_of now.system) now.environment y next.environment z → WritesOver (plan_of first.system) first.environment x next.environment z
    writes_on before after = λ start h. (subst (λ (p : Plan). WritesOver p now.environment y next.environment z) (same_plan first.system now.system same) after) start (before start h)
