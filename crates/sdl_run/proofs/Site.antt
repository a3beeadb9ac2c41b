-- The site of a run in threads, at the start and when all threads are joined.
use Rattle.std.proofs.Common.{ℕ, zero, suc, ◌+◌, List, [], ◌∷◌, ◌++◌, length, map, slice_get, unwrap_or, Option, None, Some, All, ◌≡◌, refl, ap, sym, ◌∙◌, subst, arith}
use Rattle.std.proofs.lemmas.List.{length-map}
use Rattle.std.proofs.lemmas.Option.{none-some, same_Some}
use Rattle.std.proofs.lemmas.Slice.Zip.{AllZip-long}
use Rattle.std.specs.List.{AllZip}
use Rattle.sdl_signal.specs.declared.values.Item.{Item}
use Rattle.sdl_routes.specs.declared.route.Station.{Station}
use Rattle.sdl_queue.specs.declared.rest.Rest.{Rest}
use Rattle.sdl_transition_behaviour.specs.declared.step.Frame.{Frame}
use Rattle.sdl_transition_behaviour.specs.declared.step.Step.{Step}
use Rattle.sdl_transition.specs.Rules.{Rules, block_rules}
use Rattle.sdl_instances.specs.Machine.{System}
use Rattle.sdl_instances.specs.CoreOf.{CanFire}
use Rattle.sdl_instances.specs.Calls.{LeavesOthers}
use Rattle.sdl_forward_ends.specs.Ends.{WorkerEnds, IsSameEnds}
use Rattle.sdl_forward_opening.specs.Used.{AreUsed}
use Rattle.sdl_forward.specs.Boards.{lists_of}
use Rattle.sdl_forward.specs.Forwards.{Forwarding}
use Rattle.sdl_forward.specs.HandsOn.{IsHandingOn}
use Rattle.sdl_block_hand.specs.Work.{Working}
use Rattle.sdl_block_hand.specs.Apart.{IsPuttingOut}
use Rattle.sdl_block.specs.declared.worker.BlockWorker.{BlockWorker}
use Rattle.sdl_block.specs.Workers.{worker_of, behaviours_of, system_around}
use Rattle.sdl_run_outcome.specs.Plan.{Plan, blocks_in, system_at}
use Rattle.sdl_run_outcome.specs.EnvironmentWork.{EnvWorking}
use Rattle.sdl_run_order.specs.Driver.{Site, IsCoreAt}
use Rattle.sdl_run_environment.specs.EnvApart.{IsEnvPuttingOut}
use Rattle.sdl_run_driver.proofs.Driving.{system_is}
use Rattle.sdl_run_driver.proofs.Drives.{map_map}
use Rattle.sdl_run_join.specs.Back.{HaveComeBack}
use Rattle.sdl_run_threads.specs.declared.workers.BlockThread.{BlockThread}
use Rattle.sdl_run_threads.specs.declared.workers.ForwarderThread.{ForwarderThread}
use Rattle.sdl_run.specs.Sharing.{paired, block_thread, forwarder_thread}
use Rattle.sdl_run.proofs.Places.{all_places, all_of, front, behind, at_map, map_at, at_paired, zip_left, zip_map, paired_left, paired_right, paired_length}
use Rattle.sdl_run.proofs.Comes.{CameBack}

pub all_get : {X : Type 0} (P : X → Type 0) (xs : List X) → All P xs → (k : ℕ) (x : X) → slice_get xs k ≡ Some x → P x
all_get P [] h k x e = absurd (none-some x e)
all_get P (y ∷ ys) h zero x e = subst P (same_Some y x e) (h 0 y (omega arith))
all_get P (y ∷ ys) h (suc k) x e = all_get P ys (λ n z less. h (suc n) z (omega (arith, less))) k x e

used_append : (a b c d : List WorkerEnds) → AreUsed a b → AreUsed c d → AreUsed (a ++ c) (b ++ d)
used_append [] [] c d h k = k
used_append [] (x ∷ b) c d h k = absurd h
used_append (x ∷ a) [] c d h k = absurd h
used_append (x ∷ a) (y ∷ b) c d h k = (h.0, used_append a b c d h.1 k)

used_of : {A : Type 0} (R : A → A → Type 0) (f : A → WorkerEnds) → ((u v : A) → R u v → IsSameEnds (f u) (f v)) → (us vs : List A) → AllZip R us vs → AreUsed (map f us) (map f vs)
used_of R f h [] [] all = tt
used_of R f h [] (v ∷ vs) all = absurd all
used_of R f h (u ∷ us) [] all = absurd all
used_of R f h (u ∷ us) (v ∷ vs) all = (h u v all.0, used_of R f h us vs all.1)

module _ {S K I : Type 0} {F : I → Type 0} {g : _} (may : ℕ → Frame → Step → Type 0) (plan : Plan) (bs : List (BlockWorker S K I F g)) (budget : ℕ) (rules : plan.rules ≡ map (λ w. block_rules (behaviours_of w)) bs) where
  rules_here : (n : ℕ) (b : BlockWorker S K I F g) → slice_get bs n ≡ Some b → unwrap_or (slice_get plan.rules n) [] ≡ block_rules (behaviours_of b)
  rules_here n b at =
      ap (λ (rs : List (List Rules)). unwrap_or (slice_get rs n) []) rules ∙ ap (λ (o : Option (List Rules)). unwrap_or o []) (map_at (λ w. block_rules (behaviours_of w)) bs n b at)

  -- the system of a block with the behaviours of the one at this place
  pub system_here : (n : ℕ) (b v : BlockWorker S K I F g) → slice_get bs n ≡ Some b → IsCoreAt may plan n (worker_of b).core → behaviours_of v ≡ behaviours_of b → LeavesOthers (worker_of b).core (worker_of v).core
      → system_at plan n ≡ system_around v plan.routes
  system_here n b v at core same rest =
      system_is (system_at plan n) (system_around v plan.routes) (sym (rest.1 ∙ core.signals)) (sym (rest.2 ∙ core.sets)) refl
      (rules_here n b at ∙ ap (λ p. block_rules p) (sym same))

  module _ (fs : List Forwarding) (site : Site) (blocks : site.blocks ≡ map worker_of bs) (forwarders : site.forwarders ≡ fs) (all of_blocks of_forwarders : List WorkerEnds) (own : WorkerEnds)
      (cut : all ≡ of_blocks ++ own ∷ of_forwarders) (block_count : length of_blocks ≡ length bs) (forwarder_count : length of_forwarders ≡ length fs)
      (kept : HaveComeBack may plan site None all) (fire : All (λ w. CanFire may (behaviours_of w)) bs) where
    numbers : blocks_in plan ≡ length of_blocks
    numbers = sym (block_count ∙ (sym (length-map bs worker_of) ∙ (sym (ap length blocks) ∙ kept.blocks)))

    core_here : (n : ℕ) (b : BlockWorker S K I F g) → slice_get bs n ≡ Some b → IsCoreAt may plan n (worker_of b).core
    core_here n b at = kept.cores n (worker_of b) (ap (λ (ws : List Working). slice_get ws n) blocks ∙ map_at worker_of bs n b at)

    end_of_block : (n : ℕ) (e : WorkerEnds) → slice_get of_blocks n ≡ Some e → slice_get all n ≡ Some e
    end_of_block n e at = ap (λ (xs : List WorkerEnds). slice_get xs n) cut ∙ front of_blocks (own ∷ of_forwarders) n e at

    end_of_forwarder : (k : ℕ) (e : WorkerEnds) → slice_get of_forwarders k ≡ Some e → slice_get all (blocks_in plan + 1 + k) ≡ Some e
    end_of_forwarder k e at =
        ap (λ (xs : List WorkerEnds). slice_get xs (blocks_in plan + 1 + k)) cut
        ∙ (behind of_blocks (own ∷ of_forwarders) (blocks_in plan + 1 + k) (suc k) (let a = numbers in omega (arith, a)) ∙ at)

    end_of_environment : slice_get all (blocks_in plan) ≡ Some own
    end_of_environment = ap (λ (xs : List WorkerEnds). slice_get xs (blocks_in plan)) cut ∙ behind of_blocks (own ∷ of_forwarders) (blocks_in plan) 0 (let a = numbers in omega (arith, a))

    -- at the start each block keeps what its steps keep
    pub block_starts : (n : ℕ) (b : BlockWorker S K I F g) (e : WorkerEnds) → slice_get bs n ≡ Some b → slice_get of_blocks n ≡ Some e
        → CanFire may (behaviours_of b) × IsPuttingOut may (system_around b plan.routes) (worker_of b) e
    block_starts n b e at own_end = (
      all_get (λ w. CanFire may (behaviours_of w)) bs fire n b at,
      subst (λ (sys : System). IsPuttingOut may sys (worker_of b) e) (system_here n b b at (core_here n b at) refl (refl, refl, refl, refl))
          (kept.puts n (worker_of b) e (ap (λ (ws : List Working). slice_get ws n) blocks ∙ map_at worker_of bs n b at) (end_of_block n e own_end)),
    )

    -- and each forwarder, and the environment
    pub forwarder_starts : (k : ℕ) (f : Forwarding) (e : WorkerEnds) → slice_get fs k ≡ Some f → slice_get of_forwarders k ≡ Some e → IsHandingOn plan.routes f e
    forwarder_starts k f e at own_end = kept.forwarders k f e (ap (λ (xs : List Forwarding). slice_get xs k) forwarders ∙ at) (end_of_forwarder k e own_end)

    pub environment_starts : IsEnvPuttingOut plan.structure plan.routes (blocks_in plan) site.environment None own
    environment_starts = kept.environment own end_of_environment

    -- when all have come back
    module _ (keeps_block : BlockThread S K I F g → Type 0) (same_block : BlockThread S K I F g → BlockThread S K I F g → Type 0) (keeps_forwarder : ForwarderThread → Type 0) (same_forwarder : ForwarderThread → ForwarderThread → Type 0)
        (block_keeps : (v : BlockThread S K I F g) → keeps_block v → CanFire may (behaviours_of v.block) × IsPuttingOut may (system_around v.block plan.routes) (worker_of v.block) v.ends)
        (block_same : (u v : BlockThread S K I F g) → same_block u v → (behaviours_of v.block ≡ behaviours_of u.block) × (LeavesOthers (worker_of u.block).core (worker_of v.block).core × IsSameEnds u.ends v.ends))
        (forwarder_keeps : (v : ForwarderThread) → keeps_forwarder v → IsHandingOn plan.routes v.forwarder v.ends)
        (forwarder_same : (u v : ForwarderThread) → same_forwarder u v → (v.forwarder.hop ≡ u.forwarder.hop) × IsSameEnds u.ends v.ends)
        (came : List (BlockThread S K I F g)) (lines : List ForwarderThread) (blocks_came : AllZip (CameBack keeps_block same_block) (paired (block_thread budget) bs of_blocks) came)
        (lines_came : AllZip (CameBack keeps_forwarder same_forwarder) (paired forwarder_thread fs of_forwarders) lines)
        (environment : EnvWorking) (astray : Option Item) (own_now : WorkerEnds) (rests : List (Station × Rest)) (environment_came : IsEnvPuttingOut plan.structure plan.routes (blocks_in plan) environment astray own_now) (same_own : IsSameEnds own own_now) where
      abbrev pub now : List WorkerEnds
      now = map (λ (t : BlockThread S K I F g). t.ends) came ++ own_now ∷ map (λ (t : ForwarderThread). t.ends) lines

      abbrev pub joined : Site
      joined =
          record {
            blocks = map worker_of (map (λ (t : BlockThread S K I F g). t.block) came);
            environment = environment;
            forwarders = map (λ (t : ForwarderThread). t.forwarder) lines;
            board = lists_of rests;
          }

      -- which block came back at a place
      pub block_at : (n : ℕ) (v : BlockThread S K I F g) → slice_get came n ≡ Some v
          → (b : BlockWorker S K I F g) × (slice_get bs n ≡ Some b) × keeps_block v × (behaviours_of v.block ≡ behaviours_of b) × LeavesOthers (worker_of b).core (worker_of v.block).core
      block_at n v at =
          let (u, found, kept_u) = zip_left _ (paired (block_thread budget) bs of_blocks) came blocks_came n v at in
          let (b, e, at_b, at_e, is) = at_paired (block_thread budget) bs of_blocks n u found in
          let same = block_same (block_thread budget b e) v (subst (λ (x : BlockThread S K I F g). same_block x v) (sym is) kept_u.1) in
          (b, at_b, kept_u.0, same.0, same.1.0)

      forwarder_at : (k : ℕ) (v : ForwarderThread) → slice_get lines k ≡ Some v → keeps_forwarder v
      forwarder_at k v at =
          let (u, found, kept_u) = zip_left _ (paired forwarder_thread fs of_forwarders) lines lines_came k v at in
          kept_u.0

      came_count : length came ≡ length bs
      came_count = AllZip-long _ (paired (block_thread budget) bs of_blocks) came blocks_came ∙ paired_length (block_thread budget) bs of_blocks block_count

      end_now : (n : ℕ) (v : BlockThread S K I F g) (e : WorkerEnds) → slice_get came n ≡ Some v → slice_get now n ≡ Some e → v.ends ≡ e
      end_now n v e at at_e =
          same_Some v.ends e
          (sym (front (map (λ (t : BlockThread S K I F g). t.ends) came) (own_now ∷ map (λ (t : ForwarderThread). t.ends) lines) n v.ends (map_at (λ (t : BlockThread S K I F g). t.ends) came n v at)) ∙ at_e)

      came_numbers : blocks_in plan ≡ length (map (λ (t : BlockThread S K I F g). t.ends) came)
      came_numbers = numbers ∙ (block_count ∙ (sym came_count ∙ sym (length-map came (λ (t : BlockThread S K I F g). t.ends))))

      own_is : (e : WorkerEnds) → slice_get now (blocks_in plan) ≡ Some e → own_now ≡ e
      own_is e at =
          same_Some own_now e
          (sym (behind (map (λ (t : BlockThread S K I F g). t.ends) came) (own_now ∷ map (λ (t : ForwarderThread). t.ends) lines) (blocks_in plan) 0 (let a = came_numbers in omega (arith, a))) ∙ at)

      line_end : (k : ℕ) (v : ForwarderThread) (e : WorkerEnds) → slice_get lines k ≡ Some v → slice_get now (blocks_in plan + 1 + k) ≡ Some e → v.ends ≡ e
      line_end k v e at at_e =
          same_Some v.ends e
          (sym (behind (map (λ (t : BlockThread S K I F g). t.ends) came) (own_now ∷ map (λ (t : ForwarderThread). t.ends) lines) (blocks_in plan + 1 + k) (suc k) (let a = came_numbers in omega (arith, a))
          ∙ map_at (λ (t : ForwarderThread). t.ends) lines k v at)
          ∙ at_e)

      -- what a block that came back keeps, in the plan's words
      puts_now : (n : ℕ) (v : BlockThread S K I F g) → slice_get came n ≡ Some v → IsCoreAt may plan n (worker_of v.block).core × IsPuttingOut may (system_at plan n) (worker_of v.block) v.ends
      puts_now n v at =
          let (b, at_b, kept_v, same, rest) = block_at n v at in
          let core = core_here n b at_b in
          let putting = subst (λ (sys : System). IsPuttingOut may sys (worker_of v.block) v.ends) (sym (system_here n b v.block at_b core same rest)) (block_keeps v kept_v).1 in (
            record {
              block = rest.0 ∙ core.block;
              signals = rest.1 ∙ core.signals;
              sets = rest.2 ∙ core.sets;
              budget = rest.3 ∙ core.budget;
              sound = putting.sound;
            },
            putting,
          )

      pub behaviours_now : map behaviours_of (map (λ (t : BlockThread S K I F g). t.block) came) ≡ map behaviours_of bs
      behaviours_now =
          map_map behaviours_of (λ (t : BlockThread S K I F g). t.block) came
          ∙ (zip_map _ (λ (t : BlockThread S K I F g). behaviours_of t.block) (λ (t : BlockThread S K I F g). behaviours_of t.block) (paired (block_thread budget) bs of_blocks) came (λ u v r. (block_same u v r.1).0) blocks_came
          ∙ (sym (map_map behaviours_of (λ (t : BlockThread S K I F g). t.block) (paired (block_thread budget) bs of_blocks))
          ∙ ap (map behaviours_of) (paired_left (block_thread budget) (λ (t : BlockThread S K I F g). t.block) (λ x e. refl) bs of_blocks block_count)))

      pub hops_now : map (λ (f : Forwarding). f.hop) (map (λ (t : ForwarderThread). t.forwarder) lines) ≡ map (λ (f : Forwarding). f.hop) fs
      hops_now =
          map_map (λ (f : Forwarding). f.hop) (λ (t : ForwarderThread). t.forwarder) lines
          ∙ (zip_map _ (λ (t : ForwarderThread). t.forwarder.hop) (λ (t : ForwarderThread). t.forwarder.hop) (paired forwarder_thread fs of_forwarders) lines (λ u v r. (forwarder_same u v r.1).0) lines_came
          ∙ (sym (map_map (λ (f : Forwarding). f.hop) (λ (t : ForwarderThread). t.forwarder) (paired forwarder_thread fs of_forwarders))
          ∙ ap (map (λ (f : Forwarding). f.hop)) (paired_left forwarder_thread (λ (t : ForwarderThread). t.forwarder) (λ x e. refl) fs of_forwarders forwarder_count)))

      pub fires_now : All (λ w. CanFire may (behaviours_of w)) (map (λ (t : BlockThread S K I F g). t.block) came)
      fires_now =
          all_of (λ w. CanFire may (behaviours_of w)) (map (λ (t : BlockThread S K I F g). t.block) came)
          (all_places (λ w. CanFire may (behaviours_of w)) (map (λ (t : BlockThread S K I F g). t.block) came)
          (λ k w at.
          let (v, at_v, is) = at_map (λ (t : BlockThread S K I F g). t.block) came k w at in
          let (b, at_b, kept_v, same, rest) = block_at k v at_v in
          subst (λ (x : BlockWorker S K I F g). CanFire may (behaviours_of x)) is (block_keeps v kept_v).0))

      pub used : AreUsed all now
      used =
          subst (λ (xs : List WorkerEnds). AreUsed xs now) (sym cut)
          (used_append of_blocks (map (λ (t : BlockThread S K I F g). t.ends) came) (own ∷ of_forwarders) (own_now ∷ map (λ (t : ForwarderThread). t.ends) lines)
          (subst (λ (xs : List WorkerEnds). AreUsed xs (map (λ (t : BlockThread S K I F g). t.ends) came)) (paired_right (block_thread budget) (λ (t : BlockThread S K I F g). t.ends) (λ x e. refl) bs of_blocks block_count)
          (used_of _ (λ (t : BlockThread S K I F g). t.ends) (λ u v r. (block_same u v r.1).1.1) (paired (block_thread budget) bs of_blocks) came blocks_came)) (
            same_own,
            subst (λ (xs : List WorkerEnds). AreUsed xs (map (λ (t : ForwarderThread). t.ends) lines)) (paired_right forwarder_thread (λ (t : ForwarderThread). t.ends) (λ x e. refl) fs of_forwarders forwarder_count)
                (used_of _ (λ (t : ForwarderThread). t.ends) (λ u v r. (forwarder_same u v r.1).1) (paired forwarder_thread fs of_forwarders) lines lines_came),
          ))

      pub come_back : HaveComeBack may plan joined astray now
      come_back =
          record {
            blocks = length-map (map (λ (t : BlockThread S K I F g). t.block) came) worker_of ∙ (length-map came (λ (t : BlockThread S K I F g). t.block) ∙ (came_count ∙ (sym block_count ∙ sym numbers)));
            cores = λ n w at.
                let (b, at_b, is) = at_map worker_of (map (λ (t : BlockThread S K I F g). t.block) came) n w at in
                let (v, at_v, is_v) = at_map (λ (t : BlockThread S K I F g). t.block) came n b at_b in
                subst (λ (x : Working). IsCoreAt may plan n x.core) (ap worker_of is_v ∙ is) (puts_now n v at_v).0;
            puts = λ n w e at at_e.
                let (b, at_b, is) = at_map worker_of (map (λ (t : BlockThread S K I F g). t.block) came) n w at in
                let (v, at_v, is_v) = at_map (λ (t : BlockThread S K I F g). t.block) came n b at_b in
                subst (λ (x : Working). IsPuttingOut may (system_at plan n) x e) (ap worker_of is_v ∙ is)
                (subst (λ (x : WorkerEnds). IsPuttingOut may (system_at plan n) (worker_of v.block) x) (end_now n v e at_v at_e) (puts_now n v at_v).1);
            environment = λ e at. subst (λ (x : WorkerEnds). IsEnvPuttingOut plan.structure plan.routes (blocks_in plan) environment astray x) (own_is e at) environment_came;
            hops = hops_now ∙ (sym (ap (map (λ (f : Forwarding). f.hop)) forwarders) ∙ kept.hops);
            forwarders = λ k f e at at_e.
                let (v, at_v, is) = at_map (λ (t : ForwarderThread). t.forwarder) lines k f at in
                subst (λ (x : Forwarding). IsHandingOn plan.routes x e) is
                (subst (λ (x : WorkerEnds). IsHandingOn plan.routes v.forwarder x) (line_end k v e at_v at_e) (forwarder_keeps v (forwarder_at k v at_v)));
          }
