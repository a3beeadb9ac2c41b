-- All workers of a run in threads: before its first step, and when all have come back.
use Rattle.std.proofs.Common.{ℕ, ◌+◌, ◌<◌, ◌≤◌, List, [], ◌∷◌, ◌++◌, length, map, slice_get, Option, None, Some, Bool, true, All, ◌≡◌, refl, ap, sym, ◌∙◌, subst, true≢false, MatchOption, arith}
use Rattle.std.proofs.lemmas.List.{length-map, length-append}
use Rattle.std.proofs.lemmas.Option.{none-some}
use Rattle.std.proofs.lemmas.Slice.Zip.{AllZip-long}
use Rattle.std.specs.List.{AllByRecursion, AllZip}
use Rattle.std.specs.Option.{is_some}
use Rattle.std.specs.Prelude.{⊤}
use Rattle.sdl_signal.specs.declared.values.Item.{Item}
use Rattle.sdl_structure_parts.specs.Structure.{Structure, IsStructure}
use Rattle.sdl_routes.specs.declared.route.TableRow.{TableRow}
use Rattle.sdl_routes.specs.declared.route.Station.{Station}
use Rattle.sdl_routes.specs.Table.{IsTable}
use Rattle.sdl_queue.specs.declared.rest.Rest.{Rest}
use Rattle.sdl_transition_behaviour.specs.declared.step.Frame.{Frame}
use Rattle.sdl_transition_behaviour.specs.declared.step.Step.{Step}
use Rattle.sdl_transition.specs.Bound.{AreOneSystem}
use Rattle.sdl_instances.specs.CoreOf.{CanFire}
use Rattle.sdl_forward_ends.specs.Ends.{WorkerEnds, IsSameEnds, AreRejoined}
use Rattle.sdl_forward_opening.specs.Opens.{AreOpen}
use Rattle.sdl_forward_opening.specs.Workers.{workers_in}
use Rattle.sdl_forward_opening.specs.Used.{AreUsed}
use Rattle.sdl_forward.specs.Boards.{lists_of}
use Rattle.sdl_forward.specs.Forwards.{Forwarding}
use Rattle.sdl_forward.specs.HandsOn.{IsHandingOn}
use Rattle.sdl_block_hand.specs.Apart.{IsPuttingOut}
use Rattle.sdl_block.specs.declared.worker.BlockWorker.{BlockWorker}
use Rattle.sdl_block.specs.Workers.{worker_of, behaviours_of, system_around}
use Rattle.sdl_run_outcome.specs.Plan.{Plan, IsPlan, delaying_from, workers_of}
use Rattle.sdl_run_outcome.specs.EnvironmentWork.{EnvWorking, IsEnvFresh, HasReadSoFar, HasWrittenSoFar}
use Rattle.sdl_run_order.specs.Driver.{Site, IsAtWork}
use Rattle.sdl_run_environment.specs.EnvApart.{IsEnvPuttingOut}
use Rattle.sdl_run_driver.specs.declared.driver.Driver.{Driver}
use Rattle.sdl_run_driver.specs.declared.parked.Parked.{Parked}
use Rattle.sdl_run_driver.specs.declared.system.System.{System}
use Rattle.sdl_run_driver.specs.Drivers.{site_of}
use Rattle.sdl_run_driver.specs.Stopped.{site_of_parked, IsParked}
use Rattle.sdl_run_driver.specs.Systems.{plan_of}
use Rattle.sdl_run_driver.proofs.Drives.{same_plan, workers_few}
use Rattle.sdl_run_driver.proofs.Readings.{reads_none, writes_none}
use Rattle.sdl_run_join.specs.Back.{HaveComeBack, AreNew}
use Rattle.sdl_run_serial.specs.Starting.{idle_at}
use Rattle.sdl_run_serial.proofs.Fresh.{started_count}
use Rattle.sdl_run_threads.specs.declared.workers.BlockThread.{BlockThread}
use Rattle.sdl_run_threads.specs.declared.workers.ForwarderThread.{ForwarderThread}
use Rattle.sdl_run_threads.specs.declared.work.Returned.{Returned}
use Rattle.sdl_run_threads.specs.declared.kinds.Kind.{Kind}
use Rattle.sdl_run_threads.specs.declared.kinds.Kind.TheVariants.{Block, Forwarder}
use Rattle.sdl_run_threads.specs.Back.{ComesFrom, worker_in}
use Rattle.sdl_run_threads.specs.Kinds.{KeepsOneOf, SameOneOf}
use Rattle.sdl_run_threads.specs.Workers.{IsSameBlock, IsSameForwarder}
use Rattle.sdl_run.specs.Sharing.{paired, block_thread, forwarder_thread, GivesOut}
use Rattle.sdl_run_settling.specs.Coming.{blocks_back, forwarders_back, ends_back}
use Rattle.sdl_run.specs.Environment.{KeepsEnvironment}
use Rattle.sdl_run.proofs.Places.{all_places, all_of, at_paired, paired_length}
use Rattle.sdl_run.proofs.Comes.{CameBack, all_come}
use Rattle.sdl_run.specs.declared.room.Opened.{Opened}
use Rattle.sdl_run.specs.Room.{IsReadyToRun}
use Rattle.sdl_run.proofs.Begin.{are_new, ends_count}
use Rattle.sdl_run.proofs.Site as site

all_over : {X : Type 0} (P : X → Type 0) (xs ys : List X) → AllByRecursion P xs → AllByRecursion P ys → AllByRecursion P (xs ++ ys)
all_over P [] ys h k = k
all_over P (x ∷ xs) ys h k = (h.0, all_over P xs ys h.1 k)

all_mapped : {X Y : Type 0} (P : Y → Type 0) (f : X → Y) (xs : List X) → AllByRecursion (λ x. P (f x)) xs → AllByRecursion P (map f xs)
all_mapped P f [] h = tt
all_mapped P f (x ∷ xs) h = (h.0, all_mapped P f xs h.1)

-- there is nothing where there is none
pub some_none : {X : Type 0} (o : Option X) (b : Bool) → o ≡ None → b ≡ is_some o → b ≡ true → ⊥
some_none None b e f h = true≢false (sym h ∙ f)
some_none (Some x) b e f h = absurd (none-some x (sym e))

-- the worker that is named is one of so many
pub named_next : (P : Type 0) (n : ℕ) (o first : Option ℕ) (m : ℕ) → o ≡ first → MatchOption first P (λ v. v ≤ m) → m < n → MatchOption o ⊤ (λ v. v < n)
named_next P n o None m e all less = subst (λ (x : Option ℕ). MatchOption x ⊤ (λ v. v < n)) (sym e) tt
named_next P n o (Some v) m e is less = subst (λ (x : Option ℕ). MatchOption x ⊤ (λ v. v < n)) (sym e) (omega (arith, is, less))

pub kept_as : (s : Structure) (rows : List TableRow) (w : EnvWorking) (a : Option Item) (ends : WorkerEnds) (x from y to z start v end : Option (List ℕ)) → x ≡ from → y ≡ to → z ≡ start → v ≡ end
    → KeepsEnvironment s rows w a ends x y z v → KeepsEnvironment s rows w a ends from to start end
kept_as s rows w a ends x from y to z start v end e f h i kept =
    subst (λ x'. KeepsEnvironment s rows w a ends x' to start end) e
    (subst (λ y'. KeepsEnvironment s rows w a ends x y' start end) f
    (subst (λ z'. KeepsEnvironment s rows w a ends x y z' end) h
    (subst (λ v'. KeepsEnvironment s rows w a ends x y z v') i kept)))

-- what was read and written, said of what is the same
pub read_on : (s t : Structure) (rows : List TableRow) (w v : EnvWorking) (x from y to : Option (List ℕ)) → s ≡ t → w ≡ v → x ≡ from → y ≡ to → HasReadSoFar s rows (length s.blocks) x y w → HasReadSoFar t rows (length t.blocks) from to v
read_on s t rows w v x from y to e f h i read =
    subst (λ s'. HasReadSoFar s' rows (length s'.blocks) from to v) e
    (subst (λ w'. HasReadSoFar s rows (length s.blocks) from to w') f
    (subst (λ x'. HasReadSoFar s rows (length s.blocks) x' to w) h
    (subst (λ y'. HasReadSoFar s rows (length s.blocks) x y' w) i read)))

pub written_on : (s t : Structure) (rows : List TableRow) (w v : EnvWorking) (x from y to : Option (List ℕ)) → s ≡ t → w ≡ v → x ≡ from → y ≡ to → HasWrittenSoFar s rows (length s.blocks) x y w → HasWrittenSoFar t rows (length t.blocks) from to v
written_on s t rows w v x from y to e f h i wrote =
    subst (λ s'. HasWrittenSoFar s' rows (length s'.blocks) from to v) e
    (subst (λ w'. HasWrittenSoFar s rows (length s.blocks) from to w') f
    (subst (λ x'. HasWrittenSoFar s rows (length s.blocks) x' to w) h
    (subst (λ y'. HasWrittenSoFar s rows (length s.blocks) x y' w) i wrote)))

-- a worker that was taken out of what came back
pub came_back : {W : Type 0} (keeps : W → Type 0) (same : W → W → Type 0) (old : W) (r : Returned W) (w : W) → w ≡ worker_in r → ComesFrom keeps same old r → keeps w × same old w
came_back keeps same old r w e h = (subst keeps (sym e) h.sound, subst (same old) (sym e) h.own)

-- what the environment keeps, said of what is the same
pub environment_as : (s t : Structure) (rows table : List TableRow) (w v : EnvWorking) (a b : Option Item) (ends : WorkerEnds) (x from y to : Option (List ℕ)) → s ≡ t → rows ≡ table → w ≡ v → a ≡ b → x ≡ from → y ≡ to
    → KeepsEnvironment t table v b ends from from to to → KeepsEnvironment s rows w a ends x from y to
environment_as s t rows table w v a b ends x from y to e f h i j k kept =
    subst (λ s'. KeepsEnvironment s' rows w a ends x from y to) (sym e)
    (subst (λ r. KeepsEnvironment t r w a ends x from y to) (sym f)
    (subst (λ w'. KeepsEnvironment t table w' a ends x from y to) (sym h)
    (subst (λ a'. KeepsEnvironment t table v a' ends x from y to) (sym i)
    (subst (λ x'. KeepsEnvironment t table v b ends x' from y to) (sym j)
    (subst (λ y'. KeepsEnvironment t table v b ends from from y' to) (sym k) kept)))))

-- the workers that start, as a driver of one thread has them
abbrev pub started : {S K I : Type 0} {F : I → Type 0} {g : _} → System (BlockWorker S K I F g) → Opened S K I F g → Driver S K I F g
started x o = record { system = x; environment = o.environment; forwarders = o.forwarders; board = [] }

module _ {S K I : Type 0} {F : I → Type 0} {g : _} (may : ℕ → Frame → Step → Type 0) (x : System (BlockWorker S K I F g)) (o : Opened S K I F g) where
  abbrev d : Driver S K I F g
  d = started x o

  abbrev pub KeepsBlock : BlockThread S K I F g → Type 0
  KeepsBlock w = CanFire may (behaviours_of w.block) × IsPuttingOut may (system_around w.block d.system.routes) (worker_of w.block) w.ends

  abbrev pub KeepsForwarder : ForwarderThread → Type 0
  KeepsForwarder w = IsHandingOn d.system.routes w.forwarder w.ends

  module _ (ready : IsReadyToRun may x o)
      (keep : (plan : Plan) (site : Site) (all : List WorkerEnds) (shelf : List (Station × ℕ)) → IsPlan plan → AreOpen plan.structure plan.routes all shelf → AreNew may plan site → HaveComeBack may plan site None all) where
    abbrev all : List WorkerEnds
    all = o.ends.items

    abbrev shelf : List (Station × ℕ)
    shelf = o.shelf

    abbrev structure : IsStructure d.system.checked
    structure = ready.started.structure

    abbrev table : IsTable d.system.routes
    table = ready.started.table

    abbrev system : AreOneSystem may d.system.checked d.system.routes (map behaviours_of d.system.blocks.items)
    system = ready.started.system

    abbrev fire : All (λ w. CanFire may (behaviours_of w)) d.system.blocks.items
    fire = ready.started.fire

    abbrev environment : IsEnvFresh (length d.system.checked.blocks) d.environment
    environment = ready.opened.environment

    abbrev forwarders : d.forwarders.items ≡ map idle_at (delaying_from 0 d.system.checked.channels)
    forwarders = ready.opened.forwarders

    abbrev opened : AreOpen d.system.checked d.system.routes all shelf
    opened = ready.opened.opening

    pub is_plan : IsPlan (plan_of d.system)
    is_plan = record { structure = structure; routes = system.routes_are; table = table }

    kept : HaveComeBack may (plan_of d.system) (site_of d) None all
    kept = keep (plan_of d.system) (site_of d) all shelf is_plan opened (are_new may d ready.started environment forwarders)

    pub blocks_known : length d.system.blocks.items ≡ length d.system.checked.blocks
    blocks_known = started_count may d.system ready.started

    -- there are ends for each block, each forwarder and the environment
    pub ends_enough : length all ≡ length d.system.blocks.items + (length d.forwarders.items + 1)
    ends_enough = (let a = ends_count d.system.checked d.system.routes all shelf d.forwarders.items opened forwarders in let b = blocks_known in omega (arith, a, b))

    pub few_workers : length d.system.blocks.items + length d.forwarders.items ≤ 192
    few_workers = (let a = ends_enough in let b = workers_few (plan_of d.system) is_plan in let c = opened.number in omega (arith, a, b, c))

    module _ (ws : List (Kind (BlockThread S K I F g) ForwarderThread)) (own : WorkerEnds) (given : GivesOut d.system.budget d.system.blocks.items d.forwarders.items all ws own) where
      -- each worker keeps at the start what its steps keep
      block_keeps : (k : ℕ) (w : BlockThread S K I F g) → slice_get (paired (block_thread d.system.budget) d.system.blocks.items given.of_blocks) k ≡ Some w → KeepsBlock w
      block_keeps k w at =
          let (b, e, at_b, at_e, is) = at_paired (block_thread d.system.budget) d.system.blocks.items given.of_blocks k w at in
          subst (λ v. KeepsBlock v) is
          (site.block_starts may (plan_of d.system) d.system.blocks.items d.system.budget refl d.forwarders.items (site_of d) refl refl all given.of_blocks given.of_forwarders own given.cut given.block_count given.forwarder_count kept fire k b e at_b at_e)

      forwarder_keeps : (k : ℕ) (w : ForwarderThread) → slice_get (paired forwarder_thread d.forwarders.items given.of_forwarders) k ≡ Some w → KeepsForwarder w
      forwarder_keeps k w at =
          let (f, e, at_f, at_e, is) = at_paired forwarder_thread d.forwarders.items given.of_forwarders k w at in
          subst (λ v. KeepsForwarder v) is
          (site.forwarder_starts may (plan_of d.system) d.system.blocks.items d.system.budget refl d.forwarders.items (site_of d) refl refl all given.of_blocks given.of_forwarders own given.cut given.block_count given.forwarder_count kept fire k f e at_f at_e)

      pub workers_keep : All (KeepsOneOf KeepsBlock KeepsForwarder) ws
      workers_keep =
          let bs = paired (block_thread d.system.budget) d.system.blocks.items given.of_blocks in
          let fs = paired forwarder_thread d.forwarders.items given.of_forwarders in
          subst (All (KeepsOneOf KeepsBlock KeepsForwarder)) (sym given.workers_are)
          (all_of (KeepsOneOf KeepsBlock KeepsForwarder) (map Block bs ++ map Forwarder fs)
          (all_over (KeepsOneOf KeepsBlock KeepsForwarder) (map Block bs) (map Forwarder fs)
          (all_mapped (KeepsOneOf KeepsBlock KeepsForwarder) Block bs (all_places KeepsBlock bs block_keeps))
          (all_mapped (KeepsOneOf KeepsBlock KeepsForwarder) Forwarder fs (all_places KeepsForwarder fs forwarder_keeps))))

      pub environment_keeps : (from to : Option (List ℕ)) → KeepsEnvironment d.system.checked d.system.routes d.environment None own from from to to
      environment_keeps from to =
          record {
            structure = structure;
            routes = system.routes_are;
            putting = site.environment_starts may (plan_of d.system) d.system.blocks.items d.system.budget refl d.forwarders.items (site_of d) refl refl all given.of_blocks given.of_forwarders own given.cut given.block_count given.forwarder_count kept fire;
            reading = reads_none d.system.checked d.system.routes (length d.system.checked.blocks) d.environment environment from;
            writing = writes_none d.system.checked d.system.routes (length d.system.checked.blocks) d.environment environment to;
          }

      pub workers_number : length ws ≡ length d.system.blocks.items + length d.forwarders.items
      workers_number =
          let bs = paired (block_thread d.system.budget) d.system.blocks.items given.of_blocks in
          let fs = paired forwarder_thread d.forwarders.items given.of_forwarders in
          let a = ap length given.workers_are in
          let b = length-append (map Block bs) (map Forwarder fs) in
          let c = length-map {B = Kind (BlockThread S K I F g) ForwarderThread} bs Block in
          let e = length-map {B = Kind (BlockThread S K I F g) ForwarderThread} fs Forwarder in
          let f = paired_length (block_thread d.system.budget) d.system.blocks.items given.of_blocks given.block_count in
          let h = paired_length forwarder_thread d.forwarders.items given.of_forwarders given.forwarder_count in
          omega (arith, a, b, c, e, f, h)

      -- when all have come back
      module _ (done : List (Returned (Kind (BlockThread S K I F g) ForwarderThread))) (came : AllZip (ComesFrom (KeepsOneOf KeepsBlock KeepsForwarder) (SameOneOf IsSameBlock IsSameForwarder)) ws done)
          (now : EnvWorking) (astray : Option Item) (own_now : WorkerEnds) (environment_came : IsEnvPuttingOut d.system.checked d.system.routes (length d.system.checked.blocks) now astray own_now) (same_own : IsSameEnds own own_now) where
        pairs : AllZip (CameBack KeepsBlock IsSameBlock) (paired (block_thread d.system.budget) d.system.blocks.items given.of_blocks) (blocks_back done)
            × AllZip (CameBack KeepsForwarder IsSameForwarder) (paired forwarder_thread d.forwarders.items given.of_forwarders) (forwarders_back done)
        pairs =
            all_come KeepsBlock IsSameBlock KeepsForwarder IsSameForwarder (paired (block_thread d.system.budget) d.system.blocks.items given.of_blocks) (paired forwarder_thread d.forwarders.items given.of_forwarders) done
            (subst (λ us. AllZip (ComesFrom (KeepsOneOf KeepsBlock KeepsForwarder) (SameOneOf IsSameBlock IsSameForwarder)) us done) given.workers_are came)

        pub done_number : length done ≡ length d.system.blocks.items + length d.forwarders.items
        done_number = AllZip-long _ ws done came ∙ workers_number

        pub blocks_number : length (blocks_back done) ≡ length d.system.blocks.items
        blocks_number = (let a = AllZip-long _ (paired (block_thread d.system.budget) d.system.blocks.items given.of_blocks) (blocks_back done) pairs.0 in let b = paired_length (block_thread d.system.budget) d.system.blocks.items given.of_blocks given.block_count in omega (arith, a, b))

        pub lines_number : length (forwarders_back done) ≡ length d.forwarders.items
        lines_number = (let a = AllZip-long _ (paired forwarder_thread d.forwarders.items given.of_forwarders) (forwarders_back done) pairs.1 in let b = paired_length forwarder_thread d.forwarders.items given.of_forwarders given.forwarder_count in omega (arith, a, b))

        -- the lemmas of the site, of these workers
        pub used_now : AreUsed all (ends_back own_now done)
        used_now = site.used
            may (plan_of d.system) d.system.blocks.items d.system.budget refl d.forwarders.items (site_of d) refl refl all given.of_blocks given.of_forwarders own given.cut given.block_count given.forwarder_count kept fire
            KeepsBlock IsSameBlock KeepsForwarder IsSameForwarder (λ v k. k) (λ u v s. (s.parts, (s.rest, s.ends))) (λ v k. k) (λ u v s. (s.hop, s.ends)) (blocks_back done) (forwarders_back done) pairs.0 pairs.1 now astray own_now [] environment_came same_own

        behaviours_now : map behaviours_of (map (λ (t : BlockThread S K I F g). t.block) (blocks_back done)) ≡ map behaviours_of d.system.blocks.items
        behaviours_now = site.behaviours_now
            may (plan_of d.system) d.system.blocks.items d.system.budget refl d.forwarders.items (site_of d) refl refl all given.of_blocks given.of_forwarders own given.cut given.block_count given.forwarder_count kept fire
            KeepsBlock IsSameBlock KeepsForwarder IsSameForwarder (λ v k. k) (λ u v s. (s.parts, (s.rest, s.ends))) (λ v k. k) (λ u v s. (s.hop, s.ends)) (blocks_back done) (forwarders_back done) pairs.0 pairs.1 now astray own_now [] environment_came same_own

        fires_now : All (λ w. CanFire may (behaviours_of w)) (map (λ (t : BlockThread S K I F g). t.block) (blocks_back done))
        fires_now = site.fires_now
            may (plan_of d.system) d.system.blocks.items d.system.budget refl d.forwarders.items (site_of d) refl refl all given.of_blocks given.of_forwarders own given.cut given.block_count given.forwarder_count kept fire
            KeepsBlock IsSameBlock KeepsForwarder IsSameForwarder (λ v k. k) (λ u v s. (s.parts, (s.rest, s.ends))) (λ v k. k) (λ u v s. (s.hop, s.ends)) (blocks_back done) (forwarders_back done) pairs.0 pairs.1 now astray own_now [] environment_came same_own

        module _ (rests : List (Station × Rest)) (rejoined : AreRejoined (ends_back own_now done) (map (λ (x : Station × ℕ). x.0) shelf) rests) where
          abbrev joined : Site
          joined =
              record {
                blocks = map worker_of (map (λ (t : BlockThread S K I F g). t.block) (blocks_back done));
                environment = now;
                forwarders = map (λ (t : ForwarderThread). t.forwarder) (forwarders_back done);
                board = lists_of rests;
              }

          back : HaveComeBack may (plan_of d.system) joined astray (ends_back own_now done)
          back = site.come_back
              may (plan_of d.system) d.system.blocks.items d.system.budget refl d.forwarders.items (site_of d) refl refl all given.of_blocks given.of_forwarders own given.cut given.block_count given.forwarder_count kept fire
              KeepsBlock IsSameBlock KeepsForwarder IsSameForwarder (λ v k. k) (λ u v s. (s.parts, (s.rest, s.ends))) (λ v k. k) (λ u v s. (s.hop, s.ends)) (blocks_back done) (forwarders_back done) pairs.0 pairs.1 now astray own_now rests environment_came same_own

          pub none : ((plan : Plan) (site : Site) (astray : Option Item) (all now : List WorkerEnds) (shelf : List (Station × ℕ)) (rests : List (Station × Rest)) → IsPlan plan → AreOpen plan.structure plan.routes all shelf → AreUsed all now
              → AreRejoined now (map (λ (x : Station × ℕ). x.0) shelf) rests → site.board ≡ lists_of rests → HaveComeBack may plan site astray now → astray ≡ None) → astray ≡ None
          none strays = strays (plan_of d.system) joined astray all (ends_back own_now done) shelf rests is_plan opened used_now rejoined refl back

          -- they stand as between two steps, as those of a run that has stopped
          module _ (p : Parked S K I F g) (checked : p.system.checked ≡ d.system.checked) (routes : p.system.routes ≡ d.system.routes) (budget : p.system.budget ≡ d.system.budget) (blocks : p.system.blocks.items ≡ map (λ (t : BlockThread S K I F g). t.block) (blocks_back done))
              (lines : p.forwarders.items ≡ map (λ (t : ForwarderThread). t.forwarder) (forwarders_back done)) (at_last : p.environment ≡ now) (left : p.rests.items ≡ rests) where
            pub workers_are : length (workers_of (plan_of p.system)) ≡ length d.system.blocks.items + (length d.forwarders.items + 1)
            workers_are = ap (λ (s : Structure). length (workers_in s)) checked ∙ (sym opened.number ∙ ends_enough)

            pub behaviours_same : map behaviours_of p.system.blocks.items ≡ map behaviours_of d.system.blocks.items
            behaviours_same = ap (map behaviours_of) blocks ∙ behaviours_now

            pub plan_same : plan_of p.system ≡ plan_of d.system
            plan_same = same_plan d.system p.system (record { checked = checked; routes = routes; budget = budget; behaviours = behaviours_same })

            site_same : site_of_parked p ≡ joined
            site_same =
                ap (λ (bs : List (BlockWorker S K I F g)). record { blocks = map worker_of bs; environment = p.environment; forwarders = p.forwarders.items; board = lists_of p.rests.items }) blocks
                ∙ (ap (λ (fs : List Forwarding). record { blocks = joined.blocks; environment = p.environment; forwarders = fs; board = lists_of p.rests.items }) lines
                ∙ (ap (λ (e : EnvWorking). record { blocks = joined.blocks; environment = e; forwarders = joined.forwarders; board = lists_of p.rests.items }) at_last
                ∙ ap (λ (rs : List (Station × Rest)). record { blocks = joined.blocks; environment = now; forwarders = joined.forwarders; board = lists_of rs }) left))

            pub parked : ((plan : Plan) (site : Site) (astray : Option Item) (all now : List WorkerEnds) (shelf : List (Station × ℕ)) (rests : List (Station × Rest)) → IsPlan plan → AreOpen plan.structure plan.routes all shelf → AreUsed all now
                → AreRejoined now (map (λ (x : Station × ℕ). x.0) shelf) rests → site.board ≡ lists_of rests → HaveComeBack may plan site astray now → IsAtWork may plan site) → IsParked may p
            parked stand =
                let work = stand (plan_of d.system) joined astray all (ends_back own_now done) shelf rests is_plan opened used_now rejoined refl back in
                record {
                  plan = subst IsPlan (sym plan_same) is_plan;
                  work = subst (λ (q : Plan). IsAtWork may q (site_of_parked p)) (sym plan_same) (subst (IsAtWork may (plan_of d.system)) (sym site_same) work);
                  fire = subst (All (λ w. CanFire may (behaviours_of w))) (sym blocks) fires_now;
                }
