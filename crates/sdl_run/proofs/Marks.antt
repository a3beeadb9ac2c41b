-- No two workers of a run in threads have one mark: each takes at the station of its own number.
use Rattle.std.proofs.Common.{ℕ, zero, suc, ◌+◌, ◌<◌, List, [], ◌∷◌, ◌++◌, length, map, slice_get, Some, None, ◌≡◌, ◌≢◌, refl, ap, sym, ◌∙◌, subst, arith}
use Rattle.std.proofs.lemmas.List.{length-map, map-append}
use Rattle.std.proofs.lemmas.Option.{none-some, same_Some}
use Rattle.std.specs.List.{AllByRecursion}
use Rattle.sdl_structure_parts.specs.Structure.{Structure, IsStructure}
use Rattle.sdl_routes.specs.declared.route.Hop.{Hop}
use Rattle.sdl_routes.specs.declared.route.Station.{Station}
use Rattle.sdl_routes.specs.declared.route.Station.TheVariants.{Line, Inlet, Outlet}
use Rattle.sdl_routes.specs.Routes.{EachOnce}
use Rattle.sdl_transition_behaviour.specs.declared.step.Frame.{Frame}
use Rattle.sdl_transition_behaviour.specs.declared.step.Step.{Step}
use Rattle.sdl_forward_ends.specs.Ends.{WorkerEnds}
use Rattle.sdl_forward_ends.specs.Marks.{mark}
use Rattle.sdl_forward_opening.specs.declared.worker.Worker.{Worker}
use Rattle.sdl_forward_opening.specs.declared.worker.Worker.TheVariants as worker
use Rattle.sdl_forward_opening.specs.Workers.{place, mark_at, blocks_from, workers_in}
use Rattle.sdl_forward.specs.Forwards.{Forwarding}
use Rattle.sdl_block.specs.declared.worker.BlockWorker.{BlockWorker}
use Rattle.sdl_block.specs.Workers.{worker_of}
use Rattle.sdl_block_hand.specs.Work.{Working}
use Rattle.sdl_run_outcome.specs.Plan.{delaying_from}
use Rattle.sdl_run_driver.specs.Drivers.{site_of}
use Rattle.sdl_run_driver.specs.Systems.{plan_of}
use Rattle.sdl_run_join.specs.Back.{AreNew}
use Rattle.sdl_run_threads.specs.declared.workers.BlockThread.{BlockThread}
use Rattle.sdl_run_threads.specs.declared.workers.ForwarderThread.{ForwarderThread}
use Rattle.sdl_run_threads.specs.declared.kinds.Kind.{Kind}
use Rattle.sdl_run_threads.specs.declared.kinds.Kind.TheVariants.{Block, Forwarder}
use Rattle.sdl_run_threads.specs.Kinds.{station_of_one}
use Rattle.sdl_run.specs.Sharing.{paired, block_thread, forwarder_thread, GivesOut}
use Rattle.sdl_run_driver.specs.declared.system.System.{System}
use Rattle.sdl_run.specs.declared.room.Opened.{Opened}
use Rattle.sdl_run.specs.Room.{IsReadyToRun}
use Rattle.sdl_run.proofs.Begin.{are_new}
use Rattle.sdl_run_serial.proofs.Fresh.{started_count}
use Rattle.sdl_run.proofs.Together.{started}

-- one of a list may stand first
all_moved : (P : ℕ → Type 0) (xs zs : List ℕ) (y : ℕ) → AllByRecursion P (xs ++ y ∷ zs) → P y × AllByRecursion P (xs ++ zs)
all_moved P [] zs y h = h
all_moved P (x ∷ xs) zs y h = let more = all_moved P xs zs y h.1 in (more.0, (h.0, more.1))

moved_first : (xs zs : List ℕ) (y : ℕ) → EachOnce (xs ++ y ∷ zs) → EachOnce (y ∷ (xs ++ zs))
moved_first [] zs y h = h
moved_first (x ∷ xs) zs y h =
    let more = moved_first xs zs y h.1 in
    let apart = all_moved (λ (z : ℕ). x ≢ z) xs zs y h.0 in
    ((λ same. apart.0 (sym same), more.0), (apart.1, more.1))

-- where a worker takes
abbrev of_block : {S K I : Type 0} {F : I → Type 0} {g : _} → BlockThread S K I F g → Station
of_block w = Inlet (worker_of w.block).core.block

abbrev of_forwarder : ForwarderThread → Station
of_forwarder w = Line w.forwarder.hop

abbrev of_both : {S K I : Type 0} {F : I → Type 0} {g : _} → Kind (BlockThread S K I F g) ForwarderThread → Station
of_both = station_of_one of_block of_forwarder

module _ {S K I : Type 0} {F : I → Type 0} {g : _} where
  block_marks : (budget : ℕ) (bs : List (BlockWorker S K I F g)) (es : List WorkerEnds) (n : ℕ) → length es ≡ length bs
      → ((k : ℕ) (b : BlockWorker S K I F g) → slice_get bs k ≡ Some b → (worker_of b).core.block ≡ record { 0 = n + k })
      → map mark (map of_both (map Block (paired (block_thread budget) bs es))) ≡ map mark_at (blocks_from n (length bs))
  block_marks budget [] es n long numbered = refl
  block_marks budget (b ∷ bs) [] n long numbered = absurd (omega (arith, long))
  block_marks budget (b ∷ bs) (e ∷ es) n long numbered =
      let first : (worker_of b).core.block ≡ record { 0 = n } = subst (λ (m : ℕ). (worker_of b).core.block ≡ record { 0 = m }) (omega arith) (numbered 0 b refl) in
      let rest = block_marks budget bs es (n + 1) (omega (arith, long))
      (λ k c at. subst (λ (m : ℕ). (worker_of c).core.block ≡ record { 0 = m }) (omega arith) (numbered (suc k) c at)) in
      ap (λ block. mark (Inlet block) ∷ map mark (map of_both (map Block (paired (block_thread budget) bs es)))) first
      ∙ ap (λ (ms : List ℕ). mark (Inlet (record { 0 = n })) ∷ ms) rest

got_in : {X Y : Type 0} (f : X → Y) (xs : List X) (n : ℕ) (x : X) → slice_get xs n ≡ Some x → slice_get (map f xs) n ≡ Some (f x)
got_in f [] n x at = absurd (none-some x at)
got_in f (y ∷ ys) zero x at = ap (λ z. Some (f z)) (same_Some y x at)
got_in f (y ∷ ys) (suc n) x at = got_in f ys n x at

module _ {S K I : Type 0} {F : I → Type 0} {g : _} (may : ℕ → Frame → Step → Type 0) (x : System (BlockWorker S K I F g)) (o : Opened S K I F g) (ready : IsReadyToRun may x o)
    (once : (s : Structure) → IsStructure s → EachOnce (map mark_at (workers_in s)))
    (ws : List (Kind (BlockThread S K I F g) ForwarderThread)) (own : WorkerEnds) (given : GivesOut x.budget x.blocks.items o.forwarders.items o.ends.items ws own) where
  abbrev new : AreNew may (plan_of x) (site_of (started x o))
  new = are_new may (started x o) ready.started ready.opened.environment ready.opened.forwarders

  abbrev bs : List (BlockThread S K I F g)
  bs = paired (block_thread x.budget) x.blocks.items given.of_blocks

  abbrev fs : List ForwarderThread
  fs = paired forwarder_thread o.forwarders.items given.of_forwarders

  of_blocks : map mark (map of_both (map Block bs)) ≡ map mark_at (blocks_from 0 (length x.checked.blocks))
  of_blocks =
      block_marks x.budget x.blocks.items given.of_blocks 0 given.block_count
      (λ k b at. subst (λ (m : ℕ). (worker_of b).core.block ≡ record { 0 = m }) (omega arith) ((new.cores k (worker_of b) (got_in worker_of x.blocks.items k b at)).0.block))
      ∙ ap (λ (n : ℕ). map mark_at (blocks_from 0 n)) (started_count may x ready.started)

  line_marks : (fs : List Forwarding) (es : List WorkerEnds) (hs : List Hop) → length es ≡ length fs → map (λ (f : Forwarding). f.hop) fs ≡ hs
      → map mark (map of_both (map {B = Kind (BlockThread S K I F g) ForwarderThread} Forwarder (paired forwarder_thread fs es))) ≡ map mark_at (map worker.Forwarder hs)
  line_marks fs es hs long are = by_list fs es long ∙ ap (λ (ks : List Hop). map mark_at (map worker.Forwarder ks)) are
    where
      by_list : (gs : List Forwarding) (ds : List WorkerEnds) → length ds ≡ length gs
          → map mark (map of_both (map {B = Kind (BlockThread S K I F g) ForwarderThread} Forwarder (paired forwarder_thread gs ds))) ≡ map mark_at (map worker.Forwarder (map (λ (f : Forwarding). f.hop) gs))
      by_list [] ds same = refl
      by_list (f ∷ gs) [] same = absurd (omega (arith, same))
      by_list (f ∷ gs) (d ∷ ds) same = ap (λ (ms : List ℕ). mark (Line f.hop) ∷ ms) (by_list gs ds (omega (arith, same)))

  of_lines : map mark (map of_both (map {B = Kind (BlockThread S K I F g) ForwarderThread} Forwarder fs)) ≡ map mark_at (map worker.Forwarder (delaying_from 0 x.checked.channels))
  of_lines = line_marks o.forwarders.items given.of_forwarders (delaying_from 0 x.checked.channels) given.forwarder_count new.forwarders

  of_all : map mark (map of_both ws) ≡ map mark_at (blocks_from 0 (length x.checked.blocks)) ++ map mark_at (map worker.Forwarder (delaying_from 0 x.checked.channels))
  of_all =
      ap (λ (vs : List (Kind (BlockThread S K I F g) ForwarderThread)). map mark (map of_both vs)) given.workers_are
      ∙ ap (map mark) (map-append of_both (map Block bs) (map Forwarder fs))
      ∙ map-append mark (map of_both (map Block bs)) (map of_both (map Forwarder fs))
      ∙ ap (λ (ms : List ℕ). ms ++ map mark (map of_both (map {B = Kind (BlockThread S K I F g) ForwarderThread} Forwarder fs))) of_blocks
      ∙ ap (λ (ms : List ℕ). map mark_at (blocks_from 0 (length x.checked.blocks)) ++ ms) of_lines

  pub marks_once : EachOnce (map mark (Outlet ∷ map of_both ws))
  marks_once =
      let blocks = map mark_at (blocks_from 0 (length x.checked.blocks)) in
      let lines = map mark_at (map worker.Forwarder (delaying_from 0 x.checked.channels)) in
      let whole : EachOnce (blocks ++ mark Outlet ∷ lines) =
      subst EachOnce (map-append mark_at (blocks_from 0 (length x.checked.blocks)) (worker.Environment ∷ map worker.Forwarder (delaying_from 0 x.checked.channels))) (once x.checked ready.started.structure) in
      subst (λ (ms : List ℕ). EachOnce (mark Outlet ∷ ms)) (sym of_all) (moved_first blocks lines (mark Outlet) whole)
