-- A run that has stopped is that of the system that was started.
use Rattle.std.proofs.Common.{ℕ, ◌+◌, List, Option, length, map, ◌≡◌, ap, sym, ◌∙◌, subst}
use Rattle.sdl_structure_parts.specs.Structure.{Structure}
use Rattle.sdl_routes.specs.declared.route.TableRow.{TableRow}
use Rattle.sdl_transition.specs.declared.block_parts.BlockParts.{BlockParts}
use Rattle.sdl_forward.specs.Forwards.{Forwarding}
use Rattle.sdl_block.specs.declared.worker.BlockWorker.{BlockWorker}
use Rattle.sdl_run_outcome.specs.Plan.{Plan, blocks_in, delaying_from}
use Rattle.sdl_run_outcome.specs.EnvironmentWork.{HasReadSoFar, HasWrittenSoFar}
use Rattle.sdl_run_driver.specs.declared.closing.Closing.{Closing}
use Rattle.sdl_run_driver.specs.declared.closing.Room.{Room}
use Rattle.sdl_run_driver.specs.declared.parked.Parked.{Parked}
use Rattle.sdl_run_driver.specs.declared.system.System.{System}
use Rattle.sdl_run_driver.specs.Closings.{HasRoom, HasReadIn, HasWrittenIn}
use Rattle.sdl_run_driver.specs.Systems.{plan_of, IsSameSystem}
use Rattle.sdl_run_driver.proofs.Drives.{same_plan}
use Rattle.sdl_run_driver.proofs.Rooms.{room_as}
use Rattle.sdl_run_serial.specs.Starting.{idle_at}
use Rattle.sdl_run_serial.specs.Serial.{IsStartOf}
use Rattle.sdl_run_serial.proofs.Fresh.{hops_of, start_count}
use Rattle.sdl_run.specs.declared.room.Opened.{Opened}
use Rattle.sdl_run.specs.Room.{IsOpened}

-- what was taken for a system is for it once it has started
module _ {S K I : Type 0} {F : I → Type 0} {g : _} (b : System (BlockParts S I F g)) (x : System (BlockWorker S K I F g)) (start : IsStartOf b x) where
  pub opened_at : (o : Opened S K I F g) → IsOpened b.checked b.routes o → IsOpened x.checked x.routes o
  opened_at o h =
      subst (λ (s : Structure). IsOpened s x.routes o) (sym start.checked)
      (subst (λ (rows : List TableRow). IsOpened b.checked rows o) (sym start.routes) h)

  pub room_started : (lines : ℕ) (r taken : Room S K I F g) → r ≡ taken → length b.blocks.items ≡ length b.checked.blocks → HasRoom (length b.checked.blocks) (length b.checked.blocks + (lines + 1)) taken
      → HasRoom (length x.blocks.items) (length x.blocks.items + (lines + 1)) r
  room_started lines r taken same count h =
      let blocks : length b.checked.blocks ≡ length x.blocks.items = sym count ∙ start_count b x start in
      subst (λ (v : Room S K I F g). HasRoom (length x.blocks.items) (length x.blocks.items + (lines + 1)) v) (sym same)
      (room_as taken (length b.checked.blocks) (length b.checked.blocks + (lines + 1)) (length x.blocks.items) (length x.blocks.items + (lines + 1)) blocks (ap (λ (n : ℕ). n + (lines + 1)) blocks) h)

  pub hops_opened : (o : Opened S K I F g) → IsOpened b.checked b.routes o → map (λ (f : Forwarding). f.hop) o.forwarders.items ≡ delaying_from 0 x.checked.channels
  hops_opened o h = ap (map (λ (f : Forwarding). f.hop)) (opened_at o h).forwarders ∙ hops_of (delaying_from 0 x.checked.channels)

-- what was read and written until the workers stopped
module _ {S K I : Type 0} {F : I → Type 0} {g : _} (x : System (BlockWorker S K I F g)) (p : Parked S K I F g) (same : IsSameSystem x p.system) (c : Closing S K I F g) (start mid now : Option (List ℕ)) where
  pub reading_parked : HasReadSoFar x.checked x.routes (length x.checked.blocks) start mid p.environment
      → ((from : Option (List ℕ)) → HasReadSoFar p.system.checked p.system.routes (blocks_in (plan_of p.system)) from mid p.environment → HasReadIn (plan_of p.system) from now c) → HasReadIn (plan_of x) start now c
  reading_parked read ends =
      subst (λ (q : Plan). HasReadIn q start now c) (same_plan x p.system same)
      (ends start (subst (λ (q : Plan). HasReadSoFar q.structure q.routes (blocks_in q) start mid p.environment) (sym (same_plan x p.system same)) read))

  pub writing_parked : HasWrittenSoFar x.checked x.routes (length x.checked.blocks) start mid p.environment
      → ((from : Option (List ℕ)) → HasWrittenSoFar p.system.checked p.system.routes (blocks_in (plan_of p.system)) from mid p.environment → HasWrittenIn (plan_of p.system) from now c) → HasWrittenIn (plan_of x) start now c
  writing_parked wrote ends =
      subst (λ (q : Plan). HasWrittenIn q start now c) (same_plan x p.system same)
      (ends start (subst (λ (q : Plan). HasWrittenSoFar q.structure q.routes (blocks_in q) start mid p.environment) (sym (same_plan x p.system same)) wrote))
