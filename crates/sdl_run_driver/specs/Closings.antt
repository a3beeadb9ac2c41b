-- What a contract sees of a closing, and of the lists that become one.
use Rattle.std.specs.Prelude.{◌≡◌, ℕ, ◌+◌, ◌≤◌, List, map, Option, None, Some, Bool, ◌↔◌, length, vec_len, vec_capacity, if◌then◌else◌}
use Rattle.std.specs.List.{AllZip}
use Rattle.sdl_transition.specs.declared.binding.Bound.{Bound}
use Rattle.sdl_transition.specs.Bound.{structure_of, routes_of, blocks_of}
use Rattle.sdl_transition.specs.Rules.{block_rules}
use Rattle.sdl_forward.specs.Boards.{lists_of}
use Rattle.sdl_run_outcome.specs.declared.end.RunEnd.{RunEnd}
use Rattle.sdl_run_outcome.specs.declared.end.RunEnd.TheVariants as run_end
use Rattle.sdl_run_driver.specs.declared.closing.Closing.{Closing}
use Rattle.sdl_run_driver.specs.declared.closing.Left.{Left}
use Rattle.sdl_run_driver.specs.declared.closing.Room.{Room}
use Rattle.sdl_signal.specs.declared.ends.InputEnd.{InputEnd}
use Rattle.sdl_signal.specs.declared.ends.InputEnd.TheVariants as input
use Rattle.sdl_structure_parts.specs.Structure.{lexicon_of}
use Rattle.sdl_run_outcome.specs.EnvironmentWork.{HasReadAll, HasWritten, received_text}
use Rattle.sdl_run_outcome.specs.Plan.{Plan, blocks_in}
use Rattle.sdl_run_outcome.specs.Outcome.{Outcome}
use Rattle.sdl_instances_log.specs.declared.event.Event.{Event}
use Rattle.sdl_instances_log.specs.declared.counts.Counts.{Counts}
use Rattle.sdl_instances_log.specs.Counts.{AreCountsOf}
use Rattle.sdl_run_outcome.specs.Lists.{held_in}
use Rattle.sdl_transition_behaviour.specs.declared.step.Frame.{Frame}
use Rattle.sdl_transition_behaviour.specs.declared.step.Step.{Step}
use Rattle.sdl_run_order.specs.Driver.{Site, IsFresh, outcome_of}
use Rattle.sdl_run_driver.specs.Runs.{Runs}

-- the plan of a bound system with this budget
abbrev pub plan_of_bound : {S I : Type 0} {F : I → Type 0} {g : _} → Bound S I F g → ℕ → Plan
plan_of_bound b budget = record { structure = structure_of b; routes = routes_of b; rules = map block_rules (blocks_of b); budget = budget }

-- what the workers of a run leave, whose logs have these events
abbrev pub outcome_left : {S K I : Type 0} {F : I → Type 0} {g : _} → (K → List Event) → Left S K I F g → Outcome
outcome_left events l =
    record {
      logs = map events l.logs.items;
      env_put = l.env_put.items;
      env_received = l.env_received.items;
      hands = map held_in l.hands.items;
      rests = lists_of l.rests.items;
    }

-- what a closing shows of its run: what the workers left
abbrev pub outcome_in : {S K I : Type 0} {F : I → Type 0} {g : _} → (K → List Event) → Closing S K I F g → Outcome
outcome_in events c =
    record {
      logs = map events c.logs.items;
      env_put = c.env_put.items;
      env_received = c.env_received.items;
      hands = map held_in c.hands.items;
      rests = lists_of c.rests.items;
    }

-- in a closing, all that the environment read, and all that it wrote
abbrev pub HasReadIn : {S K I : Type 0} {F : I → Type 0} {g : _} → Plan → Option (List ℕ) → Option (List ℕ) → Closing S K I F g → Type 0
HasReadIn plan start now c = HasReadAll plan.structure plan.routes (blocks_in plan) start now c.env_put.items c.input

abbrev pub HasWrittenIn : {S K I : Type 0} {F : I → Type 0} {g : _} → Plan → Option (List ℕ) → Option (List ℕ) → Closing S K I F g → Type 0
HasWrittenIn plan start now c = HasWritten start now (received_text (lexicon_of plan.structure) plan.routes c.env_received.items) c.output

-- the reading stopped before its end only where memory was refused to a worker
abbrev pub StopsByMemory : InputEnd → RunEnd → Type 0
StopsByMemory reading end = (n : ℕ) → reading ≡ input.Stopped n → (w : ℕ) × (end ≡ run_end.Memory w)

-- the end names the worker that was refused memory, and none where none was
abbrev pub NamesRefused : RunEnd → Option ℕ → Type 0
NamesRefused end refused = (w : ℕ) → (end ≡ run_end.Memory w) ↔ (refused ≡ Some w)

-- The closing is what a run under the schedule leaves: from a start at which nothing has happened, where it stops.
pub record IsRunOf {S K I : Type 0} {F : I → Type 0} {g : _} (may : ℕ → Frame → Step → Type 0) (plan : Plan) (schedule : List ℕ) (events : K → List Event) (c : Closing S K I F g) : Type 0 where
  pub start : Site
  pub stop : Site
  pub refused : Option ℕ
  pub fresh : IsFresh may plan start
  pub runs : Runs may plan schedule refused start stop
  pub left : outcome_in events c ≡ outcome_of stop
  pub ends : NamesRefused c.end refused

-- it is the system that was handed in
abbrev pub IsSameBound : {S I : Type 0} {F : I → Type 0} {g : _} → Bound S I F g → Bound S I F g → Type 0
IsSameBound old new = (structure_of new ≡ structure_of old) × (routes_of new ≡ routes_of old) × (blocks_of new ≡ blocks_of old)

-- there is room for so many blocks and hands more
pub record HasRoom {S K I : Type 0} {F : I → Type 0} {g : _} (more_blocks more_hands : ℕ) (r : Room S K I F g) : Type 0 where
  pub parts : vec_len r.parts + more_blocks ≤ vec_capacity r.parts
  pub logs : vec_len r.logs + more_blocks ≤ vec_capacity r.logs
  pub hands : vec_len r.hands + more_hands ≤ vec_capacity r.hands
  pub counts : vec_len r.counts + more_blocks ≤ vec_capacity r.counts
  -- as many logs were counted as were taken
  pub counted : length r.counts.items ≡ length r.logs.items

-- each log has its counts beside it
abbrev pub AreLogsCounted : {K : Type 0} → (K → List Event) → List K → List Counts → Type 0
AreLogsCounted events logs counts = AllZip (λ log c. AreCountsOf (events log) c) logs counts

-- The end of a run, from the worker that was refused memory, the least block whose budget is used, and whether nothing is
-- left.
abbrev pub end_by : Option ℕ → Option ℕ → Bool → RunEnd
end_by (Some w) spent quiet = run_end.Memory w
end_by None None quiet = run_end.Quiet
end_by None (Some b) quiet = if quiet then run_end.Quiet else run_end.Spent (record { 0 = b })
