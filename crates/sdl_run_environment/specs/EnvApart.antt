-- What the environment does in a step where each queue has ends of its own, and what its steps keep. (This project's own.)
use Rattle.std.specs.Prelude.{◌≡◌, ◌≢◌, ℕ, ◌<◌, ◌≤◌, List, [], ◌++◌, Option, Some, None, length, All, Vec, vec_len, vec_capacity}
use Rattle.std.specs.Option.{option_to_list}
use Rattle.sdl_signal.specs.declared.values.Item.{Item}
use Rattle.sdl_structure_parts.specs.Structure.{Structure}
use Rattle.sdl_routes.specs.declared.route.TableRow.{TableRow}
use Rattle.sdl_routes.specs.declared.route.Station.{Station}
use Rattle.sdl_forward_ends.specs.Ends.{WorkerEnds, put_at, taken_by}
pub use Rattle.sdl_forward_ends.specs.Ways.{HasGateWays}
use Rattle.sdl_block_hand.specs.declared.hand.Stepped.{Stepped}
use Rattle.sdl_block_hand.specs.declared.hand.Stepped.TheVariants.{Did, Idle, Memory}
use Rattle.sdl_block_hand.specs.Work.{beginning_at}
use Rattle.sdl_run_outcome.specs.declared.environment_output.EnvOut.{EnvOut}
use Rattle.sdl_run_outcome.specs.EnvironmentWork.{EnvWorking, IsEnvSound, IsLegalItem, GoesOut, ComesIn, AreCounted, ReadsOn, env_origins, env_sent}

-- A step from old to new: what it output, what it put, what it took, and what it received. `was` and `is` are what is astray
-- before and after: an item that was taken and may not leave through the outlet.
pub record EnvWorksApart (structure : Structure) (routes : List TableRow) (worker : ℕ) (old : EnvWorking) (was : Option Item) (before : WorkerEnds) (new : EnvWorking) (is : Option Item) (after : WorkerEnds) : Type 0 where
  pub outs : List EnvOut
  pub put : List Item
  pub taken : List Item
  pub more : List Item
  -- it takes at most one item; each item that it puts goes to its route's first station, in order
  pub one : length taken ≤ 1
  pub takes : taken_by after ≡ taken_by before ++ taken
  pub puts : (s : Station) → put_at after s ≡ put_at before s ++ beginning_at routes s put
  -- what was astray, and then what it takes, is received, or is astray
  pub came : option_to_list was ++ taken ≡ more ++ option_to_list is
  pub received : new.received ≡ old.received ++ more
  -- what it receives may leave, and what is astray may not
  pub leaves : All (λ i. IsLegalItem structure routes worker i × GoesOut routes i) more
  pub lost : (i : Item) → is ≡ Some i → IsLegalItem structure routes worker i → GoesOut routes i → ⊥
  -- what it puts, and then what is in hand, was in hand, or is sent by the new outputs
  pub went : put ++ new.outgoing ≡ old.outgoing ++ env_sent outs
  -- the outputs go on by the new ones, which are numbered on and may travel
  pub outputs : new.put ≡ old.put ++ outs
  pub numbered : AreCounted worker (length old.put) (env_origins outs)
  pub reads : ReadsOn structure routes worker old outs new
  pub legal : All (IsLegalItem structure routes worker) (env_sent outs)
  pub coming : All (ComesIn routes) (env_sent outs)
  pub sound : IsEnvSound structure routes worker new

-- There was nothing to do: the reading has ended, nothing is in hand or astray, and nothing was taken.
-- (Others may put at the outlet at any time, so that it was empty is not said.)
pub record IsEnvIdleApart (w : EnvWorking) (astray : Option Item) (before after : WorkerEnds) : Type 0 where
  pub ended : w.ended ≢ None
  pub outgoing : w.outgoing ≡ []
  pub none : astray ≡ None
  pub taken : taken_by after ≡ taken_by before
  pub puts : (s : Station) → put_at after s ≡ put_at before s

-- What a step did, by its answer. A step that did something read a line or the end, put an item, or took one.
abbrev pub EnvStepsApart : Structure → List TableRow → ℕ → EnvWorking → Option Item → WorkerEnds → Stepped → EnvWorking → Option Item → WorkerEnds → Type 0
EnvStepsApart structure routes worker old was before Did new is after =
    (w : EnvWorksApart structure routes worker old was before new is after) × ((new.ended ≡ old.ended) × (w.outs ≡ []) × (w.put ≡ []) × (w.taken ≡ []) → ⊥)
EnvStepsApart structure routes worker old was before Idle new is after = (new ≡ old) × (is ≡ was) × IsEnvIdleApart old was before after
EnvStepsApart structure routes worker old was before Memory new is after = EnvWorksApart structure routes worker old was before new is after

-- what was received, as it stood when there was room for one item more
pub record FoundRoom {A : Type 0} (received : List Item) (found : Vec Item A) : Type 0 where
  pub items : found.items ≡ received
  pub room : vec_len found < vec_capacity found

-- It took what was there, as far as a take through ends of its own can tell: there was room for one item more, and what it
-- took is received. (Others may put at the outlet at any time, so that nothing waits there is not said.)
pub record TakesNextApart {A : Type 0} (old : EnvWorking) (before : WorkerEnds) (found : Vec Item A) (new : EnvWorking) (after : WorkerEnds) : Type 0 where
  pub room : FoundRoom old.received found
  pub taken : List Item
  pub takes : taken_by after ≡ taken_by before ++ taken
  pub received : new.received ≡ old.received ++ taken

-- What each step of the environment keeps. It is sound. All that its outputs sent was put, but what is in hand, each item at
-- the first station of its route, in order. All that it took it received, in order, but what is astray, and that may not leave.
-- Its outputs are numbered from 0, and what they sent may travel and comes from the environment.
pub record IsEnvPuttingOut (structure : Structure) (routes : List TableRow) (worker : ℕ) (w : EnvWorking) (astray : Option Item) (ends : WorkerEnds) : Type 0 where
  pub sound : IsEnvSound structure routes worker w
  pub put : List Item
  pub whole : put ++ w.outgoing ≡ env_sent w.put
  pub each : (s : Station) → put_at ends s ≡ beginning_at routes s put
  pub came : w.received ++ option_to_list astray ≡ taken_by ends
  pub counted : AreCounted worker 0 (env_origins w.put)
  pub coming : All (ComesIn routes) (env_sent w.put)
  pub legal : All (IsLegalItem structure routes worker) (env_sent w.put)
  pub lost : (i : Item) → astray ≡ Some i → IsLegalItem structure routes worker i → GoesOut routes i → ⊥
  pub ways : HasGateWays routes ends
