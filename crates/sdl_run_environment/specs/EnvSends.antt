-- The part of a step of the environment that sends, over any queues. (This project's own.)
use Rattle.std.specs.Prelude.{◌≡◌, ◌≢◌, ℕ, Bool, true, false, List, [], ◌++◌, None, Some, Result, Ok, Err, length, All, slice_get}
use Rattle.sdl_signal.specs.declared.ids.GateId.{GateId}
use Rattle.sdl_signal.specs.declared.values.Item.{Item}
use Rattle.sdl_structure_parts.specs.Structure.{Structure}
use Rattle.sdl_routes.specs.declared.route.Source.TheVariants as source
use Rattle.sdl_routes.specs.declared.route.Station.{Station}
use Rattle.sdl_routes.specs.declared.route.TableRow.{TableRow}
use Rattle.sdl_forward.specs.Queues.{Relations}
use Rattle.sdl_block_hand.specs.declared.hand.Refused.{Refused}
use Rattle.sdl_block_hand.specs.PutsBy.{PutsFirsts}
use Rattle.sdl_run_outcome.specs.declared.environment_output.EnvOut.{EnvOut}
use Rattle.sdl_run_outcome.specs.EnvironmentWork.{EnvWorking, IsEnvSound, IsLegalItem, ComesIn, AreCounted, ReadsOn, env_origins, env_sent}
use Rattle.sdl_run_environment.specs.EnvSteps.{ReadsNext}

-- an item can be put at the first station of each route that starts at a gate of the system
abbrev pub HasWaysIn : {B : Type 0} → Relations B → List TableRow → B → Type 0
HasWaysIn q rows queues =
    (r : ℕ) (row : TableRow) (s : Station) (gate : GateId) → slice_get rows r ≡ Some row → row.source ≡ source.Gate gate → slice_get row.route.stations.items 0 ≡ Some s → q.CanPut queues s

-- What was in hand is put, a line is read, and what its output sends is put. Nothing is taken.
pub record Sends {B : Type 0} (q : Relations B) (structure : Structure) (routes : List TableRow) (worker : ℕ) (old : EnvWorking) (before : B) (new : EnvWorking) (after : B) : Type 0 where
  pub outs : List EnvOut
  pub put : List Item
  pub puts : PutsFirsts q routes before put after
  pub received : new.received ≡ old.received
  pub output : new.output ≡ old.output
  pub went : put ++ new.outgoing ≡ old.outgoing ++ env_sent outs
  pub outputs : new.put ≡ old.put ++ outs
  pub numbered : AreCounted worker (length old.put) (env_origins outs)
  pub reads : ReadsOn structure routes worker old outs new
  pub legal : All (IsLegalItem structure routes worker) (env_sent outs)
  pub coming : All (ComesIn routes) (env_sent outs)
  pub sound : IsEnvSound structure routes worker new

-- the reading had ended, nothing was in hand, and nothing is put
pub record SendsNothing {B : Type 0} (old : EnvWorking) (before : B) (new : EnvWorking) (after : B) : Type 0 where
  pub same : new ≡ old
  pub ended : old.ended ≢ None
  pub outgoing : old.outgoing ≡ []
  pub queues : after ≡ before

-- what was done, by the answer: whether anything was, or it was refused
abbrev pub SendsTo : {B : Type 0} → Relations B → Structure → List TableRow → ℕ → EnvWorking → B → Result Bool Refused → EnvWorking → B → Type 0
SendsTo q structure routes worker old before (Ok true) new after =
    (w : Sends q structure routes worker old before new after) × ((new.ended ≡ old.ended) × (w.outs ≡ []) × (w.put ≡ []) → ⊥)
SendsTo q structure routes worker old before (Ok false) new after = SendsNothing old before new after
SendsTo q structure routes worker old before (Err _) new after = Sends q structure routes worker old before new after

-- nothing is in hand, and the reading went on
pub record SentOn (old new : EnvWorking) : Type 0 where
  pub hand : new.outgoing ≡ []
  pub read : ReadsNext old new
