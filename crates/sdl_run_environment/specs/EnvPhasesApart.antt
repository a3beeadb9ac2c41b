-- The parts of a step of the environment where each queue has ends of its own.
use Rattle.std.specs.Prelude.{◌≡◌, ℕ, ◌⊎◌, Bool, true, false, List, [], ◌∷◌, ◌++◌, Option, None, Some, Result, Ok, Err}
use Rattle.sdl_signal.specs.declared.values.Item.{Item}
use Rattle.sdl_structure_parts.specs.Structure.{Structure}
use Rattle.sdl_routes.specs.declared.route.TableRow.{TableRow}
use Rattle.sdl_forward_ends.specs.Ends.{WorkerEnds, taken_by}
use Rattle.sdl_block_hand.specs.declared.hand.Refused.{Refused}
use Rattle.sdl_block_hand.specs.declared.hand.Stepped.{Stepped}
use Rattle.sdl_block_hand.specs.Puts.{answer_of}
use Rattle.sdl_run_outcome.specs.EnvironmentWork.{EnvWorking, IsLegalItem, GoesOut}
use Rattle.sdl_run_environment.specs.EnvApart.{EnvStepsApart}

-- nothing is put, and the item is taken
pub record TakesItem (before : WorkerEnds) (i : Item) (after : WorkerEnds) : Type 0 where
  pub taken : taken_by after ≡ taken_by before ++ i ∷ []
  pub feeds : after.feeds ≡ before.feeds

-- nothing is put, and none is taken
pub record TakesNone (before after : WorkerEnds) : Type 0 where
  pub taken : taken_by after ≡ taken_by before
  pub feeds : after.feeds ≡ before.feeds

-- An item is taken and noted, where it may leave; where it may not, it is astray. Nothing is where none came or memory is
-- refused.
abbrev pub ReceivesApart : Structure → List TableRow → ℕ → EnvWorking → WorkerEnds → Result Bool Refused → EnvWorking → Option Item → WorkerEnds → Type 0
ReceivesApart structure routes worker old before (Ok true) new is after =
    (i : Item) × TakesItem before i after × (IsLegalItem structure routes worker i × GoesOut routes i)
    × (new ≡ record old { received = old.received ++ i ∷ []; output = new.output }) × (is ≡ None)
ReceivesApart structure routes worker old before (Ok false) new is after = (new ≡ old) × TakesNone before after × (is ≡ None)
ReceivesApart structure routes worker old before (Err _) new is after =
    (new ≡ old)
    × (((after ≡ before) × (is ≡ None)) ⊎ ((i : Item) × TakesItem before i after × (is ≡ Some i) × (IsLegalItem structure routes worker i × GoesOut routes i → ⊥)))

abbrev pub EnvStepsToApart : Structure → List TableRow → ℕ → EnvWorking → Option Item → WorkerEnds → Result Bool Refused → EnvWorking → Option Item → WorkerEnds → Type 0
EnvStepsToApart structure routes worker old was before result new is after = EnvStepsApart structure routes worker old was before (answer_of result) new is after

-- A step that reads nothing: what it did, by its answer.
abbrev pub TakesOne : Structure → List TableRow → ℕ → EnvWorking → WorkerEnds → Stepped → EnvWorking → Option Item → WorkerEnds → Type 0
TakesOne structure routes worker old before answer new is after =
    (result : Result Bool Refused) × (answer ≡ answer_of result) × ReceivesApart structure routes worker old before result new is after
