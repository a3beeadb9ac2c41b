-- What an audit answers of what a run left. (This project's own.)
use Rattle.std.specs.Prelude.{◌≡◌, ℕ, ◌+◌, ◌<◌, ◌==◌, ◌&&◌, ◌++◌, length, Bool, true, false, Option, Some, None, Result, Ok, Err, ⊤}
use Rattle.sdl_signal.specs.declared.ids.RouteId.{RouteId}
use Rattle.sdl_forward.specs.Boards.{lists_of}
use Rattle.sdl_run_outcome.specs.Books.{outs, came, left}
use Rattle.sdl_run_outcome.specs.Plan.{Plan, ways_of}
use Rattle.sdl_run_outcome.specs.Outcome.{Outcome, books_of}
use Rattle.sdl_run_ledger.specs.declared.ledger.Ledger.{Ledger}
use Rattle.sdl_run_ledger.specs.Counts.{IsLedgerOf, Balances}
use Rattle.sdl_run_driver.specs.declared.closing.Closing.{Closing}
use Rattle.sdl_run_audit.specs.declared.fault.AuditFault.{AuditFault}
use Rattle.sdl_run_audit.specs.declared.fault.AuditFault.TheVariants as fault

-- the ledger counts what was left, where so many signals wait as it says, and both equations hold
abbrev pub IsRightLedger : Outcome → Ledger → Type 0
IsRightLedger o l = IsLedgerOf o l.waiting l × Balances l

-- both equations of a ledger, tested
abbrev pub gone_on : Ledger → ℕ
gone_on l = l.no_route + l.entered + l.no_instance + l.gone + l.left

abbrev pub consumed : Ledger → ℕ
consumed l = l.fired + l.implicit + l.stopped + l.waiting + l.environment

abbrev pub is_balanced : Ledger → Bool
is_balanced l = (l.output == gone_on l) && (l.entered == consumed l)

module _ (plan : Plan) (o : Outcome) where
  -- what was output along the route is, in order, what arrived at its end, and then what is still in its channels
  abbrev pub IsInOrder : ℕ → Type 0
  IsInOrder r = outs (ways_of plan) (books_of plan o) r ≡ came (ways_of plan) (books_of plan o) r ++ left (ways_of plan) (books_of plan o) r

  -- so it is along each route below n
  abbrev pub AreInOrderBelow : ℕ → Type 0
  AreInOrderBelow n = (r : ℕ) → r < n → IsInOrder r

  -- A fault of a route comes before one of the ledger; where memory is refused, nothing is said.
  abbrev pub Answers : Ledger → Result (Unit {0}) AuditFault → Type 0
  Answers l (Ok u) = AreInOrderBelow (length plan.routes) × IsRightLedger o l
  Answers l (Err (fault.Route r)) = (r.0 < length plan.routes) × (IsInOrder r.0 → ⊥) × AreInOrderBelow r.0
  Answers l (Err fault.Ledger) = AreInOrderBelow (length plan.routes) × (IsRightLedger o l → ⊥)
  Answers l (Err fault.Memory) = ⊤

-- the answer of an audit that found a route at fault, or none, and the ledger right or not
abbrev pub verdict_of : Option RouteId → Bool → Result (Unit {0}) AuditFault
verdict_of (Some r) right = Err (fault.Route r)
verdict_of None true = Ok tt
verdict_of None false = Err fault.Ledger

-- the closing is the same, but that its queues may have become queues of one thread
pub record IsSameClosing {S K I : Type 0} {F : I → Type 0} {g : _} (old new : Closing S K I F g) : Type 0 where
  pub bound : new.bound ≡ old.bound
  pub logs : new.logs ≡ old.logs
  pub env_put : new.env_put ≡ old.env_put
  pub env_received : new.env_received ≡ old.env_received
  pub hands : new.hands ≡ old.hands
  pub rests : lists_of new.rests.items ≡ lists_of old.rests.items
  pub ledger : new.ledger ≡ old.ledger
  pub end : new.end ≡ old.end
  pub input : new.input ≡ old.input
  pub output : new.output ≡ old.output
