-- With one thing changed in what the run of Echo leaves, a promise of runs that have ended fails.
use Rattle.std.proofs.Common.{◌≡◌, ℕ, ◌<◌, ◌≤◌, inl, inr, Bool, true, false, List, [], ◌∷◌, ◌++◌, length, Some, refl, ap, lit<, true≢false, slice_get, pos, arith}
use Rattle.sdl_signal.specs.declared.values.Item.{Item}
use Rattle.sdl_signal.specs.declared.values.Origin.{Origin}
use Rattle.sdl_signal.specs.declared.values.Value.{Value}
use Rattle.sdl_signal.specs.declared.values.Value.TheVariants as value
use Rattle.sdl_signal.specs.declared.values.Signal.{Signal}
use Rattle.sdl_routes.specs.declared.route.Station.{Station}
use Rattle.sdl_routes.specs.declared.route.Station.TheVariants as station
use Rattle.sdl_agents.specs.Tables.{EchoMay}
use Rattle.sdl_instances_log.specs.declared.event.Done.TheVariants as done
use Rattle.sdl_instances.specs.Machine.{State, FitsAt, DoesAll, next_any}
use Rattle.sdl_forward_opening.specs.declared.worker.Worker.{Worker}
use Rattle.sdl_forward_opening.specs.declared.worker.Worker.TheVariants.{Block, Environment, Forwarder}
use Rattle.sdl_run_outcome.specs.declared.environment_output.EnvOut.TheVariants as env_out
use Rattle.sdl_run_outcome.specs.declared.end.RunEnd.{RunEnd}
use Rattle.sdl_run_outcome.specs.declared.end.RunEnd.TheVariants as run_end
use Rattle.sdl_run_outcome.specs.Books.{NoOther, outs, came, left}
use Rattle.sdl_run_outcome.specs.Causes.{IsCause, direct}
use Rattle.sdl_run_outcome.specs.Plan.{system_at, ways_of}
use Rattle.sdl_run_outcome.specs.Outcome.{IsComplete, IsLawful, LeftsAreLegal, books_of, all_origins, log_at}
use Rattle.sdl_run_outcome.specs.Ends.{IsQuiet, IsSpentAt, EndsAs}
use Rattle.sdl_run_outcome.specs.Ring.{no_hand}
use Rattle.sdl_run_ledger.specs.declared.ledger.Ledger.{Ledger}
use Rattle.sdl_run_driver.specs.Ended.{HasEnded}
use Rattle.sdl_run_laws.specs.Echo.{to_line, plan}
use Rattle.sdl_run_laws.specs.EchoRun.{ping, pong, final, leaves, rests, with_log, with_put, with_received, with_rests, enters, starts, e, answer, answers, log_of}
use Rattle.sdl_run_laws.proofs.Ending.{quiet}

-- not complete
pub log_left_out : IsComplete plan (record leaves { logs = [] }) → ⊥
log_left_out h = let n : 0 ≡ 1 = h.logs in omega (arith, n)

pub hand_left_out : IsComplete plan (record leaves { hands = no_hand ∷ [] }) → ⊥
hand_left_out h = let n : 1 ≡ 6 = h.hands in omega (arith, n)

pub station_left_out : IsComplete plan (with_rests []) → ⊥
station_left_out h = let there = h.rests.every station.Outlet (1, to_line, lit< tt, refl, (2, lit< tt, refl)) in let less : there.0 < 0 = there.1 in omega (arith, less)

-- a signal is lost, or came from nowhere
pub lost : outs (ways_of plan) (books_of plan (with_received [])) 1 ≡ came (ways_of plan) (books_of plan (with_received [])) 1 ++ left (ways_of plan) (books_of plan (with_received [])) 1 → ⊥
lost h = let n : 1 ≡ 0 = ap length h in omega (arith, n)

pub made_up : outs (ways_of plan) (books_of plan (with_put [])) 0 ≡ came (ways_of plan) (books_of plan (with_put [])) 0 ++ left (ways_of plan) (books_of plan (with_put [])) 0 → ⊥
made_up h = let n : 0 ≡ 1 = ap length h in omega (arith, n)

-- two outputs have one origin
pub output_twice :
    ((j k : ℕ) (x : Origin) → slice_get (all_origins (with_put (env_out.Sent (pong 1 7) ∷ []))) j ≡ Some x → slice_get (all_origins (with_put (env_out.Sent (pong 1 7) ∷ []))) k ≡ Some x → j ≡ k) → ⊥
output_twice h = let n : 0 ≡ 1 = h 0 1 (pong 1 7).origin refl refl in omega (arith, n)

-- a signal arrived where its route does not end
abbrev is_block : Worker → Bool
is_block (Block b) = true
is_block Environment = false
is_block (Forwarder w) = false

pub strayed : NoOther (ways_of plan) (books_of plan (with_received (ping 7 ∷ []))) → ⊥
strayed h = true≢false (ap is_block (h Environment tt).0.1)

-- an answer that caused itself
pub caused_itself : ((i : Item) → IsCause (log_at (with_log (starts ∷ enters (pong 1 7) ∷ answers (pong 1 7) ∷ [])).logs) i i → ⊥) → ⊥
caused_itself h = h (pong 1 7) (direct 0 (inr (inl (inl refl, inl refl))))

-- the answer has not the stamp that what arrived asks for
pub misstamped : (finals : List State) → IsLawful EchoMay plan (with_log (log_of (pong 0 7))) finals → ⊥
misstamped [] h = h.runs
misstamped (s ∷ finals) h = let n : 0 ≡ 1 = h.runs.0.stamped.1.1.0.0 in omega (arith, n)

-- E answered another number than its step did
abbrev number_of : List Value → ℕ
number_of (value.Integer (pos n) ∷ values) = n
number_of values = 0

answered : (old new : State) → next_any EchoMay (system_at plan 0) old (answers (pong 1 8)) new → ⊥
answered old new (r, rest, q, own, rule, mid, state, port, by, row, becomes, framed, transits) = acted mid transits.acted transits.actions
  where
    acted : (before behind : State) → DoesAll EchoMay (FitsAt plan.routes) (system_at plan 0) e before (answer 7).actions.items (done.Sent (pong 1 8) ∷ []) behind → ⊥
    acted before behind (between, (set, is, found, lives, sent, same), all) =
        let n : 8 ≡ 7 = ap (λ (x : Signal). number_of x.params.items) sent.signal_kept in omega (arith, n)

pub other_answer : (finals : List State) → IsLawful EchoMay plan (with_log (log_of (pong 1 8))) finals → ⊥
other_answer [] h = h.runs
other_answer (s ∷ finals) h = answered h.runs.0.leads.2.0 h.runs.0.leads.2.2.0 h.runs.0.leads.2.2.1

-- the environment's first output has number 0
pub misnumbered : (finals : List State) → IsLawful EchoMay plan (with_put (env_out.Sent (record (ping 7) { origin = record { worker = 1; number = 1 } }) ∷ [])) finals → ⊥
misnumbered finals h = let n : 1 ≡ 0 = h.environment.1 in omega (arith, n)

-- another end
pub not_quiet : IsQuiet plan (with_rests (rests (pong 1 7 ∷ []))) (final ∷ []) → ⊥
not_quiet h = let n : 1 ≡ 0 = ap length (h.rests station.Outlet) in omega (arith, n)

pub not_spent : IsSpentAt plan leaves (final ∷ []) 0 → ⊥
not_spent h = h.more quiet

pub no_worker : EndsAs plan leaves (final ∷ []) (run_end.Memory 6) → ⊥
no_worker h = let less : 6 < 6 = h in omega (arith, less)

-- two turns with a budget of one
pub over_budget : (end : RunEnd) (ledger : Ledger) → HasEnded EchoMay (record plan { budget = 1 }) leaves end ledger → ⊥
over_budget end ledger h = let most : 2 ≤ 1 = h.within_budget.0 in omega (arith, most)

-- a signal is left at a station that is none of its route
abbrev is_outlet : Station → Bool
is_outlet station.Outlet = true
is_outlet (station.Inlet b) = false
is_outlet (station.Line w) = false

pub misplaced : LeftsAreLegal plan (with_rests (rests (ping 7 ∷ []))) → ⊥
misplaced h =
    elim (h station.Outlet).0.1 [
      | inl first ↦ true≢false (ap is_outlet first)
      | inr (inl second) ↦ true≢false (ap is_outlet second)
      | inr (inr (inl third)) ↦ true≢false (ap is_outlet third)
      | inr (inr (inr none)) ↦ none
    ]
