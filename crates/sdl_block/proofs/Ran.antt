-- What a step did that ran through its phases.
use Rattle.std.proofs.Common.{◌≡◌, ℕ, inl, Bool, ◌||◌, Result, Ok, Err, List, [], Option, refl, ap, sym, subst, true≢false}
use Rattle.std.specs.Result.{IsErr}
use Rattle.sdl_signal.specs.declared.values.Item.{Item}
use Rattle.sdl_routes.specs.declared.route.TableRow.{TableRow}
use Rattle.sdl_transition_behaviour.specs.declared.step.Frame.{Frame}
use Rattle.sdl_transition_behaviour.specs.declared.step.Step.{Step}
use Rattle.sdl_instances.specs.Machine.{System}
use Rattle.sdl_instances.specs.Core.{Core, IsSound}
use Rattle.sdl_instances.specs.Calls.{LeavesOthers}
use Rattle.sdl_forward.specs.Queues.{Relations}
use Rattle.sdl_block_hand.specs.declared.hand.Refused.{Refused}
use Rattle.sdl_block_hand.specs.Work.{Working}
use Rattle.sdl_block_hand.specs.PutsBy.{PutsOutBy}
use Rattle.sdl_block_hand.specs.Puts.{answer_of}
use Rattle.sdl_block.specs.Phases.{IsEmptyAfter}
use Rattle.sdl_block.specs.Picks.{LetsInAt, TriesTurnAt, StepsAt}
use Rattle.sdl_block.specs.Around.{Queues, LetsBy, Out, GoesThrough, around, at_put, at_arrival, at_turn, at_last, whole}
use Rattle.sdl_block.proofs.Going.{Going, puts_so}
use Rattle.sdl_block.proofs.Stepping as steps
use Rattle.sdl_block.proofs.Stepping.{Ends}
use Rattle.sdl_block.proofs.Rounds as rounds
use Rattle.sdl_block.proofs.Rounds.{RoundBy}

-- what was put out, as a phase
pub out_so : {B : Type 0} (q : Relations B) (rows : List TableRow) (core : Core) (old : Working) (before : B) (result : Result Bool Refused) (kept : Option Item) (left : List Item) (after : B)
    → PutsOutBy q rows old.outgoing before result left after → kept ≡ old.kept → Out (around q rows core) old before result (steps.holding old.core kept left) after
out_so q rows core old before result kept left after puts still = (puts_so q rows core old.outgoing before result left after puts, ap (λ (k : Option Item). steps.holding old.core k left) still)

-- what holds of each refusal holds of an answer that is one
pub refused_so : (result : Result Bool Refused) → IsErr result → (P : Result Bool Refused → Type 0) → ((r : Refused) → P (Err r)) → P result
refused_so (Err r) h P all = all r
refused_so (Ok did) h P all = absurd (true≢false (sym h))

module _ (may : ℕ → Frame → Step → Type 0) (sys : System) {B : Type 0} (q : Queues B) (pick : ℕ) (old : Working) (before : B) where
  -- what an arrival is after what was in hand is put
  lets_then : (put : Working) (between : B) (a : Result Bool Refused) (arrived : Working) (taken : B) → put ≡ record old { outgoing = put.outgoing } → LetsBy may sys q put between a arrived taken
      → LetsBy may sys q (steps.holding old.core old.kept put.outgoing) between a arrived taken
  lets_then put between a arrived taken same lets = subst (λ (w : Working). LetsBy may sys q w between a arrived taken) same lets

  -- what holds before a turn
  pub record Arrived (arrived : Working) (taken : B) : Type 0 where
    pub sound : IsSound may sys arrived.core
    pub rest : LeavesOthers old.core arrived.core
    pub empty : arrived.outgoing ≡ []
    pub going : Going may sys q 1 old before arrived taken

  pub arrived_so : (d : Bool) (put : Working) (between : B) (a : Bool) (arrived : Working) (taken : B)
      → Out q old before (Ok d) put between → LetsBy may sys q put between (Ok a) arrived taken → IsSound may sys old.core → Arrived arrived taken
  arrived_so d put between a arrived taken (out, same) lets sound =
      let then = lets_then put between (Ok a) arrived taken same lets in
      record {
        sound = steps.sound_then may sys q old before d old.kept put.outgoing between out refl sound a arrived taken then;
        rest = steps.keeps_then may sys q old before d old.kept put.outgoing between out refl sound a arrived taken then;
        empty = steps.empty_then may sys q old before d old.kept put.outgoing between out refl sound a arrived taken then;
        going = steps.moved_then may sys q old before d old.kept put.outgoing between out refl sound a arrived taken then;
      }

  pub ends_of : {result : Result Bool Refused} {new : Working} {after : B} → GoesThrough may sys q pick old before result new after → IsSound may sys old.core → Ends may sys q old before result new after
  ends_of (at_put r s new after (out, same)) sound =
      subst (λ (w : Working). Ends may sys q old before (Err r) w after) (sym same) (steps.ends_at_put may sys q r old before old.kept new.outgoing after out refl sound)
  ends_of (at_arrival r s d put between new after (out, same) (lets, arrives)) sound =
      steps.ends_at_arrival may sys q old before d old.kept put.outgoing between out refl sound r new after (lets_then put between (Err s) new after same lets)
  ends_of (at_turn r s d a put between arrived taken new (out, same) (lets, arrives) (tried, turns)) sound =
      steps.ends_at_turn may sys q old before d old.kept put.outgoing between out refl sound a arrived taken (lets_then put between (Ok a) arrived taken same lets) r new tried
  ends_of (at_last r s d a t put between arrived taken turned new after (out, same) (lets, arrives) (made, turns) (left, also)) sound =
      subst (λ (w : Working). Ends may sys q old before (Err r) w after) (sym also)
      (steps.ends_at_last may sys q old before d old.kept put.outgoing between out refl sound a arrived taken (lets_then put between (Ok a) arrived taken same lets) t turned made r turned.kept new.outgoing after left refl)
  ends_of (whole d a t e put between arrived taken turned new after (out, same) (lets, arrives) (made, turns) (left, also)) sound =
      subst (λ (w : Working). Ends may sys q old before (Ok ((d || a) || t)) w after) (sym also)
      (steps.ends_whole may sys q old before d old.kept put.outgoing between out refl sound a arrived taken (lets_then put between (Ok a) arrived taken same lets) t turned made e turned.kept new.outgoing after left refl)

  pub round_of : {result : Result Bool Refused} {new : Working} {after : B} → GoesThrough may sys q pick old before result new after → RoundBy q old before (answer_of result) new after
  round_of (at_put r s new after (out, same)) =
      subst (λ (w : Working). RoundBy q old before (answer_of (Err r)) w after) (sym same) (rounds.round_at_put may sys q old before (Err r) refl s old.kept new.outgoing after out)
  round_of (at_arrival r s d put between new after (out, same) (lets, arrives)) =
      rounds.round_at_arrival may sys q old before d old.kept put.outgoing between out refl (Err r) refl s new after (lets_then put between (Err s) new after same lets)
  round_of (at_turn r s d a put between arrived taken new (out, same) (lets, arrives) (tried, turns)) =
      rounds.round_at_turn may sys q old before d old.kept put.outgoing between out refl a arrived taken (lets_then put between (Ok a) arrived taken same lets) (Err r) refl new tried
  round_of (at_last r s d a t put between arrived taken turned new after (out, same) (lets, arrives) (made, turns) (left, also)) =
      subst (λ (w : Working). RoundBy q old before (answer_of (Err r)) w after) (sym also)
      (rounds.round_at_last may sys q old before d old.kept put.outgoing between out refl a arrived taken (lets_then put between (Ok a) arrived taken same lets) sys t turned made (Err r) refl s turned.kept new.outgoing after left)
  round_of (whole d a t e put between arrived taken turned new after (out, same) (lets, arrives) (made, turns) (left, also)) =
      subst (λ (w : Working). RoundBy q old before (answer_of (Ok ((d || a) || t))) w after) (sym also)
      (rounds.round_whole may sys q old before d old.kept put.outgoing between out refl a arrived taken (lets_then put between (Ok a) arrived taken same lets) sys t turned made ((d || a) || t) e turned.kept new.outgoing after left)

  pub empty_of : {result : Result Bool Refused} {new : Working} {after : B} → GoesThrough may sys q pick old before result new after → IsSound may sys old.core → IsEmptyAfter (answer_of result) new
  empty_of (at_put r s new after out) sound = tt
  empty_of (at_arrival r s d put between new after out lets) sound = tt
  empty_of (at_turn r s d a put between arrived taken new out lets tried) sound = tt
  empty_of (at_last r s d a t put between arrived taken turned new after out lets made left) sound = tt
  empty_of (whole d a t e put between arrived taken turned new after (out, same) (lets, arrives) (made, turns) (left, also)) sound =
      subst (λ (w : Working). IsEmptyAfter (answer_of (Ok ((d || a) || t))) w) (sym also)
      (steps.empty_after may sys q old before d old.kept put.outgoing between out refl sound a arrived taken (lets_then put between (Ok a) arrived taken same lets) t turned made e turned.kept new.outgoing after left refl)

  pub picks_of : {result : Result Bool Refused} {new : Working} {after : B} → GoesThrough may sys q pick old before result new after → StepsAt may sys pick old.core new.core
  picks_of (at_put r s new after (out, same)) = record { between = old.core; arrival = inl refl; turn = inl (ap (λ (w : Working). w.core) same) }
  picks_of (at_arrival r s d put between new after (out, same) (lets, arrives)) =
      record { between = new.core; arrival = subst (λ (c : Core). LetsInAt sys.routes pick c new.core) (ap (λ (w : Working). w.core) same) arrives; turn = inl refl }
  picks_of (at_turn r s d a put between arrived taken new (out, same) (lets, arrives) (tried, turns)) =
      record { between = arrived.core; arrival = subst (λ (c : Core). LetsInAt sys.routes pick c arrived.core) (ap (λ (w : Working). w.core) same) arrives; turn = turns }
  picks_of (at_last r s d a t put between arrived taken turned new after (out, same) (lets, arrives) (made, turns) (left, also)) =
      record {
        between = arrived.core;
        arrival = subst (λ (c : Core). LetsInAt sys.routes pick c arrived.core) (ap (λ (w : Working). w.core) same) arrives;
        turn = subst (λ (c : Core). TriesTurnAt may sys pick arrived.core c) (sym (ap (λ (w : Working). w.core) also)) turns;
      }
  picks_of (whole d a t e put between arrived taken turned new after (out, same) (lets, arrives) (made, turns) (left, also)) =
      record {
        between = arrived.core;
        arrival = subst (λ (c : Core). LetsInAt sys.routes pick c arrived.core) (ap (λ (w : Working). w.core) same) arrives;
        turn = subst (λ (c : Core). TriesTurnAt may sys pick arrived.core c) (sym (ap (λ (w : Working). w.core) also)) turns;
      }
