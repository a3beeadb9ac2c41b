-- Rows of Echo and Ring, and a row with a decision of which one side ends. What they do, what they offer, and which are sound.
use Rattle.std.proofs.Common.{◌≡◌, refl, ℕ, ◌+◌, ◌-◌, ◌^◌, ◌≤◌, ℤ, pos, negsuc, true, List, [], ◌∷◌, Some, None, arith, Box, Global}
use Rattle.sdl_signal.specs.declared.ids.SignalId.{SignalId}
use Rattle.sdl_signal.specs.declared.ids.StateId.{StateId}
use Rattle.sdl_signal.specs.declared.values.Sort.TheVariants as sort
use Rattle.sdl_signal.specs.declared.values.Pid.TheVariants as pid
use Rattle.sdl_signal.specs.declared.values.Value.{Value}
use Rattle.sdl_signal.specs.declared.values.Value.TheVariants as value
use Rattle.sdl_routes.specs.declared.route.Via.TheVariants.{Any}
use Rattle.sdl_transition_behaviour.specs.declared.step.Frame.{Frame}
use Rattle.sdl_transition_behaviour.specs.declared.step.Dest.TheVariants as dest
use Rattle.sdl_transition_behaviour.specs.declared.step.Action.{Action}
use Rattle.sdl_transition_behaviour.specs.declared.step.Action.TheVariants as action
use Rattle.sdl_transition_behaviour.specs.declared.step.Next.TheVariants.{State, Stop}
use Rattle.sdl_listing_expression.specs.declared.syntax.Operator.TheVariants.{Add, Less}
use Rattle.sdl_listing_expression.specs.declared.syntax.Expr.{Expr, Integer, Parameter, Two', Choice'}
use Rattle.sdl_listing_body.specs.declared.syntax.Params.{Params, Nothing as NoMore, First'}
use Rattle.sdl_listing_body.specs.declared.syntax.Goal.TheVariants as goal
use Rattle.sdl_listing_body.specs.declared.syntax.Body.{Body, Nothing, Output', If', End}
use Rattle.sdl_listing_body.specs.declared.syntax.Row.{Row}
use Rattle.sdl_listing_body.specs.Doing.{doing}
use Rattle.sdl_listing_body.specs.Offering.{offer_of}
use Rattle.sdl_listing_body.specs.Sound.{most_going_on, IsSound}

abbrev idle : StateId
idle = record { 0 = 0 }

abbrev busy : StateId
busy = record { 0 = 1 }

abbrev tok : SignalId
tok = record { 0 = 0 }

-- in the state idle, on a tok with one Integer
abbrev row_of : Body → Row
row_of body = record {
  sets = 1;
  state = Some idle;
  signal = Some (record { id = tok; sorts = record { items = sort.Integer ∷ [] } });
  vars = record { items = [] };
  body = body;
}

abbrev frame_of : ℤ → Frame
frame_of n = record {
  self_pid = pid.Null;
  parent = pid.Null;
  offspring = pid.Null;
  sender = pid.Env;
  state = Some idle;
  vars = record { items = [] };
  signal = Some (record { id = tok; params = record { items = value.Integer n ∷ [] } });
}

abbrev sent : ℤ → Action
sent n = action.Output (record { id = tok; params = record { items = value.Integer n ∷ [] } }) dest.Anywhere Any

module _ (p q r s t : Box (Unit {0}) Global) where
  -- tok(n): output tok(n); next idle
  abbrev echo : Row
  echo = row_of (Output' tok (First' (Parameter 0 sort.Integer) p NoMore) goal.Anywhere Any q (End (State idle)))

  pub echoes : (n : ℤ) → (doing echo (frame_of n)).actions ≡ sent n ∷ []
  echoes n = refl

  pub echo_goes_on : (n : ℤ) → (doing echo (frame_of n)).next ≡ Some (State idle)
  echo_goes_on n = refl

  pub echo_is_sound : IsSound echo
  echo_is_sound = record {
    sorts = ((refl, tt), tt, tt);
    ends = refl;
    actions = omega arith;
    params = omega arith;
    offered = record { outputs = omega arith; creates = omega arith; nexts = omega arith };
  }

  -- tok(n): output tok(if n < greatest then n + 1 else 0 fi); next idle
  abbrev counted : Expr
  counted =
      Choice' p (Two' Less q (Parameter 0 sort.Integer) r (Integer (pos (2 ^ 63 - 1)))) s (Two' Add q (Parameter 0 sort.Integer) r (Integer (pos 1))) t (Integer (pos 0))

  abbrev ring : Row
  ring = row_of (Output' tok (First' counted p NoMore) goal.Anywhere Any q (End (State idle)))

  pub ring_counts : (doing ring (frame_of (pos 5))).actions ≡ sent (pos 6) ∷ []
  ring_counts = refl

  pub ring_begins_again : (doing ring (frame_of (pos (2 ^ 63 - 1)))).actions ≡ sent (pos 0) ∷ []
  ring_begins_again = refl

  -- tok(n): if n < 0 { stop }; output tok(n); next busy
  abbrev halting : Row
  halting = row_of (If' (Two' Less p (Parameter 0 sort.Integer) q (Integer (pos 0))) r (End Stop) s Nothing t (Output' tok (First' (Parameter 0 sort.Integer) p NoMore) goal.Anywhere Any q (End (State busy))))

  pub halts : (doing halting (frame_of (negsuc 0))).actions ≡ []
  halts = refl

  pub halts_at_once : (doing halting (frame_of (negsuc 0))).next ≡ Some Stop
  halts_at_once = refl

  pub goes_on : (doing halting (frame_of (pos 3))).actions ≡ sent (pos 3) ∷ []
  goes_on = refl

  pub halting_may_stop : (offer_of halting).may_stop ≡ true
  halting_may_stop = refl

  -- a row of which a way has no end is not sound
  pub endless : IsSound (row_of Nothing) → ⊥
  endless h = let e : most_going_on Nothing ≡ None = h.ends in cc
