-- What a body does to a frame: its statements are carried out from the left, up to its first end.
use Rattle.std.specs.Prelude.{◌≡◌, ℕ, Bool, false, ◌||◌, if◌then◌else◌, List, [], ◌∷◌, ◌++◌, Option, Some, None, is_some, slice_set}
use Rattle.sdl_signal.specs.declared.ids.SetId.{SetId}
use Rattle.sdl_signal.specs.declared.ids.SignalId.{SignalId}
use Rattle.sdl_signal.specs.declared.values.Value.{Value}
use Rattle.sdl_signal.specs.declared.values.Signal.{Signal}
use Rattle.sdl_routes.specs.declared.route.Via.{Via}
use Rattle.sdl_transition_behaviour.specs.declared.step.Frame.{Frame}
use Rattle.sdl_transition_behaviour.specs.declared.step.Dest.{Dest}
use Rattle.sdl_transition_behaviour.specs.declared.step.Dest.TheVariants as dest
use Rattle.sdl_transition_behaviour.specs.declared.step.Action.{Action}
use Rattle.sdl_transition_behaviour.specs.declared.step.Action.TheVariants as action
use Rattle.sdl_transition_behaviour.specs.declared.step.Next.{Next}
use Rattle.sdl_transition_behaviour.specs.declared.step.Step.{Step}
use Rattle.sdl_listing_expression.specs.declared.syntax.Word.{Word}
use Rattle.sdl_listing_expression.specs.declared.syntax.Word.TheVariants.{SelfPid, Parent, Offspring, Sender}
use Rattle.sdl_listing_expression.specs.declared.syntax.Expr.{Expr}
use Rattle.sdl_listing_expression.specs.Scene.{Scene, boolean_in, pid_in}
use Rattle.sdl_listing_expression.specs.Values.{evaluate, bends}
use Rattle.sdl_listing_body.specs.declared.syntax.Params.{Params, Nothing as NoMore, First'}
use Rattle.sdl_listing_body.specs.declared.syntax.Goal.{Goal}
use Rattle.sdl_listing_body.specs.declared.syntax.Goal.TheVariants as goal
use Rattle.sdl_listing_body.specs.declared.syntax.Body.{Body, Nothing, Output', Create', Assign', If', End}
use Rattle.sdl_listing_body.specs.declared.syntax.Row.{Row}

-- what was done so far: the actions, the variables as they are now, the end, once there is one, and whether a value was bent
pub record Doing : Type 0 where
  pub actions : List Action
  pub vars : List Value
  pub next : Option Next
  pub bent : Bool

abbrev pub scene_of : Frame → Doing → Scene
scene_of frame d = record { frame = frame; vars = d.vars }

-- the values of the actual parameters
abbrev pub values_of : Scene → Params → List Value
values_of s NoMore = []
values_of s (First' e _ rest) = evaluate s e ∷ values_of s rest

abbrev pub params_bend : Scene → Params → Bool
params_bend s NoMore = false
params_bend s (First' e _ rest) = bends s e || params_bend s rest

-- the destination that is looked up when the action is carried out
abbrev pub own_dest : Word → Dest
own_dest SelfPid = dest.SelfPid
own_dest Parent = dest.Parent
own_dest Offspring = dest.Offspring
own_dest Sender = dest.Sender

abbrev pub dest_of : Scene → Goal → Dest
dest_of s goal.Anywhere = dest.Anywhere
dest_of s (goal.Own word) = own_dest word
dest_of s (goal.Set set) = dest.Set set
dest_of s (goal.Pid e) = dest.Pid (pid_in (evaluate s e))

abbrev pub goal_bends : Scene → Goal → Bool
goal_bends s goal.Anywhere = false
goal_bends s (goal.Own word) = false
goal_bends s (goal.Set set) = false
goal_bends s (goal.Pid e) = bends s e

abbrev pub signal_of : Scene → SignalId → Params → Signal
signal_of s id params = record { id = id; params = record { items = values_of s params } }

-- goes on, unless there is an end
abbrev pub go_on : (Doing → Doing) → Doing → Doing
go_on rest d = if is_some d.next then d else rest d

abbrev pub after_output : Frame → SignalId → Params → Goal → Via → Doing → Doing
after_output f id params to via d = record d {
  actions = d.actions ++ action.Output (signal_of (scene_of f d) id params) (dest_of (scene_of f d) to) via ∷ [];
  bent = (d.bent || params_bend (scene_of f d) params) || goal_bends (scene_of f d) to;
}

abbrev pub after_create : SetId → Doing → Doing
after_create set d = record d { actions = d.actions ++ action.Create set ∷ [] }

abbrev pub after_assign : Frame → ℕ → Expr → Doing → Doing
after_assign f k e d = record d {
  vars = slice_set d.vars k (evaluate (scene_of f d) e);
  bent = d.bent || bends (scene_of f d) e;
}

abbrev pub after_test : Frame → Expr → Doing → Doing
after_test f c d = record d { bent = d.bent || bends (scene_of f d) c }

-- what the body does after what was done
abbrev pub done_by : Frame → Body → Doing → Doing
done_by f Nothing d = d
done_by f (Output' id params to via _ rest) d = done_by f rest (after_output f id params to via d)
done_by f (Create' set _ rest) d = done_by f rest (after_create set d)
done_by f (Assign' k e _ rest) d = done_by f rest (after_assign f k e d)
done_by f (If' c _ on_true _ on_false _ rest) d = go_on (done_by f rest) (if boolean_in (evaluate (scene_of f d) c)
    then done_by f on_true (after_test f c d)
    else done_by f on_false (after_test f c d))
done_by f (End next) d = record d { next = Some next }

-- before the first statement
abbrev pub nothing_done : Frame → Doing
nothing_done frame = record { actions = []; vars = frame.vars.items; next = None; bent = false }

-- what the row does to the frame
abbrev pub doing : Row → Frame → Doing
doing row frame = done_by frame row.body (nothing_done frame)

-- the step is what the row says for the frame
pub record IsStepOf (row : Row) (frame : Frame) (step : Step) : Type 0 where
  pub actions : step.actions.items ≡ (doing row frame).actions
  pub vars : step.vars.items ≡ (doing row frame).vars
  pub next : Some step.next ≡ (doing row frame).next

-- what a step that is being filled shows: its next counts once there is an end
abbrev pub doing_of : Step → Bool → Bool → Doing
doing_of step ended bent = record {
  actions = step.actions.items;
  vars = step.vars.items;
  next = if ended then Some step.next else None;
  bent = bent;
}
