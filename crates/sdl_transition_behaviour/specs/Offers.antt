-- What a transition's offer says of the frames that it is shown and of the steps that it answers.
use Rattle.std.specs.Prelude.{◌≡◌, ℕ, ◌<◌, ◌≤◌, List, [], length, IsTrue, All, Contains, map, Option, Some, None}
use Rattle.std.specs.List.{HoldsAt}
use Rattle.sdl_signal.specs.declared.values.Sort.{Sort}
use Rattle.sdl_signal.specs.declared.values.Pid.{Pid}
use Rattle.sdl_signal.specs.declared.values.Pid.TheVariants.{Null, Env, Inst}
use Rattle.sdl_signal.specs.declared.values.Value.{Value}
use Rattle.sdl_signal.specs.declared.values.Value.TheVariants as value
use Rattle.sdl_signal.specs.declared.values.Signal.{Signal}
use Rattle.sdl_signal.specs.Sorts.{sort_of, AreOfSorts}
use Rattle.sdl_transition_behaviour.specs.declared.step.Frame.{Frame}
use Rattle.sdl_transition_behaviour.specs.declared.step.Dest.{Dest}
use Rattle.sdl_transition_behaviour.specs.declared.step.Dest.TheVariants as dest
use Rattle.sdl_routes.specs.declared.route.Via.{Via}
use Rattle.sdl_transition_behaviour.specs.declared.step.Action.{Action}
use Rattle.sdl_transition_behaviour.specs.declared.step.Action.TheVariants.{Output, Create}
use Rattle.sdl_transition_behaviour.specs.declared.step.Next.{Next}
use Rattle.sdl_transition_behaviour.specs.declared.step.Next.TheVariants.{State, Stop}
use Rattle.sdl_transition_behaviour.specs.declared.step.Step.{Step}
use Rattle.sdl_transition_behaviour.specs.declared.offer.SignalSorts.{SignalSorts}
use Rattle.sdl_transition_behaviour.specs.declared.offer.OfferedOutput.{OfferedOutput}
use Rattle.sdl_transition_behaviour.specs.declared.offer.Offer.{Offer}

-- an instance's set is among the first `sets`, and its serial number is at least 1
abbrev pub IsLegalPid : ℕ → Pid → Type 0
IsLegalPid sets Null = Unit {0}
IsLegalPid sets Env = Unit {0}
IsLegalPid sets (Inst set serial) = (set.0 < sets) × (1 ≤ serial)

abbrev pub IsLegalValue : ℕ → Value → Type 0
IsLegalValue sets (value.Pid p) = IsLegalPid sets p
IsLegalValue sets (value.Integer _) = Unit {0}
IsLegalValue sets (value.Boolean _) = Unit {0}

abbrev pub IsLegalDest : ℕ → Dest → Type 0
IsLegalDest sets (dest.Pid p) = IsLegalPid sets p
IsLegalDest sets (dest.Set set) = Unit {0}
IsLegalDest sets dest.Anywhere = Unit {0}
IsLegalDest sets dest.SelfPid = Unit {0}
IsLegalDest sets dest.Parent = Unit {0}
IsLegalDest sets dest.Offspring = Unit {0}
IsLegalDest sets dest.Sender = Unit {0}

-- the signal consumed is the offered one, with parameters of its sorts, and a start consumes none
abbrev pub IsTriggerOf : ℕ → Option SignalSorts → Option Signal → Type 0
IsTriggerOf sets None None = Unit {0}
IsTriggerOf sets None (Some _) = ⊥
IsTriggerOf sets (Some _) None = ⊥
IsTriggerOf sets (Some offered) (Some signal) =
    (signal.id ≡ offered.id)
    × AreOfSorts signal.params.items offered.sorts.items
    × All (IsLegalValue sets) signal.params.items

-- a frame is of the offer
pub record IsFrameOf (offer : Offer) (frame : Frame) : Type 0 where
  pub state : frame.state ≡ offer.state
  pub trigger : IsTriggerOf offer.sets offer.signal frame.signal
  pub sorts : AreOfSorts frame.vars.items offer.vars.items
  pub values : All (IsLegalValue offer.sets) frame.vars.items
  pub self_pid : IsLegalPid offer.sets frame.self_pid
  pub parent : IsLegalPid offer.sets frame.parent
  pub offspring : IsLegalPid offer.sets frame.offspring
  pub sender : IsLegalPid offer.sets frame.sender

-- the pair of the signal and the gate or channel is offered, with the sorts of the parameters
abbrev pub IsOfferedAs : Signal → Via → OfferedOutput → Type 0
IsOfferedAs signal via offered =
    (offered.signal.id ≡ signal.id)
    × AreOfSorts signal.params.items offered.signal.sorts.items
    × (offered.via ≡ via)

abbrev pub IsActionOf : Offer → Action → Type 0
IsActionOf offer (Output signal dest via) =
    ∥ ((k : ℕ) × (k < length offer.outputs.items) × HoldsAt (IsOfferedAs signal via) offer.outputs.items k) ∥₁
    × All (IsLegalValue offer.sets) signal.params.items
    × IsLegalDest offer.sets dest
IsActionOf offer (Create set) = ∥ Contains offer.creates.items set ∥₁

abbrev pub IsNextOf : Offer → Next → Type 0
IsNextOf offer (State state) = ∥ Contains offer.nexts.items state ∥₁
IsNextOf offer Stop = IsTrue offer.may_stop

-- a step that nothing was put into yet
pub record IsBlank (step : Step) : Type 0 where
  pub actions : step.actions.items ≡ []
  pub vars : step.vars.items ≡ []

-- a step conforms to the offer
pub record Conforms (offer : Offer) (step : Step) : Type 0 where
  pub actions : All (IsActionOf offer) step.actions.items
  pub sorts : AreOfSorts step.vars.items offer.vars.items
  pub values : All (IsLegalValue offer.sets) step.vars.items
  pub next : IsNextOf offer step.next
