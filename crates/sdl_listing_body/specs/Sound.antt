-- Which rows are sound: what the reading of a text sees to, and what a step needs to conform to its row's offer.
use Rattle.std.specs.Prelude.{◌≡◌, ℕ, zero, suc, ◌+◌, ◌<◌, ◌≤◌, max, Bool, true, false, List, [], length, Option, Some, None, IfSome, option_map, slice_get}
use Rattle.sdl_signal.specs.declared.values.Sort.{Sort}
use Rattle.sdl_signal.specs.declared.values.Sort.TheVariants as sort
use Rattle.sdl_transition_behaviour.specs.declared.offer.SignalSorts.{SignalSorts}
use Rattle.sdl_transition_behaviour.specs.declared.offer.Offer.{Offer}
use Rattle.sdl_listing_expression.specs.Sorted.{Scope, sort_in, IsSorted}
use Rattle.sdl_listing_body.specs.declared.syntax.Params.{Params, Nothing as NoMore, First'}
use Rattle.sdl_listing_body.specs.declared.syntax.Goal.{Goal}
use Rattle.sdl_listing_body.specs.declared.syntax.Goal.TheVariants as goal
use Rattle.sdl_listing_body.specs.declared.syntax.Body.{Body, Nothing, Output', Create', Assign', If', End}
use Rattle.sdl_listing_body.specs.declared.syntax.Row.{Row}
use Rattle.sdl_listing_body.specs.Offering.{sorts_of, offer_of}

abbrev pub AreSorted : Scope → Params → Type 0
AreSorted scope NoMore = Unit {0}
AreSorted scope (First' e _ rest) = IsSorted scope e × AreSorted scope rest

-- a set is one of the first, and an expression is a Pid's
abbrev pub IsGoalIn : Scope → Goal → Type 0
IsGoalIn scope goal.Anywhere = Unit {0}
IsGoalIn scope (goal.Own word) = Unit {0}
IsGoalIn scope (goal.Set set) = set.0 < scope.sets
IsGoalIn scope (goal.Pid e) = IsSorted scope e × (sort_in e ≡ sort.Pid)

-- each expression has the sort that it is to have, and each variable and set is there
abbrev pub IsSortedBody : Scope → Body → Type 0
IsSortedBody scope Nothing = Unit {0}
IsSortedBody scope (Output' id params to via _ rest) = AreSorted scope params × IsGoalIn scope to × IsSortedBody scope rest
IsSortedBody scope (Create' set _ rest) = (set.0 < scope.sets) × IsSortedBody scope rest
IsSortedBody scope (Assign' k e _ rest) = IsSorted scope e × (slice_get scope.vars k ≡ Some (sort_in e)) × IsSortedBody scope rest
IsSortedBody scope (If' c _ on_true _ on_false _ rest) =
    IsSorted scope c × (sort_in c ≡ sort.Boolean) × IsSortedBody scope on_true × IsSortedBody scope on_false × IsSortedBody scope rest
IsSortedBody scope (End next) = Unit {0}

-- the greater of the numbers that are there
abbrev pub greater : Option ℕ → Option ℕ → Option ℕ
greater None m = m
greater (Some n) None = Some n
greater (Some n) (Some m) = Some (max n m)

-- a number, and another after it
abbrev pub followed : Option ℕ → Option ℕ → Option ℕ
followed (Some n) (Some m) = Some (n + m)
followed _ _ = None

-- the most outputs and creates on a way through the body that goes on behind it, and none where each way has an end
abbrev pub most_going_on : Body → Option ℕ
most_going_on Nothing = Some 0
most_going_on (Output' id params to via _ rest) = followed (Some 1) (most_going_on rest)
most_going_on (Create' set _ rest) = followed (Some 1) (most_going_on rest)
most_going_on (Assign' k e _ rest) = most_going_on rest
most_going_on (If' c _ on_true _ on_false _ rest) = followed (greater (most_going_on on_true) (most_going_on on_false)) (most_going_on rest)
most_going_on (End next) = None

abbrev pub added : Option ℕ → ℕ → ℕ
added None m = 0
added (Some n) m = n + m

-- the most outputs and creates on any way through the body
abbrev pub most_actions : Body → ℕ
most_actions Nothing = 0
most_actions (Output' id params to via _ rest) = 1 + most_actions rest
most_actions (Create' set _ rest) = 1 + most_actions rest
most_actions (Assign' k e _ rest) = most_actions rest
most_actions (If' c _ on_true _ on_false _ rest) =
    max (max (most_actions on_true) (most_actions on_false)) (added (greater (most_going_on on_true) (most_going_on on_false)) (most_actions rest))
most_actions (End next) = 0

-- the most parameters of one output
abbrev pub most_params : Body → ℕ
most_params Nothing = 0
most_params (Output' id params to via _ rest) = max (length (sorts_of params)) (most_params rest)
most_params (Create' set _ rest) = most_params rest
most_params (Assign' k e _ rest) = most_params rest
most_params (If' c _ on_true _ on_false _ rest) = max (max (most_params on_true) (most_params on_false)) (most_params rest)
most_params (End next) = 0

abbrev pub trigger_sorts : Option SignalSorts → List Sort
trigger_sorts None = []
trigger_sorts (Some signal) = signal.sorts.items

-- what the expressions of the row may name
abbrev pub scope_of : Row → Scope
scope_of row = record { sets = row.sets; params = trigger_sorts row.signal; vars = row.vars.items }

-- an offer has room for it
pub record HasRoom (offer : Offer) : Type 0 where
  pub outputs : length offer.outputs.items ≤ 16
  pub creates : length offer.creates.items ≤ 8
  pub nexts : length offer.nexts.items ≤ 16

-- the row has its sorts, each way through it ends, and it is within all limits
pub record IsSound (row : Row) : Type 0 where
  pub sorts : IsSortedBody (scope_of row) row.body
  pub ends : most_going_on row.body ≡ None
  pub actions : most_actions row.body ≤ 8
  pub params : most_params row.body ≤ 4
  pub offered : HasRoom (offer_of row)

-- A way that goes on made no more actions than the most that such a way makes. None goes on where each has an end.
abbrev pub GoesOnWithin : Bool → Option ℕ → ℕ → ℕ → Type 0
GoesOnWithin true most old new = Unit {0}
GoesOnWithin false None old new = ⊥
GoesOnWithin false (Some n) old new = new ≤ old + n

-- So many actions are made before the body. The answer is the most behind it on a way that goes on, unless some way makes over 8.
abbrev pub IsMadeAfter : ℕ → Body → Option (Option ℕ) → Type 0
IsMadeAfter made b (Some on) =
    (made + most_actions b ≤ 8) × (on ≡ option_map (λ n. made + n) (most_going_on b)) × IfSome on (λ n. n ≤ 8)
IsMadeAfter made b None = 8 < made + most_actions b
