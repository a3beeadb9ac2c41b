-- The step of a sound row conforms to the row's offer on each frame of it.
use Rattle.std.proofs.Common.{◌≡◌, refl, sym, ◌∙◌, ap, subst, ℕ, zero, suc, ◌<◌, Bool, true, false, ◌||◌, if◌then◌else◌, List, [], ◌∷◌, ◌++◌, length, map, All, Contains, Option, Some, None, is_some, IfSome, slice_get, slice_set}
use Rattle.std.specs.List.{HoldsAt}
use Rattle.std.proofs.lemmas.Grind.{merely}
use Rattle.std.proofs.lemmas.List.{get_or_default}
use Rattle.std.proofs.lemmas.List.Elements.{All-nil, All-cons, All-push, All-set}
use Rattle.sdl_signal.specs.declared.ids.SetId.{SetId}
use Rattle.sdl_signal.specs.declared.ids.SignalId.{SignalId}
use Rattle.sdl_signal.specs.declared.values.Sort.{Sort}
use Rattle.sdl_signal.specs.declared.values.Value.{Value}
use Rattle.sdl_signal.specs.declared.values.Value.TheVariants as value
use Rattle.sdl_signal.specs.declared.values.Signal.{Signal}
use Rattle.sdl_signal.specs.Sorts.{sort_of, AreOfSorts}
use Rattle.sdl_routes.specs.declared.route.Via.{Via}
use Rattle.sdl_transition_behaviour.specs.declared.step.Frame.{Frame}
use Rattle.sdl_transition_behaviour.specs.declared.step.Dest.{Dest}
use Rattle.sdl_transition_behaviour.specs.declared.step.Action.{Action}
use Rattle.sdl_transition_behaviour.specs.declared.step.Action.TheVariants as action
use Rattle.sdl_transition_behaviour.specs.declared.step.Next.{Next}
use Rattle.sdl_transition_behaviour.specs.declared.step.Next.TheVariants.{State, Stop}
use Rattle.sdl_transition_behaviour.specs.declared.step.Step.{Step}
use Rattle.sdl_transition_behaviour.specs.declared.offer.SignalSorts.{SignalSorts}
use Rattle.sdl_transition_behaviour.specs.declared.offer.OfferedOutput.{OfferedOutput}
use Rattle.sdl_transition_behaviour.specs.declared.offer.Offer.{Offer}
use Rattle.sdl_transition_behaviour.specs.Offers.{IsLegalPid, IsLegalValue, IsLegalDest, IsTriggerOf, IsFrameOf, IsOfferedAs, IsActionOf, IsNextOf, Conforms}
use Rattle.sdl_listing_expression.specs.declared.syntax.Word.{Word}
use Rattle.sdl_listing_expression.specs.declared.syntax.Word.TheVariants.{SelfPid, Parent, Offspring, Sender}
use Rattle.sdl_listing_expression.specs.declared.syntax.Expr.{Expr}
use Rattle.sdl_listing_expression.specs.Scene.{Scene, parameters_of, parameters, boolean_in, pid_in}
use Rattle.sdl_listing_expression.specs.Sorted.{Scope, sort_in, IsSorted, IsLegalScene}
use Rattle.sdl_listing_expression.specs.Values.{evaluate, bends}
use Rattle.sdl_listing_expression.proofs.KeepSorts.{value_sorted, value_legal}
use Rattle.sdl_listing_body.specs.declared.syntax.Params.{Params, Nothing as NoMore, First'}
use Rattle.sdl_listing_body.specs.declared.syntax.Goal.{Goal}
use Rattle.sdl_listing_body.specs.declared.syntax.Goal.TheVariants as goal
use Rattle.sdl_listing_body.specs.declared.syntax.Body.{Body, Nothing, Output', Create', Assign', If', End}
use Rattle.sdl_listing_body.specs.declared.syntax.Row.{Row}
use Rattle.sdl_listing_body.specs.Doing.{Doing, scene_of, values_of, own_dest, dest_of, params_bend, goal_bends, signal_of, go_on, done_by, after_output, after_create, after_assign, after_test, nothing_done, doing, IsStepOf}
use Rattle.sdl_listing_body.specs.Offering.{sorts_of, output_of, same_output, same_set, same_state, with_output, with_create, with_next, with_body, offer_before, offer_of}
use Rattle.sdl_listing_body.specs.Sound.{AreSorted, IsGoalIn, IsSortedBody, scope_of, trigger_sorts, IsSound}
use Rattle.sdl_listing_body.proofs.Offered.{Covers, covers_itself, covers_along, covers_body, found, same_output_is, same_set_is, same_state_is, body_sets, body_vars}

-- ---- parameters and destinations

params_sorted : (scope : Scope) (s : Scene) (ps : Params) → AreSorted scope ps → map sort_of (values_of s ps) ≡ sorts_of ps
params_sorted scope s NoMore h = refl
params_sorted scope s (First' e _ rest) h =
    let first : sort_of (evaluate s e) ≡ sort_in e = value_sorted scope s e h.0 in
    let others : map sort_of (values_of s rest) ≡ sorts_of rest = params_sorted scope s rest h.1 in
    cc

params_legal : (scope : Scope) (s : Scene) (ps : Params) → IsLegalScene scope.sets s → AreSorted scope ps → All (IsLegalValue scope.sets) (values_of s ps)
params_legal scope s NoMore l h = All-nil (IsLegalValue scope.sets)
params_legal scope s (First' e _ rest) l h =
    All-cons (IsLegalValue scope.sets) (evaluate s e) (values_of s rest) (value_legal scope s e l h.0) (params_legal scope s rest l h.1)

own_legal : (sets : ℕ) (word : Word) → IsLegalDest sets (own_dest word)
own_legal sets SelfPid = tt
own_legal sets Parent = tt
own_legal sets Offspring = tt
own_legal sets Sender = tt

pid_legal : (sets : ℕ) (v : Value) → IsLegalValue sets v → IsLegalPid sets (pid_in v)
pid_legal sets (value.Integer _) h = tt
pid_legal sets (value.Boolean _) h = tt
pid_legal sets (value.Pid p) h = h

dest_legal : (scope : Scope) (s : Scene) (to : Goal) → IsLegalScene scope.sets s → IsGoalIn scope to → IsLegalDest scope.sets (dest_of s to)
dest_legal scope s goal.Anywhere l h = tt
dest_legal scope s (goal.Own word) l h = own_legal scope.sets word
dest_legal scope s (goal.Set set) l h = tt
dest_legal scope s (goal.Pid e) l h = pid_legal scope.sets (evaluate s e) (value_legal scope s e l h.0)

-- ---- variables

set_sorted : (vars : List Value) (k : ℕ) (v : Value) → slice_get (map sort_of vars) k ≡ Some (sort_of v) → map sort_of (slice_set vars k v) ≡ map sort_of vars
set_sorted [] k v e = refl
set_sorted (x ∷ xs) zero v e = let same : sort_of x ≡ sort_of v = cc in cc
set_sorted (x ∷ xs) (suc k) v e = ap (λ (l : List Sort). sort_of x ∷ l) (set_sorted xs k v e)

-- ---- what is kept along a body

-- the Pids of the frame can be ones
record IsLegalFrame (sets : ℕ) (f : Frame) : Type 0 where
  params : All (IsLegalValue sets) (parameters f)
  self_pid : IsLegalPid sets f.self_pid
  parent : IsLegalPid sets f.parent
  offspring : IsLegalPid sets f.offspring
  sender : IsLegalPid sets f.sender

legal_params : (sets : ℕ) (offered : Option SignalSorts) (signal : Option Signal) → IsTriggerOf sets offered signal → All (IsLegalValue sets) (parameters_of signal)
legal_params sets None None h = All-nil (IsLegalValue sets)
legal_params sets None (Some signal) h = absurd h
legal_params sets (Some offered) None h = absurd h
legal_params sets (Some offered) (Some signal) h = h.2

legal_frame : (p : Offer) (f : Frame) → IsFrameOf p f → IsLegalFrame p.sets f
legal_frame p f h = record {
  params = legal_params p.sets p.signal f.signal h.trigger;
  self_pid = h.self_pid;
  parent = h.parent;
  offspring = h.offspring;
  sender = h.sender;
}

-- what was done so far conforms to the offer
record LogStore (p : Offer) (d : Doing) : Type 0 where
  actions : All (IsActionOf p) d.actions
  sorts : AreOfSorts d.vars p.vars.items
  values : All (IsLegalValue p.sets) d.vars
  next : IfSome d.next (IsNextOf p)

either : (p : Offer) (c : Bool) (d e : Doing) → LogStore p d → LogStore p e → LogStore p (if c then d else e)
either p true d e g h = g
either p false d e g h = h

at_place : {X : Type 0} (P : X → Type 0) (xs : List X) (x : X) → P x → Contains xs x → (k : ℕ) × (k < length xs) × HoldsAt P xs k
at_place P xs x h (k, below, is) = (k, below, λ d. rw (get_or_default xs k d x below, is) h)

is_offered : (outputs : List OfferedOutput) (signal : Signal) (via : Via) (x : OfferedOutput) → IsOfferedAs signal via x → Contains outputs x
    → ∥ ((k : ℕ) × (k < length outputs) × HoldsAt (IsOfferedAs signal via) outputs k) ∥₁
is_offered outputs signal via x h there = merely (at_place (IsOfferedAs signal via) outputs x h there)

-- what the expressions of a row of the offer may name
abbrev scope_in : Offer → List Sort → Scope
scope_in p params = record { sets = p.sets; params = params; vars = p.vars.items }

end_offered : (p o : Offer) (next : Next) → Covers (with_next o next) p → IsNextOf p next
end_offered p o (State state) cov = merely (cov.nexts state (found same_state same_state_is o.nexts.items state))
end_offered p o Stop cov = cov.may_stop refl

module _ (p : Offer) (params : List Sort) (f : Frame) (legal : IsLegalFrame p.sets f) where
  scene_legal : (d : Doing) → LogStore p d → IsLegalScene p.sets (scene_of f d)
  scene_legal d g = record {
    params = legal.params;
    vars = g.values;
    self_pid = legal.self_pid;
    parent = legal.parent;
    offspring = legal.offspring;
    sender = legal.sender;
  }

  output_keeps : (o : Offer) (d : Doing) (id : SignalId) (ps : Params) (to : Goal) (via : Via) → Covers (with_output o (output_of id ps via)) p
      → AreSorted (scope_in p params) ps → IsGoalIn (scope_in p params) to → LogStore p d → LogStore p (after_output f id ps to via d)
  output_keeps o d id ps to via cov sorted in_scope g =
      let legal_now : IsLegalScene p.sets (scene_of f d) = scene_legal d g in
      let there : Contains p.outputs.items (output_of id ps via) =
      cov.outputs (output_of id ps via) (found same_output same_output_is o.outputs.items (output_of id ps via)) in
      let fits : IsOfferedAs (signal_of (scene_of f d) id ps) via (output_of id ps via) =
      (refl, params_sorted (scope_in p params) (scene_of f d) ps sorted, refl) in
      let act : IsActionOf p (action.Output (signal_of (scene_of f d) id ps) (dest_of (scene_of f d) to) via) = (
        is_offered p.outputs.items (signal_of (scene_of f d) id ps) via (output_of id ps via) fits there,
        params_legal (scope_in p params) (scene_of f d) ps legal_now sorted,
        dest_legal (scope_in p params) (scene_of f d) to legal_now in_scope,
      ) in
      record {
        actions = All-push (IsActionOf p) d.actions (action.Output (signal_of (scene_of f d) id ps) (dest_of (scene_of f d) to) via) g.actions act;
        sorts = g.sorts;
        values = g.values;
        next = g.next;
      }

  create_keeps : (o : Offer) (d : Doing) (set : SetId) → Covers (with_create o set) p → LogStore p d → LogStore p (after_create set d)
  create_keeps o d set cov g =
      let act : IsActionOf p (action.Create set) = merely (cov.creates set (found same_set same_set_is o.creates.items set)) in
      record { actions = All-push (IsActionOf p) d.actions (action.Create set) g.actions act; sorts = g.sorts; values = g.values; next = g.next }

  assign_keeps : (d : Doing) (k : ℕ) (e : Expr) → IsSorted (scope_in p params) e → slice_get p.vars.items k ≡ Some (sort_in e) → LogStore p d → LogStore p (after_assign f k e d)
  assign_keeps d k e sorted placed g =
      let own : sort_of (evaluate (scene_of f d) e) ≡ sort_in e = value_sorted (scope_in p params) (scene_of f d) e sorted in
      let place : slice_get (map sort_of d.vars) k ≡ Some (sort_of (evaluate (scene_of f d) e)) =
      ap (λ (l : List Sort). slice_get l k) g.sorts ∙ (placed ∙ ap (λ (t : Sort). Some t) (sym own)) in
      record {
        actions = g.actions;
        sorts = set_sorted d.vars k (evaluate (scene_of f d) e) place ∙ g.sorts;
        values = All-set (IsLegalValue p.sets) d.vars k (evaluate (scene_of f d) e) (value_legal (scope_in p params) (scene_of f d) e (scene_legal d g) sorted) g.values;
        next = g.next;
      }

  keeps : (b : Body) (o : Offer) (d : Doing) → Covers (with_body b o) p → IsSortedBody (scope_in p params) b → LogStore p d → LogStore p (done_by f b d)
  keeps Nothing o d cov sorted g = g
  keeps (Output' id ps to via _ rest) o d cov sorted g =
      let own = with_output o (output_of id ps via) in
      let here : Covers own p = covers_along own (with_body rest own) p (covers_body rest own) cov in
      keeps rest own (after_output f id ps to via d) cov sorted.2 (output_keeps o d id ps to via here sorted.0 sorted.1 g)
  keeps (Create' set _ rest) o d cov sorted g =
      let own = with_create o set in
      let here : Covers own p = covers_along own (with_body rest own) p (covers_body rest own) cov in
      keeps rest own (after_create set d) cov sorted.1 (create_keeps o d set here g)
  keeps (Assign' k e _ rest) o d cov sorted g = keeps rest o (after_assign f k e d) cov sorted.2 (assign_keeps d k e sorted.0 sorted.1 g)
  keeps (If' c _ on_true _ on_false _ rest) o d cov sorted g =
      let first = with_body on_true o in
      let second = with_body on_false first in
      let behind : Covers second p = covers_along second (with_body rest second) p (covers_body rest second) cov in
      let between : Covers first p = covers_along first second p (covers_body on_false first) behind in
      let tested : LogStore p (after_test f c d) = record { actions = g.actions; sorts = g.sorts; values = g.values; next = g.next } in
      let chosen : Doing = if boolean_in (evaluate (scene_of f d) c) then done_by f on_true (after_test f c d) else done_by f on_false (after_test f c d) in
      let side : LogStore p chosen =
      either p (boolean_in (evaluate (scene_of f d) c)) (done_by f on_true (after_test f c d)) (done_by f on_false (after_test f c d))
      (keeps on_true o (after_test f c d) between sorted.2 tested) (keeps on_false first (after_test f c d) behind sorted.3 tested) in
      either p (is_some chosen.next) chosen (done_by f rest chosen) side (keeps rest second chosen cov sorted.4 side)
  keeps (End next) o d cov sorted g = record { actions = g.actions; sorts = g.sorts; values = g.values; next = end_offered p o next cov }

scope_with : ℕ → List Sort → List Sort → Scope
scope_with sets params vars = record { sets = sets; params = params; vars = vars }

scope_same : (n m : ℕ) (params s t : List Sort) → n ≡ m → s ≡ t → scope_with n params s ≡ scope_with m params t
scope_same n m params s t e f = cc

same_scope : (row : Row) → scope_of row ≡ scope_in (offer_of row) (trigger_sorts row.signal)
unfolding scope_with
same_scope row =
    scope_same row.sets (offer_of row).sets (trigger_sorts row.signal) row.vars.items (offer_of row).vars.items
    (sym (body_sets row.body (offer_before row))) (sym (body_vars row.body (offer_before row)))

pub conforming : (row : Row) (f : Frame) (step : Step) → IsSortedBody (scope_of row) row.body → IsFrameOf (offer_of row) f → IsStepOf row f step → Conforms (offer_of row) step
conforming row f step sorted frame is =
    let begun : LogStore (offer_of row) (nothing_done f) = record { actions = All-nil (IsActionOf (offer_of row)); sorts = frame.sorts; values = frame.values; next = tt } in
    let in_scope : IsSortedBody (scope_in (offer_of row) (trigger_sorts row.signal)) row.body = subst (λ (s : Scope). IsSortedBody s row.body) (same_scope row) sorted in
    let g : LogStore (offer_of row) (doing row f) =
    keeps (offer_of row) (trigger_sorts row.signal) f (legal_frame (offer_of row) f frame) row.body (offer_before row) (nothing_done f) (covers_itself (offer_of row)) in_scope begun in
    record {
      actions = subst (λ (l : List Action). All (IsActionOf (offer_of row)) l) (sym is.actions) g.actions;
      sorts = subst (λ (l : List Value). AreOfSorts l (offer_of row).vars.items) (sym is.vars) g.sorts;
      values = subst (λ (l : List Value). All (IsLegalValue (offer_of row).sets) l) (sym is.vars) g.values;
      next = subst (λ (o : Option Next). IfSome o (IsNextOf (offer_of row))) (sym is.next) g.next;
    }
