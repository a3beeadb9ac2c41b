-- Forwarders that a round passes over, since they could do nothing.
use Rattle.std.proofs.Common.{ℕ, zero, suc, ◌+◌, ◌-◌, ◌<◌, ◌≤◌, Bool, true, false, List, [], ◌∷◌, length, map, get_or, slice_get, set, ◌≡◌, ◌≢◌, Some, None, inl, inr, refl, ap, sym, ◌∙◌, subst, arith}
use Rattle.std.specs.Bool.{MatchBool, ⊤}
use Rattle.std.specs.List.Sorted.{IsNonDecreasingBy}
use Rattle.std.proofs.lemmas.Bool.{cases_eq, cases_lt, false≢true}
use Rattle.std.proofs.lemmas.List.{get_or-map, length-map}
use Rattle.std.proofs.lemmas.Option.{same_Some, slice_get_within, get_or_from_slice_get}
use Rattle.sdl_routes.specs.declared.route.Hop.{Hop}
use Rattle.sdl_routes.specs.declared.route.Station.TheVariants.{Line}
use Rattle.sdl_forward.specs.Boards.{waiting, IsBoardOf}
use Rattle.sdl_forward.specs.Forwards.{Forwarding}
use Rattle.sdl_forward.specs.declared.forwarder.Forwarded.{Forwarded}
use Rattle.sdl_forward.specs.declared.forwarder.Forwarded.TheVariants as forwarded
use Rattle.sdl_transition_behaviour.specs.declared.step.Frame.{Frame}
use Rattle.sdl_transition_behaviour.specs.declared.step.Step.{Step}
use Rattle.sdl_block_hand.specs.declared.hand.Stepped.{Stepped}
use Rattle.sdl_block_hand.specs.declared.hand.Stepped.TheVariants.{Idle, Memory}
use Rattle.sdl_run_outcome.specs.Plan.{Plan, blocks_in, lines_of}
use Rattle.sdl_run_outcome.proofs.Lists.{get_set, get_set_other, set_same}
use Rattle.sdl_run_outcome.proofs.Lines.{lines_rise, rise_by_channel}
use Rattle.sdl_run_order.specs.Driver.{Site, IsAtWork, ForwarderSteps}
use Rattle.sdl_run_driver.specs.declared.driver.Driver.{Driver}
use Rattle.sdl_run_driver.specs.Drivers.{site_of, AllFree, AreByChannel, IsIdleAt, HasGone, stepped_by}
use Rattle.sdl_run_driver.specs.Systems.{plan_of, IsSameSystem}
use Rattle.sdl_run_driver.specs.Runs.{workers_below, WorkerSteps, StepsThrough}
use Rattle.sdl_run_driver.proofs.Running.{round_on, worker_by}

-- a forwarder that holds nothing, and at whose path nothing waits, could do nothing
module _ (may : ℕ → Frame → Step → Type 0) (plan : Plan) (site : Site) (board : IsBoardOf plan.routes site.board) (n k : ℕ) (f : Forwarding)
    (at : slice_get site.forwarders k ≡ Some f) (held : f.held ≡ None) (empty : waiting site.board (Line f.hop) ≡ []) where
  pub passed_steps : n ≡ blocks_in plan + 1 + k → WorkerSteps may plan n 0 Idle site site
  passed_steps place = inr (inr (
    k,
    forwarded.Idle,
    place,
    refl,
    record {
      was = f;
      is = f;
      before = at;
      step = record { held = held; empty = empty; forwarder = refl; board = refl };
      board = board;
      after = sym (set_same site.forwarders k f at);
      blocks = refl;
      environment = refl;
    },
  ))

  pub passed_idle : n ≡ length site.blocks + 1 + k → IsIdleAt site n
  passed_idle place = record {
    block = λ w there. let l = slice_get_within site.blocks n w there in absurd (omega arith);
    environment = λ e. absurd (omega arith);
    forwarder = λ j g e there.
        let same : j ≡ k = omega arith in
        let found : f ≡ g = same_Some f g (sym at ∙ subst (λ (m : ℕ). slice_get site.forwarders m ≡ Some g) same there) in
        (ap (λ (x : Forwarding). x.held) (sym found) ∙ held, subst (λ (x : Forwarding). waiting site.board (Line x.hop) ≡ []) found empty);
  }

-- no forwarder comes to hold an item, but at a refusal
module _ (may : ℕ → Frame → Step → Type 0) (plan : Plan) (n : ℕ) (answer : Stepped) (old new : Site) (not : answer ≢ Memory) (free : AllFree old) where
  freed : (k : ℕ) (did : Forwarded) → answer ≡ stepped_by did → (steps : ForwarderSteps plan k did old new) → steps.is.held ≡ None
  freed k forwarded.Moved is steps = ap (λ (f : Forwarding). f.held) steps.step.emptied
  freed k forwarded.Idle is steps = ap (λ (f : Forwarding). f.held) steps.step.forwarder ∙ steps.step.held
  freed k forwarded.Held is steps = absurd (not is)

  forwarder_free : (k : ℕ) (did : Forwarded) → answer ≡ stepped_by did → ForwarderSteps plan k did old new → AllFree new
  forwarder_free k did is steps j f at =
      let there : slice_get (set old.forwarders k steps.is) j ≡ Some f = subst (λ (fs : List Forwarding). slice_get fs j ≡ Some f) steps.after at in
      elim (cases_eq j k) [
        | inl same ↦ (
            let found : steps.is ≡ f = same_Some steps.is f (sym (get_set old.forwarders k steps.was steps.is steps.before) ∙ subst (λ (m : ℕ). slice_get (set old.forwarders k steps.is) m ≡ Some f) same there) in
            ap (λ (x : Forwarding). x.held) (sym found) ∙ freed k did is steps)
        | inr other ↦ free j f (sym (get_set_other old.forwarders k j steps.is other) ∙ there)
      ]

  pub free_still : WorkerSteps may plan n 0 answer old new → AllFree new
  free_still (inl (steps, chosen)) j f at = free j f (subst (λ (fs : List Forwarding). slice_get fs j ≡ Some f) steps.forwarders at)
  free_still (inr (inl (place, steps, chosen))) j f at = free j f (subst (λ (fs : List Forwarding). slice_get fs j ≡ Some f) steps.forwarders at)
  free_still (inr (inr (k, did, place, is, steps))) j f at = forwarder_free k did is steps j f at

-- a round that passes over workers which could do nothing
module _ (may : ℕ → Frame → Step → Type 0) (plan : Plan) (start now : Site) (a : ℕ) where
  pass_more : (d : ℕ) → ((n : ℕ) → a ≤ n → n < a + d → WorkerSteps may plan n 0 Idle now now) → StepsThrough may plan (workers_below a) None start now
      → StepsThrough may plan (workers_below (a + d)) None start now
  pass_more zero each before =
      let here : a ≡ a + zero = omega arith in
      subst (λ (m : ℕ). StepsThrough may plan (workers_below m) None start now) here before
  pass_more (suc d) each before =
      let further : a + d + 1 ≡ a + suc d = omega arith in
      subst (λ (m : ℕ). StepsThrough may plan (workers_below m) None start now) further
      (round_on may plan (a + d) Idle start now now (pass_more d (λ n from below. each n from (omega (arith, below))) before) (λ e. cc) (each (a + d) (omega arith) (omega arith)))

  module _ (b : ℕ) (from : a ≤ b) where
    pub pass_steps : ((n : ℕ) → a ≤ n → n < b → WorkerSteps may plan n 0 Idle now now) → StepsThrough may plan (workers_below a) None start now → StepsThrough may plan (workers_below b) None start now
    pass_steps each before =
        let end : a + (b - a) ≡ b = omega arith in
        subst (λ (m : ℕ). StepsThrough may plan (workers_below m) None start now) end (pass_more (b - a) (λ n lower below. each n lower (omega (arith, end, below))) before)

    pub pass_gone : (did : Bool) → ((n : ℕ) → a ≤ n → n < b → IsIdleAt now n) → HasGone plan start now did a → HasGone plan start now did b
    pass_gone did each gone = record {
      less = gone.less;
      idle = λ none.
          let before = gone.idle none in (
            before.0,
            λ k below. elim (cases_lt k a) [
              | inl here ↦ before.1 k here
              | inr past ↦ subst (λ (s : Site). IsIdleAt s k) before.0 (each k past below)
            ],
          );
    }

found_at : {X : Type 0} (xs : List X) (k : ℕ) → k < length xs → (x : X) × (slice_get xs k ≡ Some x)
found_at [] k less = absurd (omega arith)
found_at (x ∷ xs) zero less = (x, refl)
found_at (x ∷ xs) (suc k) less = found_at xs k (omega arith)

-- of forwarders, none of which holds an item, those at whose paths nothing waits
pub passed_over : (may : ℕ → Frame → Step → Type 0) (plan : Plan) (site : Site) → IsAtWork may plan site → AllFree site → (first from next : ℕ) → first ≡ length site.blocks + 1 → next ≤ length site.forwarders
    → ((k : ℕ) (f : Forwarding) → from ≤ k → k < next → slice_get site.forwarders k ≡ Some f → waiting site.board (Line f.hop) ≡ [])
    → (n : ℕ) → first + from ≤ n → n < first + next → WorkerSteps may plan n 0 Idle site site × IsIdleAt site n
passed_over may plan site work free first from next is within empty n lower below =
    let at = found_at site.forwarders (n - first) (omega (arith, lower, below, within)) in
    let none = empty (n - first) at.0 (omega (arith, lower)) (omega (arith, lower, below)) at.1 in (
      passed_steps may plan site work.board n (n - first) at.0 at.1 (free (n - first) at.0 at.1) none (omega (arith, lower, is, work.blocks)),
      passed_idle may plan site work.board n (n - first) at.0 at.1 (free (n - first) at.0 at.1) none (omega (arith, lower, is)),
    )

-- a step of a round, and then workers that are passed over
module _ {S K I : Type 0} {F : I → Type 0} {g : _} (may : ℕ → Frame → Step → Type 0) (start next : Driver S K I F g) (same : IsSameSystem start.system next.system) (a b : ℕ) (from : a ≤ b)
    (each : (n : ℕ) → a ≤ n → n < b → WorkerSteps may (plan_of next.system) n 0 Idle (site_of next) (site_of next) × IsIdleAt (site_of next) n) where
  pub steps_past : StepsThrough may (plan_of start.system) (workers_below a) None (site_of start) (site_of next) → StepsThrough may (plan_of start.system) (workers_below b) None (site_of start) (site_of next)
  steps_past = pass_steps may (plan_of start.system) (site_of start) (site_of next) a b from (λ n lower below. worker_by may start next same n 0 Idle (site_of next) (site_of next) (each n lower below).0)

  pub gone_past : (did : Bool) → HasGone (plan_of start.system) (site_of start) (site_of next) did a → HasGone (plan_of start.system) (site_of start) (site_of next) did b
  gone_past did = pass_gone may (plan_of start.system) (site_of start) (site_of next) a b from did (λ n lower below. (each n lower below).1)

pub free_of : (answer : Bool) (A : Type 0) → MatchBool answer A ⊤ → answer ≡ true → A
free_of true A h e = h
free_of false A h e = absurd (false≢true e)

-- forwarders stand by channel, as their paths do
module _ (fs : List Forwarding) where
  by_path : IsNonDecreasingBy (λ (h : Hop). h.channel.0) (map (λ f. f.hop) fs) → AreByChannel fs
  by_path up i j d le less =
      let a = ap (λ (h : Hop). h.channel.0) (get_or-map (λ (f : Forwarding). f.hop) fs i d d.hop (omega arith)) in
      let b = ap (λ (h : Hop). h.channel.0) (get_or-map (λ (f : Forwarding). f.hop) fs j d d.hop less) in
      let l = length-map fs (λ (f : Forwarding). f.hop) in
      let u = up i j d.hop le (omega arith) in
      omega arith

  pub by_channel : (plan : Plan) → map (λ f. f.hop) fs ≡ lines_of plan → AreByChannel fs
  by_channel plan same = by_path (subst (IsNonDecreasingBy (λ (h : Hop). h.channel.0)) (sym same) (rise_by_channel (lines_of plan) (lines_rise 0 plan.structure.channels)))

-- Where forwarders stand by channel, those from one on have no lower channel than it, and those before one have no higher channel.
module _ (fs : List Forwarding) (order : AreByChannel fs) where
  pub no_lower : (from k : ℕ) (f d : Forwarding) → from ≤ k → slice_get fs k ≡ Some f → (get_or fs from d).hop.channel.0 ≤ f.hop.channel.0
  no_lower from k f d le at =
      let is = ap (λ (x : Forwarding). x.hop.channel.0) (get_or_from_slice_get fs k f d at) in
      let up = order from k d le (slice_get_within fs k f at) in
      omega arith

  pub before_last : (place busy k : ℕ) (f d : Forwarding) → k < place → place ≤ length fs → (get_or fs (place - 1) d).hop.channel.0 < busy → slice_get fs k ≡ Some f → f.hop.channel.0 < busy
  before_last place busy k f d below within less at =
      let is = ap (λ (x : Forwarding). x.hop.channel.0) (get_or_from_slice_get fs k f d at) in
      let up = order k (place - 1) d (omega (arith, below)) (omega (arith, below, within)) in
      omega arith
