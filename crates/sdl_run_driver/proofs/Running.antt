-- Steps one after another, up to the first refusal.
use Rattle.std.proofs.Common.{◌≡◌, ◌≢◌, ℕ, zero, suc, ◌+◌, ◌%◌, ◌/◌, ◌<◌, ◌≤◌, inl, inr, List, [], ◌∷◌, ◌++◌, map, length, take, get_or, Option, Some, None, MatchOption, refl, ap, sym, ◌∙◌, subst, arith, append_assoc}
use Rattle.sdl_transition_behaviour.specs.declared.step.Frame.{Frame}
use Rattle.sdl_transition_behaviour.specs.declared.step.Step.{Step}
use Rattle.sdl_block_hand.specs.declared.hand.Stepped.{Stepped}
use Rattle.sdl_block_hand.specs.declared.hand.Stepped.TheVariants.{Memory}
use Rattle.sdl_run_outcome.specs.Plan.{Plan, workers_of}
use Rattle.sdl_run_order.specs.Driver.{Site, IsIdle}
use Rattle.sdl_run_driver.specs.declared.driver.Driver.{Driver}
use Rattle.sdl_run_driver.specs.declared.driver.Round.{Round}
use Rattle.sdl_run_driver.specs.Drivers.{site_of}
use Rattle.sdl_run_driver.specs.Systems.{plan_of, IsSameSystem}
use Rattle.sdl_run_driver.specs.Runs.{workers_below, rounds_of, refused_in, WorkerSteps, StepsThrough, Settles, Runs, scheduled}
use Rattle.sdl_run_driver.proofs.Drives.{same_plan}
use Rattle.sdl_run_driver.proofs.Rounds.{last}

idle_of : (refused : Option ℕ) (A : Type 0) (B : ℕ → Type 0) → MatchOption refused A B → refused ≡ None → A
idle_of None A B h none = h
idle_of (Some w) A B h none = cc

-- the workers below w, up to one of them and behind it
below_split : (n w : ℕ) → n < w → (rest : List (ℕ × ℕ)) × (workers_below w ≡ workers_below n ++ (n, 0) ∷ rest)
below_split n zero less = absurd (omega arith)
below_split n (suc w) less = elim (last n w (omega arith)) [
  | inl below ↦ (let h = below_split n w below in (h.0 ++ (w, 0) ∷ [], ap (λ (l : List (ℕ × ℕ)). l ++ (w, 0) ∷ []) h.1 ∙ append_assoc (workers_below n) ((n, 0) ∷ h.0) ((w, 0) ∷ [])))
  | inr at ↦ ([], ap (λ (k : ℕ). workers_below k ++ (k, 0) ∷ []) (sym at))
]

module _ (may : ℕ → Frame → Step → Type 0) (plan : Plan) where
  -- nothing follows a refusal, and without steps nothing changes
  pub none_follow : (w : ℕ) (old new : Site) → StepsThrough may plan [] (Some w) old new → ⊥
  none_follow w old new (refused, same) = cc

  pub no_steps : (site : Site) → StepsThrough may plan [] None site site
  no_steps site = (refl, refl)

  pub one_step : (n pick : ℕ) (answer : Stepped) (old new : Site) → answer ≢ Memory → WorkerSteps may plan n pick answer old new → StepsThrough may plan ((n, pick) ∷ []) None old new
  one_step n pick answer old new not step = inr (new, answer, not, step, (refl, refl))

  pub through_then : (xs ys : List (ℕ × ℕ)) (refused : Option ℕ) (a b c : Site) → StepsThrough may plan xs None a b → StepsThrough may plan ys refused b c → StepsThrough may plan (xs ++ ys) refused a c
  through_then [] ys refused a b c (none, same) h = subst (λ (s : Site). StepsThrough may plan ys refused s c) same h
  through_then (n ∷ xs) ys refused a b c (inl (stop, step)) h = cc
  through_then (n ∷ xs) ys refused a b c (inr (next, answer, not, step, more)) h = inr (next, answer, not, step, through_then xs ys refused next b c more h)

  -- a refusal ends it, whatever was to follow
  pub through_stop : (xs ys : List (ℕ × ℕ)) (w : ℕ) (a b : Site) → StepsThrough may plan xs (Some w) a b → StepsThrough may plan (xs ++ ys) (Some w) a b
  through_stop [] ys w a b h = absurd (none_follow w a b h)
  through_stop (n ∷ xs) ys w a b (inl here) = inl here
  through_stop (n ∷ xs) ys w a b (inr (next, answer, not, step, more)) = inr (next, answer, not, step, through_stop xs ys w next b more)

  -- in a round
  pub round_on : (n : ℕ) (answer : Stepped) (a b c : Site) → StepsThrough may plan (workers_below n) None a b → answer ≢ Memory → WorkerSteps may plan n 0 answer b c → StepsThrough may plan (workers_below (n + 1)) None a c
  round_on n answer a b c before not step =
      let next : suc n ≡ n + 1 = omega arith in
      subst (λ (k : ℕ). StepsThrough may plan (workers_below k) None a c) next (through_then (workers_below n) ((n, 0) ∷ []) None a b c before (one_step n 0 answer b c not step))

  pub round_stops : (n w : ℕ) (a b c : Site) → n < w → StepsThrough may plan (workers_below n) None a b → WorkerSteps may plan n 0 Memory b c → StepsThrough may plan (workers_below w) (Some n) a c
  round_stops n w a b c less before step =
      let split = below_split n w less in
      subst (λ (l : List (ℕ × ℕ)). StepsThrough may plan l (Some n) a c) (sym split.1) (through_then (workers_below n) ((n, 0) ∷ split.0) (Some n) a b c before (inl (refl, step)))

  -- round by round
  pub settles_on : (refused : Option ℕ) (a b c : Site) → Settles may plan None a b → StepsThrough may plan (workers_below (length (workers_of plan))) refused b c → Settles may plan refused a c
  settles_on refused a b c (rounds, before) round =
      (suc rounds, through_then (rounds_of (length (workers_of plan)) rounds) (workers_below (length (workers_of plan))) refused a b c before round)

  pub none_settled : (site : Site) → Settles may plan None site site
  none_settled site = (0, no_steps site)

  -- by the schedule, of which so many numbers are done
  module _ (f : ℕ → ℕ × ℕ) where
    pub schedule_on : (i : ℕ) (xs : List ℕ) (answer : Stepped) (a b c : Site) → i < length xs → StepsThrough may plan (map f (take i xs)) None a b → answer ≢ Memory
        → (d : ℕ) → WorkerSteps may plan (f (get_or xs i d)).0 (f (get_or xs i d)).1 answer b c → StepsThrough may plan (map f (take (suc i) xs)) None a c
    schedule_on i [] answer a b c less before not d step = absurd (omega arith)
    schedule_on zero (x ∷ xs) answer a b c less (none, same) not d step = inr (c, answer, not, subst (λ (s : Site). WorkerSteps may plan (f x).0 (f x).1 answer s c) same step, (refl, refl))
    schedule_on (suc i) (x ∷ xs) answer a b c less (inl (stop, other)) not d step = cc
    schedule_on (suc i) (x ∷ xs) answer a b c less (inr (next, first, went, other, more)) not d step =
        inr (next, first, went, other, schedule_on i xs answer next b c (omega arith) more not d step)

    pub schedule_stops : (i : ℕ) (xs : List ℕ) (ys : List (ℕ × ℕ)) (a b c : Site) → i < length xs → StepsThrough may plan (map f (take i xs)) None a b
        → (d : ℕ) → WorkerSteps may plan (f (get_or xs i d)).0 (f (get_or xs i d)).1 Memory b c → StepsThrough may plan (map f xs ++ ys) (Some (f (get_or xs i d)).0) a c
    schedule_stops i [] ys a b c less before d step = absurd (omega arith)
    schedule_stops zero (x ∷ xs) ys a b c less (none, same) d step = inl (refl, subst (λ (s : Site). WorkerSteps may plan (f x).0 (f x).1 Memory s c) same step)
    schedule_stops (suc i) (x ∷ xs) ys a b c less (inl (stop, other)) d step = cc
    schedule_stops (suc i) (x ∷ xs) ys a b c less (inr (next, first, went, other, more)) d step =
        inr (next, first, went, other, schedule_stops i xs ys next b c (omega arith) more d step)

    all_taken : (i : ℕ) (xs : List ℕ) → length xs ≤ i → take i xs ≡ xs
    all_taken zero [] less = refl
    all_taken (suc i) [] less = refl
    all_taken zero (x ∷ xs) less = absurd (omega arith)
    all_taken (suc i) (x ∷ xs) less = ap (λ (l : List ℕ). x ∷ l) (all_taken i xs (omega arith))

    pub schedule_done : (i : ℕ) (xs : List ℕ) (a b : Site) → length xs ≤ i → StepsThrough may plan (map f (take i xs)) None a b → StepsThrough may plan (map f xs) None a b
    schedule_done i xs a b done h = subst (λ (l : List ℕ). StepsThrough may plan (map f l) None a b) (all_taken i xs done) h

  -- a whole run
  pub runs_stop : (schedule : List ℕ) (w : ℕ) (a b : Site) → StepsThrough may plan (scheduled plan schedule ++ []) (Some w) a b → Runs may plan schedule (Some w) a b
  runs_stop schedule w a b h = record { rounds = 0; steps = h; idle = λ e. cc }

  pub runs_then : (schedule : List ℕ) (refused : Option ℕ) (a b c : Site) → StepsThrough may plan (scheduled plan schedule) None a b → Settles may plan refused b c → (refused ≡ None → IsIdle c) → Runs may plan schedule refused a c
  runs_then schedule refused a b c before (rounds, after) idle =
      record { rounds = rounds; steps = through_then (scheduled plan schedule) (rounds_of (length (workers_of plan)) rounds) refused a b c before after; idle = idle }

-- in terms of the first plan
module _ {S K I : Type 0} {F : I → Type 0} {g : _} (may : ℕ → Frame → Step → Type 0) (first now : Driver S K I F g) (same : IsSameSystem first.system now.system) where
  pub worker_by : (n pick : ℕ) (answer : Stepped) (old new : Site) → WorkerSteps may (plan_of now.system) n pick answer old new → WorkerSteps may (plan_of first.system) n pick answer old new
  worker_by n pick answer old new h = subst (λ (p : Plan). WorkerSteps may p n pick answer old new) (same_plan first.system now.system same) h

  pub round_by : (refused : Option ℕ) (old new : Site) → StepsThrough may (plan_of now.system) (workers_below (length (workers_of (plan_of now.system)))) refused old new
      → StepsThrough may (plan_of first.system) (workers_below (length (workers_of (plan_of first.system)))) refused old new
  round_by refused old new h = subst (λ (p : Plan). StepsThrough may p (workers_below (length (workers_of p))) refused old new) (same_plan first.system now.system same) h

  pub settles_by : (refused : Option ℕ) (old new : Site) → Settles may (plan_of now.system) refused old new → Settles may (plan_of first.system) refused old new
  settles_by refused old new h = subst (λ (p : Plan). Settles may p refused old new) (same_plan first.system now.system same) h

module _ {S K I : Type 0} {F : I → Type 0} {g : _} (may : ℕ → Frame → Step → Type 0) (first now next : Driver S K I F g) (same : IsSameSystem first.system now.system) where
  -- one round more
  pub round_after : (is answer : Round) → answer ≡ is → Settles may (plan_of first.system) None (site_of first) (site_of now)
      → StepsThrough may (plan_of now.system) (workers_below (length (workers_of (plan_of now.system)))) (refused_in answer) (site_of now) (site_of next) → Settles may (plan_of first.system) (refused_in is) (site_of first) (site_of next)
  round_after is answer e before round =
      settles_on may (plan_of first.system) (refused_in is) (site_of first) (site_of now) (site_of next) before
      (subst (λ (a : Round). StepsThrough may (plan_of first.system) (workers_below (length (workers_of (plan_of first.system)))) (refused_in a) (site_of now) (site_of next)) e
      (round_by may first now same (refused_in answer) (site_of now) (site_of next) round))

  -- a number of the schedule more, or a refusal there
  module _ (schedule : List ℕ) (i count : ℕ) (is : count ≡ length (workers_of (plan_of first.system))) (less : i < length schedule)
      (before : StepsThrough may (plan_of first.system) (scheduled (plan_of first.system) (take i schedule)) None (site_of first) (site_of now)) where
    counted : (answer : Stepped) → WorkerSteps may (plan_of now.system) (get_or schedule i 0 % count) (get_or schedule i 0 / count) answer (site_of now) (site_of next)
        → WorkerSteps may (plan_of first.system) (get_or schedule i 0 % length (workers_of (plan_of first.system))) (get_or schedule i 0 / length (workers_of (plan_of first.system))) answer (site_of now) (site_of next)
    counted answer step =
        subst (λ (m : ℕ). WorkerSteps may (plan_of first.system) (get_or schedule i 0 % m) (get_or schedule i 0 / m) answer (site_of now) (site_of next)) is
        (worker_by may first now same (get_or schedule i 0 % count) (get_or schedule i 0 / count) answer (site_of now) (site_of next) step)

    pub scheduled_on : (answer : Stepped) → answer ≢ Memory → WorkerSteps may (plan_of now.system) (get_or schedule i 0 % count) (get_or schedule i 0 / count) answer (site_of now) (site_of next)
        → StepsThrough may (plan_of first.system) (scheduled (plan_of first.system) (take (i + 1) schedule)) None (site_of first) (site_of next)
    scheduled_on answer not step =
        let one : suc i ≡ i + 1 = omega arith in
        subst (λ (k : ℕ). StepsThrough may (plan_of first.system) (scheduled (plan_of first.system) (take k schedule)) None (site_of first) (site_of next)) one
        (schedule_on may (plan_of first.system) (λ n. (n % length (workers_of (plan_of first.system)), n / length (workers_of (plan_of first.system)))) i schedule answer (site_of first) (site_of now) (site_of next) less before not 0 (counted answer step))

    pub scheduled_stops : (answer : Stepped) → answer ≡ Memory → WorkerSteps may (plan_of now.system) (get_or schedule i 0 % count) (get_or schedule i 0 / count) answer (site_of now) (site_of next)
        → Runs may (plan_of first.system) schedule (Some (get_or schedule i 0 % count)) (site_of first) (site_of next)
    scheduled_stops answer e step =
        let stopped = schedule_stops may (plan_of first.system) (λ n. (n % length (workers_of (plan_of first.system)), n / length (workers_of (plan_of first.system)))) i schedule [] (site_of first) (site_of now) (site_of next) less before 0
        (subst (λ (a : Stepped). WorkerSteps may (plan_of first.system) (get_or schedule i 0 % length (workers_of (plan_of first.system))) (get_or schedule i 0 / length (workers_of (plan_of first.system))) a (site_of now) (site_of next)) e (counted answer step)) in
        subst (λ (m : ℕ). Runs may (plan_of first.system) schedule (Some (get_or schedule i 0 % m)) (site_of first) (site_of next)) (sym is)
        (runs_stop may (plan_of first.system) schedule (get_or schedule i 0 % length (workers_of (plan_of first.system))) (site_of first) (site_of next) stopped)

  -- the schedule is done, and the rest settles
  pub scheduled_settles : (schedule : List ℕ) (i : ℕ) (refused : Option ℕ) (B : ℕ → Type 0) → length schedule ≤ i → StepsThrough may (plan_of first.system) (scheduled (plan_of first.system) (take i schedule)) None (site_of first) (site_of now)
      → Settles may (plan_of now.system) refused (site_of now) (site_of next) → MatchOption refused (IsIdle (site_of next)) B → Runs may (plan_of first.system) schedule refused (site_of first) (site_of next)
  scheduled_settles schedule i refused B done before settled answer =
      runs_then may (plan_of first.system) schedule refused (site_of first) (site_of now) (site_of next)
      (schedule_done may (plan_of first.system) (λ n. (n % length (workers_of (plan_of first.system)), n / length (workers_of (plan_of first.system)))) i schedule (site_of first) (site_of now) done before)
      (settles_by may first now same refused (site_of now) (site_of next) settled) (idle_of refused (IsIdle (site_of next)) B answer)
