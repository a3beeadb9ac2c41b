-- The environment's step that does something lowers what is left to do.
use Rattle.std.proofs.Common.{ℕ, ◌+◌, ◌-◌, ◌<◌, ◌≤◌, ◌*◌, List, [], ◌∷◌, ◌++◌, map, length, ◌≡◌, ◌≢◌, ◌⊎◌, inl, inr, Option, Some, None, refl, ap, sym, ◌∙◌, subst, arith, sum_by}
use Rattle.std.specs.List.{AllByRecursion}
use Rattle.std.proofs.lemmas.List.Sums.{sum_by-append}
use Rattle.sdl_signal.specs.declared.values.Item.{Item}
use Rattle.sdl_signal.specs.declared.ends.InputEnd.{InputEnd}
use Rattle.sdl_structure_parts.specs.Structure.{Structure}
use Rattle.sdl_routes.specs.declared.route.TableRow.{TableRow}
use Rattle.sdl_routes.specs.declared.route.Station.{Station}
use Rattle.sdl_routes.specs.declared.route.Station.TheVariants.{Outlet}
use Rattle.sdl_transition_behaviour.specs.declared.step.Frame.{Frame}
use Rattle.sdl_transition_behaviour.specs.declared.step.Step.{Step}
use Rattle.sdl_forward.specs.Boards.{waiting, IsBoardOf}
use Rattle.sdl_run_outcome.specs.declared.environment_output.EnvOut.{EnvOut}
use Rattle.sdl_run_outcome.specs.declared.environment_output.EnvOut.TheVariants as env_out
use Rattle.sdl_forward_opening.specs.declared.worker.Worker.{Worker}
use Rattle.sdl_forward_opening.specs.declared.worker.Worker.TheVariants.{Block, Environment, Forwarder}
use Rattle.sdl_forward_opening.proofs.Bringing.{among_right}
use Rattle.sdl_run_outcome.specs.Stations.{Among, place}
use Rattle.sdl_run_outcome.specs.Books.{standing}
use Rattle.sdl_run_outcome.specs.Steps.{bound_for}
use Rattle.sdl_run_outcome.specs.Plan.{Plan, IsPlan, blocks_in, blocks_from, lines_of, workers_of, ways_of}
use Rattle.sdl_run_outcome.specs.EnvironmentWork.{EnvWorking, EnvWorks, ReadsOn, env_sent}
use Rattle.sdl_run_order.specs.Driver.{Site, site_books, IsAtWork}
use Rattle.sdl_run_order.specs.Measure.{stations_from, to_go, to_go_out, lines_left, turns_left, load, work_left}
use Rattle.sdl_run_outcome.proofs.Lists.{all_end}
use Rattle.sdl_run_outcome.proofs.Sums.{sum_lower, sum_both}
use Rattle.sdl_run_outcome.proofs.Workers.{workers_once, place_apart}
use Rattle.sdl_run_order.proofs.Lowers.{out_is, out_short, at_least, all_stations, put_load, put_most}
use Rattle.sdl_run_order.proofs.StepEnvironment.{outlet_parts, env_else, env_quiet, env_keeps}

-- where not both are empty, there is an element
pub something : {X Y : Type 0} (xs : List X) (ys : List Y) → ((xs ≡ []) × (ys ≡ []) → ⊥) → 1 ≤ length xs + length ys
something [] [] h = absurd (h (refl, refl))
something [] (y ∷ ys) h = omega arith
something (x ∷ xs) ys h = omega arith

-- an output sends one item at most
sent_few : (outs : List EnvOut) → length (env_sent outs) ≤ length outs
sent_few [] = omega arith
sent_few (env_out.Sent i ∷ outs) = let a = sent_few outs in omega arith
sent_few (env_out.NoRoute o line ∷ outs) = let a = sent_few outs in omega arith

-- the lines left, by how the reading ended and how many lines were read
abbrev left_by : Option InputEnd → ℕ → ℕ
left_by o n = elim o as (λ _. ℕ) [ None ↦ (16384 - n) + 1 | Some end ↦ 0 ]

left_none : (o : Option InputEnd) (n : ℕ) → o ≢ None → left_by o n ≡ 0
left_none None n h = absurd (h refl)
left_none (Some end) n h = refl

-- so much less is to be read
abbrev Less : EnvWorking → List EnvOut → EnvWorking → Type 0
Less old outs new = (k : ℕ) × (lines_left old ≡ lines_left new + k) × (length outs ≤ k) × (((new.ended ≡ old.ended) × (outs ≡ [])) ⊎ (1 ≤ k))

reads_less : (s : Structure) (routes : List TableRow) (n : ℕ) (old : EnvWorking) (outs : List EnvOut) (new : EnvWorking) → new.reading.carried ≤ 16384 → ReadsOn s routes n old outs new → Less old outs new
reads_less s routes n old outs new few (inl (none, ended, reading)) =
    let a : lines_left new ≡ left_by old.ended new.reading.carried = ap (λ (o : Option InputEnd). left_by o new.reading.carried) ended in
    let b : left_by old.ended new.reading.carried ≡ lines_left old = ap (λ r. left_by old.ended r.carried) reading in
    let c = ap length none in
    (0, omega (arith, a, b), omega (arith, c), inl (ended, none))
reads_less s routes n old outs new few (inr (inl (was, is, one, more))) =
    let a : lines_left old ≡ (16384 - old.reading.carried) + 1 = ap (λ (o : Option InputEnd). left_by o old.reading.carried) was in
    let b : lines_left new ≡ (16384 - new.reading.carried) + 1 = ap (λ (o : Option InputEnd). left_by o new.reading.carried) is in
    (1, omega (arith, a, b, few, more), omega (arith, one), inr (omega arith))
reads_less s routes n old outs new few (inr (inr (was, is, none, same))) =
    let a : lines_left old ≡ (16384 - old.reading.carried) + 1 = ap (λ (o : Option InputEnd). left_by o old.reading.carried) was in
    let b : lines_left new ≡ 0 = left_none new.ended new.reading.carried is in
    let c = ap length none in
    ((16384 - old.reading.carried) + 1, omega (arith, a, b), omega (arith, c), inr (omega arith))

module _ (may : ℕ → Frame → Step → Type 0) (plan : Plan) (ok : IsPlan plan) (old : Site) (work : IsAtWork may plan old) (is : EnvWorking) (board : List (Station × List Item))
    (complete : IsBoardOf plan.routes board) (works : EnvWorks plan.structure plan.routes (blocks_in plan) old.environment old.board is board) where
  abbrev then : Site
  then = record { blocks = old.blocks; environment = is; forwarders = old.forwarders; board = board }

  abbrev put_at : Worker → ℕ
  put_at = put_load (ways_of plan) Environment works.put

  -- the loads with what is put, before the environment's own changes
  abbrev fuller : Worker → ℕ
  fuller v = load plan old v + put_at v

  turns_else : (v : Worker) → v ≢ Environment → turns_left plan.budget old.blocks is v ≡ turns_left plan.budget old.blocks old.environment v
  turns_else (Block b) e = refl
  turns_else Environment e = absurd (e refl)
  turns_else (Forwarder h) e = refl

  load_else : (v : Worker) → v ≢ Environment → fuller v ≡ load plan then v
  load_else v e =
      let a = ap (to_go (ways_of plan) (place v)) (env_else may plan ok old work is board complete works (place v) (place_apart v Environment e)) in
      let b = sum_by-append (λ (i : Item). stations_from (place v) ((ways_of plan).stations i.route.0)) (standing (site_books old) (place v)) (bound_for (ways_of plan) Environment (place v) works.put) in
      let c = ap (to_go_out (ways_of plan)) (env_quiet may plan ok old work is board complete works v e).outgoing in
      let d = turns_else v e in
      omega arith

  less : Less old.environment works.outs is
  less = reads_less plan.structure plan.routes (blocks_in plan) old.environment works.outs is works.sound.few works.reads

  abbrev lower : ℕ
  lower = to_go (ways_of plan) Outlet works.taken + to_go_out (ways_of plan) works.put + (89 * less.0 - to_go_out (ways_of plan) (env_sent works.outs))

  out_few : to_go_out (ways_of plan) (env_sent works.outs) ≤ 88 * less.0
  out_few = let a = out_short plan ok (env_sent works.outs) in let b = sent_few works.outs in let c = less.2 in omega arith

  load_here : fuller Environment ≡ load plan then Environment + lower
  load_here =
      let a = ap (to_go (ways_of plan) Outlet) (outlet_parts may plan ok old work is board complete works) in
      let b = sum_by-append (λ (i : Item). stations_from Outlet ((ways_of plan).stations i.route.0)) (waiting old.board Outlet) (bound_for (ways_of plan) Environment Outlet works.put) in
      let c = sum_by-append (λ (i : Item). stations_from Outlet ((ways_of plan).stations i.route.0)) works.taken (waiting board Outlet) in
      let d = ap (to_go_out (ways_of plan)) works.went in
      let e = sum_by-append (λ (i : Item). length ((ways_of plan).stations i.route.0) + 1) works.put is.outgoing in
      let f = sum_by-append (λ (i : Item). length ((ways_of plan).stations i.route.0) + 1) old.environment.outgoing (env_sent works.outs) in
      let g = less.1 in
      let h = out_few in
      omega arith

  -- what was taken had something to go
  took : length works.taken ≤ to_go (ways_of plan) Outlet works.taken
  took =
      let P = λ (i : Item). Among Outlet ((ways_of plan).stations i.route.0) in
      let all = (env_keeps may plan ok old work is board complete works).order.let_in Environment tt in
      at_least (ways_of plan) Outlet works.taken (all_end P old.environment.received works.taken (subst (AllByRecursion P) works.came all))

  here_among : Among Environment (workers_of plan)
  here_among = among_right Environment (blocks_from 0 (blocks_in plan)) (Environment ∷ map Forwarder (lines_of plan)) (inl refl)

  -- the step lowers what is left by the items that it put and took, and by what it read, at least
  env_lower : work_left plan then + length works.put + length works.taken + less.0 ≤ work_left plan old
  env_lower =
      let a = sum_both fuller (load plan old) put_at (workers_of plan) (λ v. refl) in
      let b = sum_lower fuller (load plan then) Environment lower (workers_of plan) (workers_once plan) here_among load_here load_else in
      let c = put_most (ways_of plan) Environment works.put (workers_of plan) (workers_once plan) in
      let d = out_is (ways_of plan) works.put in
      let e = took in
      let f = out_few in
      omega arith

  did : ((is.ended ≡ old.environment.ended) × (works.outs ≡ []) × (works.put ≡ []) × (works.taken ≡ []) → ⊥) → 1 ≤ length works.put + length works.taken + less.0
  did h = elim less.3 [
    | inl same ↦ (let a = something works.put works.taken (λ e. h (same.0, same.1, e.0, e.1)) in omega arith)
    | inr some ↦ (let a = some in omega arith)
  ]

  -- a step that did something lowers what is left
  pub env_lowers : ((is.ended ≡ old.environment.ended) × (works.outs ≡ []) × (works.put ≡ []) × (works.taken ≡ []) → ⊥) → work_left plan then < work_left plan old
  env_lowers h = let a = env_lower in let b = did h in omega arith
