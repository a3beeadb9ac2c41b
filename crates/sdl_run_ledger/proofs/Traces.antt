-- Along all routes: what was sent is what arrived, what is kept, what rests, and what is yet to be put.
use Rattle.std.proofs.Common.{ℕ, ◌+◌, ◌<◌, ◌≤◌, eqb, All, List, [], ◌∷◌, ◌++◌, length, length-append, map, reverse, ◌≡◌, ◌≢◌, Option, Some, None, slice_get, inl, inr, refl, ap, sym, ◌∙◌, subst, arith, sum_by}
use Rattle.std.specs.Option.{option_to_list}
use Rattle.std.specs.List.{flat_map, AllByRecursion}
use Rattle.std.proofs.lemmas.Option.{slice_get-map, slice_get_cases, slice_get_within}
use Rattle.std.proofs.lemmas.List.{length-map}
use Rattle.std.proofs.lemmas.List.Concat.{flat_map-append, length-flat_map}
use Rattle.std.proofs.lemmas.List.Elements.{filter-append, recursion_from_All}
use Rattle.std.proofs.lemmas.List.Sums.{sum_by-cons}
use Rattle.sdl_signal.specs.declared.ids.BlockId.{BlockId}
use Rattle.sdl_signal.specs.declared.values.Item.{Item}
use Rattle.sdl_structure_parts.specs.Structure.{set_at}
use Rattle.sdl_routes.specs.declared.route.Hop.{Hop}
use Rattle.sdl_routes.specs.declared.route.TableRow.{TableRow}
use Rattle.sdl_routes.specs.declared.route.Station.{Station}
use Rattle.sdl_routes.specs.Routes.{EachOnce}
use Rattle.sdl_transition_behaviour.specs.declared.step.Frame.{Frame}
use Rattle.sdl_transition_behaviour.specs.declared.step.Step.{Step}
use Rattle.sdl_instances_log.specs.declared.event.Event.{Event}
use Rattle.sdl_instances.specs.Machine.{State}
use Rattle.sdl_instances.specs.Run.{Leads as LeadsTo, IsRun, done_in, sent_by, sent, arrived, all_done, initial}
use Rattle.sdl_instances.specs.Core.{numbers_of, sets_of}
use Rattle.sdl_instances.proofs.Home.{IsHome, IsFromBlock, next_home, run_home}
use Rattle.sdl_forward.specs.Boards.{same_station, stations_of}
use Rattle.sdl_forward_opening.specs.declared.worker.Worker.{Worker}
use Rattle.sdl_forward_opening.specs.declared.worker.Worker.TheVariants.{Block, Environment, Forwarder}
use Rattle.sdl_forward_opening.proofs.Opened.{order_once}
use Rattle.sdl_run_outcome.specs.EnvironmentWork.{ComesIn, env_sent}
use Rattle.sdl_run_outcome.specs.Stations.{Ways, IsAgent, Leads, Among, Once, place, taker, same_worker}
use Rattle.sdl_run_outcome.specs.Books.{Books, of_route, standing, left}
use Rattle.sdl_run_outcome.specs.Plan.{Plan, blocks_in, blocks_from, lines_of, workers_of, ways_of, system_at, starter}
use Rattle.sdl_run_outcome.specs.Outcome.{WorkerHand, Outcome, AreRunsFrom, of_worker, books_of}
use Rattle.sdl_run_ledger.specs.Counts.{IsTraced}
use Rattle.sdl_run_outcome.proofs.Lists.{all_front, all_end, all_append, all_weaker, all_every, all_both}
use Rattle.sdl_run_outcome.proofs.Comparisons.{same_station_is, same_station_itself, same_worker_is, same_worker_itself}
use Rattle.sdl_run_outcome.proofs.AlongStations.{among_some, place_taker}
use Rattle.sdl_run_outcome.proofs.Along.{no_other}
use Rattle.sdl_run_outcome.proofs.Ways.{set_worker, ways_are, leads_within, row_of}
use Rattle.sdl_run_outcome.proofs.Workers.{count_blocks}
use Rattle.sdl_run_outcome.proofs.Workers.{workers_once}
use Rattle.sdl_run_outcome.proofs.Sums.{sum_same, sum_both}
use Rattle.sdl_run_ledger.proofs.Adding.{sum_map}
use Rattle.sdl_run_ledger.proofs.Spread.{below, below_less, number, number_all, number_none, sum_over, sum_swap, sum_reverse}
use Rattle.sdl_run_ledger.proofs.Shares.{AreAt, at_none, at_next, all_workers, no_worker, over_workers, no_station, over_stations, once_each, places_once, among_places}

number_append : (r : ℕ) (xs ys : List Item) → number r (xs ++ ys) ≡ number r xs + number r ys
number_append r xs ys = ap length (filter-append (λ (i : Item). eqb i.route.0 r) xs ys) ∙ length-append (of_route r xs) (of_route r ys)

at_every : (P : Worker → Item → Type 0) → ((b : BlockId) (i : Item) → P (Block b) i) → (n : ℕ) (xss : List (List Item)) → AreAt P n xss
at_every P f n [] = at_none P n
at_every P f n (xs ∷ xss) = at_next P n xs xss (all_every (P (Block (record { 0 = n }))) (f (record { 0 = n })) xs) (at_every P f (n + 1) xss)

module _ (may : ℕ → Frame → Step → Type 0) (plan : Plan) (o : Outcome) (finals : List State) (h : IsTraced may plan o finals) where
  abbrev t : Ways
  t = ways_of plan

  abbrev b : Books
  b = books_of plan o

  abbrev many : ℕ
  many = length plan.routes

  abbrev everyone : List Worker
  everyone = workers_of plan

  abbrev boards : List Station
  boards = stations_of o.rests

  -- the numbers of routes
  row_less : (r : ℕ) (row : TableRow) → slice_get plan.routes r ≡ Some row → r < many
  row_less r row at = slice_get_within plan.routes r row at

  leads_less : (r : ℕ) → Leads t r → r < many
  leads_less r leads = let row = row_of plan r leads in row_less r row.0 row.1

  block_less : (r : ℕ) (n : BlockId) → t.start r ≡ Block n → r < many
  block_less r n e = elim (slice_get_cases plan.routes r).1 [
    | inl row ↦ row_less r row.0 row.2
    | inr none ↦ (
        let at : t.start r ≡ Environment = ap (λ (x : Option TableRow). elim x as (λ _. Worker) [ None ↦ Environment | Some row ↦ starter plan.structure row.source ]) none.1 in
        absurd (env_block n (sym at ∙ e)))
  ]
    where
      env_block : (n : BlockId) → Environment ≡ Block n → ⊥
      env_block n e = cc

  -- what was sent starts at its worker
  abbrev StartsAt : Worker → Item → Type 0
  StartsAt w i = (t.start i.route.0 ≡ w) × (i.route.0 < many)

  from_starts : (n : BlockId) (i : Item) → IsFromBlock (sets_of plan.structure) plan.routes n i → StartsAt (Block n) i
  from_starts n i (set, serial, d, row, sender, found, here, at, from) = (
    ap (λ (x : Option TableRow). elim x as (λ _. Worker) [ None ↦ Environment | Some y ↦ starter plan.structure y.source ]) at
        ∙ (ap (starter plan.structure) from
        ∙ (set_worker plan.structure set d (set_at plan.structure set) refl (sym (slice_get-map numbers_of plan.structure.sets set.0) ∙ found) ∙ ap Block here)),
    row_less i.route.0 row at,
  )

  module _ (n : ℕ) (less : n < blocks_in plan) where
    abbrev block : BlockId
    block = record { 0 = n }

    leads_from : (old : State) (log : List Event) (new : State) → All (λ e. IsHome (sets_of plan.structure) block e.0) old.living → LeadsTo may (system_at plan n) old log new
        → AllByRecursion (StartsAt (Block block)) (sent log)
    leads_from old [] new home leads = tt
    leads_from old (e ∷ log) new home (mid, one, rest) =
        let step = next_home may (system_at plan n) block (h.bound n less) old e mid home one in
        let from = recursion_from_All (IsFromBlock (sets_of plan.structure) plan.routes block) (flat_map sent_by (done_in e)) step.1 in
        subst (AllByRecursion (StartsAt (Block block))) (sym (flat_map-append sent_by (done_in e) (all_done log)))
        (all_append (StartsAt (Block block)) (flat_map sent_by (done_in e)) (sent log)
        (all_weaker (IsFromBlock (sets_of plan.structure) plan.routes block) (StartsAt (Block block)) (from_starts block) (flat_map sent_by (done_in e)) from)
        (leads_from mid log new step.0 rest))

    run_starts : (log : List Event) (final : State) → IsRun may (system_at plan n) block log final → AllByRecursion (StartsAt (Block block)) (sent log)
    run_starts log final run =
        let first : State = initial (system_at plan n).rules (system_at plan n).sets block in
        let home = run_home may (system_at plan n) block (h.bound n less) [] first (record { leads = refl; numbered = tt; stamped = tt }) in
        leads_from first log final home run.leads

  sent_at : (n : ℕ) (logs : List (List Event)) (ends : List State) → n + length logs ≤ blocks_in plan → AreRunsFrom may plan n logs ends → AreAt StartsAt n (map sent logs)
  sent_at n [] [] less runs = at_none StartsAt n
  sent_at n (log ∷ logs) (s ∷ ends) less runs =
      at_next StartsAt n (sent log) (map sent logs) (run_starts n (omega arith) log s runs.0) (sent_at (n + 1) logs ends (omega arith) runs.1)
  sent_at n (log ∷ logs) [] less runs = absurd runs
  sent_at n [] (s ∷ ends) less runs = absurd runs

  comes_starts : (i : Item) → ComesIn plan.routes i → StartsAt Environment i
  comes_starts i (row, gate, at, from) = (
    ap (λ (x : Option TableRow). elim x as (λ _. Worker) [ None ↦ Environment | Some y ↦ starter plan.structure y.source ]) at ∙ ap (starter plan.structure) from,
    row_less i.route.0 row at,
  )

  -- of a list for the blocks and one for the environment
  by_workers : (P : Worker → Item → Type 0) (f : List Event → List Item) (ys : List Item) → AreAt P 0 (map f o.logs) → AllByRecursion (P Environment) ys
      → (w : Worker) → AllByRecursion (P w) (of_worker w everyone (map f o.logs ++ ys ∷ []))
  by_workers P f ys at env w =
      subst (λ (n : ℕ). AllByRecursion (P w) (of_worker w (blocks_from 0 n ++ Environment ∷ map Forwarder (lines_of plan)) (map f o.logs ++ ys ∷ []))) (length-map o.logs f ∙ h.complete.logs)
      (all_workers P 0 (map f o.logs) ys (map Forwarder (lines_of plan)) at env w)

  sent_all : (w : Worker) → AllByRecursion (StartsAt w) (b.sent w)
  sent_all w =
      by_workers StartsAt sent (env_sent o.env_put) (sent_at 0 o.logs finals (let e = h.complete.logs in omega arith) h.lawful.runs)
      (all_weaker (ComesIn plan.routes) (StartsAt Environment) comes_starts (env_sent o.env_put) h.coming) w

  -- what arrived ends at its worker
  abbrev EndsAt : Worker → Item → Type 0
  EndsAt w i = (t.finish i.route.0 ≡ w) × (i.route.0 < many)

  agent_ends : (w : Worker) → IsAgent w → AllByRecursion (EndsAt w) (b.arrived w)
  agent_ends w a =
      all_weaker (λ (i : Item). Leads t i.route.0 × (t.finish i.route.0 ≡ w)) (EndsAt w) (λ i e. (e.1, leads_less i.route.0 e.0)) (b.arrived w)
      (no_other t b (ways_are plan h.is_plan) h.order w a)

  block_apart : (n : BlockId) (k : Hop) → Block n ≡ Forwarder k → ⊥
  block_apart n k e = cc

  env_apart : (k : Hop) → Environment ≡ Forwarder k → ⊥
  env_apart k e = cc

  arrived_all : (w : Worker) → AllByRecursion (EndsAt w) (b.arrived w)
  arrived_all (Block n) = agent_ends (Block n) tt
  arrived_all Environment = agent_ends Environment tt
  arrived_all (Forwarder k) =
      let P : Worker → Item → Type 0 = λ w i. w ≡ Forwarder k → ⊥ in
      all_weaker (P (Forwarder k)) (EndsAt (Forwarder k)) (λ i n. absurd (n refl)) (b.arrived (Forwarder k))
      (by_workers P arrived o.env_received (at_every P (λ n i. block_apart n k) 0 (map arrived o.logs)) (all_every (P Environment) (λ i. env_apart k) o.env_received) (Forwarder k))

  -- what is yet to be put starts at its worker
  outgoing_all : (w : Worker) → AllByRecursion (StartsAt w) (b.outgoing w)
  outgoing_all (Block n) =
      all_weaker (λ (i : Item). t.start i.route.0 ≡ Block n) (StartsAt (Block n)) (λ i e. (e, block_less i.route.0 n e)) (b.outgoing (Block n)) (h.order.leaving (Block n) tt)
  outgoing_all Environment =
      all_both (λ (i : Item). t.start i.route.0 ≡ Environment) (λ (i : Item). i.route.0 < many) (b.outgoing Environment) (h.order.leaving Environment tt) h.to_put
  outgoing_all (Forwarder k) = subst (AllByRecursion (StartsAt (Forwarder k))) (sym (h.forwarders k)) tt

  -- what each worker has of the routes whose home it is, over all routes
  module _ (home : ℕ → Worker) (xss : List (List Item)) (few : length xss ≤ length everyone)
      (all : (w : Worker) → AllByRecursion (λ (i : Item). (home i.route.0 ≡ w) × (i.route.0 < many)) (of_worker w everyone xss)) where
    one_route : (r : ℕ) → number r (of_worker (home r) everyone xss) ≡ sum_by (λ w. number r (of_worker w everyone xss)) everyone
    one_route r =
        let f = λ (w : Worker). number r (of_worker w everyone xss) in
        let a = sum_over same_worker same_worker_is same_worker_itself f everyone (home r ∷ []) (workers_once plan) (tt, tt)
        (λ w m away. number_none r (of_worker w everyone xss)
        (all_weaker (λ (i : Item). (home i.route.0 ≡ w) × (i.route.0 < many)) (λ (i : Item). i.route.0 ≢ r) (λ i p e. away (inl (sym (sym (ap home e) ∙ p.0)))) (of_worker w everyone xss) (all w)))
        (λ w m away. ap (number r) (no_worker w everyone xss away)) in
        let c = sum_by-cons f (home r) [] in
        omega (arith, a, c)

    all_routes : sum_by (λ r. number r (of_worker (home r) everyone xss)) (below many) ≡ sum_by length xss
    all_routes =
        let a = sum_same (λ r. number r (of_worker (home r) everyone xss)) (λ r. sum_by (λ w. number r (of_worker w everyone xss)) everyone) (below many) (λ r m. one_route r) in
        let c = sum_swap (λ r w. number r (of_worker w everyone xss)) (below many) everyone in
        let d = sum_same (λ w. sum_by (λ r. number r (of_worker w everyone xss)) (below many)) (λ w. length (of_worker w everyone xss)) everyone
        (λ w m. number_all many (of_worker w everyone xss) (all_weaker (λ (i : Item). (home i.route.0 ≡ w) × (i.route.0 < many)) (λ (i : Item). i.route.0 < many) (λ i p. p.1) (of_worker w everyone xss) (all w))) in
        let e = over_workers everyone xss (workers_once plan) few in
        omega (arith, a, c, d, e)

  -- what stands at a station is on a route through it
  abbrev Passes : Station → Item → Type 0
  Passes s i = Among s (t.stations i.route.0)

  kept_at : (s : Station) → AllByRecursion (Passes s) (b.kept (taker s))
  kept_at s = all_front (Passes s) (b.kept (taker s)) (b.rest s) (h.order.in_place s)

  rest_at : (s : Station) → AllByRecursion (Passes s) (b.rest s)
  rest_at s = all_end (Passes s) (b.kept (taker s)) (b.rest s) (h.order.in_place s)

  passes_less : (s : Station) (i : Item) → Passes s i → i.route.0 < many
  passes_less s i m = leads_less i.route.0 (among_some s (t.stations i.route.0) m)

  not_through : (r : ℕ) (s : Station) (xs : List Item) → AllByRecursion (Passes s) xs → (Among s (t.stations r) → ⊥) → number r xs ≡ 0
  not_through r s xs pass away =
      number_none r xs (all_weaker (Passes s) (λ (i : Item). i.route.0 ≢ r) (λ i m e. away (subst (λ (k : ℕ). Among s (t.stations k)) e m)) xs pass)

  stations_once : (r : ℕ) → Leads t r → Once (t.stations r)
  stations_once r leads = (ways_are plan h.is_plan r leads).once

  kept_through : (r : ℕ) → Leads t r → sum_by (λ s. number r (b.kept (taker s))) (t.stations r) ≡ sum_by (λ w. number r (b.kept w)) everyone
  kept_through r leads =
      let f = λ (s : Station). number r (b.kept (taker s)) in
      let a = sum_over same_station same_station_is same_station_itself f (map place everyone) (t.stations r) (places_once everyone (workers_once plan)) (once_each (t.stations r) (stations_once r leads))
      (λ s m away. not_through r s (b.kept (taker s)) (kept_at s) away)
      (λ s m away. ap (number r) (no_worker (taker s) everyone (map (λ (x : WorkerHand). option_to_list x.kept) o.hands) (λ k. away (among_places s everyone k)))) in
      let c = sum_map f place everyone in
      let d = sum_same (λ w. f (place w)) (λ w. number r (b.kept w)) everyone (λ w m. ap (λ (v : Worker). number r (b.kept v)) (place_taker w)) in
      omega (arith, a, c, d)

  boards_once : EachOnce boards
  boards_once = order_once boards h.complete.rests.order

  rest_through : (r : ℕ) → Leads t r → sum_by (λ s. number r (b.rest s)) (t.stations r) ≡ sum_by (λ s. number r (b.rest s)) boards
  rest_through r leads =
      sym (sum_over same_station same_station_is same_station_itself (λ s. number r (b.rest s)) boards (t.stations r) boards_once (once_each (t.stations r) (stations_once r leads))
      (λ s m away. not_through r s (b.rest s) (rest_at s) away)
      (λ s m away. ap (number r) (no_station s o.rests away)))

  -- one route
  abbrev kept_on : ℕ → ℕ
  kept_on r = sum_by (λ w. number r (b.kept w)) everyone

  abbrev rest_on : ℕ → ℕ
  rest_on r = sum_by (λ s. number r (b.rest s)) boards

  on_route : (r : ℕ) → r < many → number r (b.sent (t.start r)) ≡ (number r (b.arrived (t.finish r)) + number r (b.outgoing (t.start r))) + (kept_on r + rest_on r)
  on_route r less =
      let leads = leads_within plan h.is_plan r less in
      let a = ap length (h.order.in_order r leads) in
      let a1 = length-append (of_route r (b.arrived (t.finish r))) (left t b r) in
      let a2 = length-append (flat_map (λ s. of_route r (standing b s)) (reverse (t.stations r))) (of_route r (b.outgoing (t.start r))) in
      let a3 = length-flat_map (λ (s : Station). of_route r (standing b s)) (reverse (t.stations r)) in
      let a4 = sum_reverse (λ (s : Station). number r (standing b s)) (t.stations r) in
      let a5 = sum_both (λ (s : Station). number r (standing b s)) (λ s. number r (b.kept (taker s))) (λ s. number r (b.rest s)) (t.stations r) (λ s. number_append r (b.kept (taker s)) (b.rest s)) in
      let a6 = kept_through r leads in
      let a7 = rest_through r leads in
      omega (arith, a, a1, a2, a3, a4, a5, a6, a7)

  -- what is kept, and what rests, over all routes
  all_kept : sum_by kept_on (below many) ≡ sum_by length (map (λ (x : WorkerHand). option_to_list x.kept) o.hands)
  all_kept =
      let c = sum_swap (λ r w. number r (b.kept w)) (below many) everyone in
      let d = sum_same (λ w. sum_by (λ r. number r (b.kept w)) (below many)) (λ w. length (b.kept w)) everyone
      (λ w m. number_all many (b.kept w) (all_weaker (Passes (place w)) (λ (i : Item). i.route.0 < many) (passes_less (place w)) (b.kept w) (subst (λ (v : Worker). AllByRecursion (Passes (place w)) (b.kept v)) (place_taker w) (kept_at (place w))))) in
      let e = over_workers everyone (map (λ (x : WorkerHand). option_to_list x.kept) o.hands) (workers_once plan)
      (let f = length-map o.hands (λ (x : WorkerHand). option_to_list x.kept) in let g = h.complete.hands in omega (arith, f, g)) in
      omega (arith, c, d, e)

  all_rest : sum_by rest_on (below many) ≡ sum_by (λ (r : Station × List Item). length r.1) o.rests
  all_rest =
      let c = sum_swap (λ r s. number r (b.rest s)) (below many) boards in
      let d = sum_same (λ s. sum_by (λ r. number r (b.rest s)) (below many)) (λ s. length (b.rest s)) boards
      (λ s m. number_all many (b.rest s) (all_weaker (Passes s) (λ (i : Item). i.route.0 < many) (passes_less s) (b.rest s) (rest_at s))) in
      let e = over_stations o.rests boards_once in
      omega (arith, c, d, e)

  few_logs : (f : List Event → List Item) (ys : List Item) → length (map f o.logs ++ ys ∷ []) ≤ length everyone
  few_logs f ys =
      let a = length-append (map f o.logs) (ys ∷ []) in
      let c = length-map o.logs f in
      let d = h.complete.logs in
      let e = length-append (blocks_from 0 (blocks_in plan)) (Environment ∷ map Forwarder (lines_of plan)) in
      let g = count_blocks 0 (blocks_in plan) in
      omega (arith, a, c, d, e, g)

  -- all that was sent is what arrived, what is yet to be put, what is kept and what rests
  pub nothing_lost : sum_by length (map sent o.logs ++ env_sent o.env_put ∷ [])
      ≡ (sum_by length (map arrived o.logs ++ o.env_received ∷ []) + sum_by length (map (λ (x : WorkerHand). x.outgoing) o.hands))
      + (sum_by length (map (λ (x : WorkerHand). option_to_list x.kept) o.hands) + sum_by (λ (r : Station × List Item). length r.1) o.rests)
  nothing_lost =
      let routes = below many in
      let a = sum_same (λ r. number r (b.sent (t.start r))) (λ r. (number r (b.arrived (t.finish r)) + number r (b.outgoing (t.start r))) + (kept_on r + rest_on r)) routes (λ r m. on_route r (below_less many r m)) in
      let c = sum_both (λ r. (number r (b.arrived (t.finish r)) + number r (b.outgoing (t.start r))) + (kept_on r + rest_on r)) (λ r. number r (b.arrived (t.finish r)) + number r (b.outgoing (t.start r))) (λ r. kept_on r + rest_on r) routes (λ r. refl) in
      let d = sum_both (λ r. number r (b.arrived (t.finish r)) + number r (b.outgoing (t.start r))) (λ r. number r (b.arrived (t.finish r))) (λ r. number r (b.outgoing (t.start r))) routes (λ r. refl) in
      let e = sum_both (λ r. kept_on r + rest_on r) kept_on rest_on routes (λ r. refl) in
      let s = all_routes t.start (map sent o.logs ++ env_sent o.env_put ∷ []) (few_logs sent (env_sent o.env_put)) sent_all in
      let i = all_routes t.finish (map arrived o.logs ++ o.env_received ∷ []) (few_logs arrived o.env_received) arrived_all in
      let g = all_routes t.start (map (λ (x : WorkerHand). x.outgoing) o.hands)
      (let f = length-map o.hands (λ (x : WorkerHand). x.outgoing) in let n = h.complete.hands in omega (arith, f, n)) outgoing_all in
      let k = all_kept in
      let q = all_rest in
      omega (arith, a, c, d, e, s, i, g, k, q)
