-- What a trail shows of a closing whose parts were added to it one after another.
use Rattle.std.proofs.Common.{◌≡◌, ℕ, zero, suc, ◌<◌, ◌≤◌, eqb, Option, None, Some, List, [], ◌∷◌, ◌++◌, map, reverse, length, slice_get, refl, ap, sym, ◌∙◌, subst, arith, append_assoc}
use Rattle.std.proofs.lemmas.List.{append-nil, length-map, length-append}
use Rattle.std.proofs.lemmas.List.Elements.{filter-append}
use Rattle.std.specs.List.{AllByRecursion, flat_map}
use Rattle.std.specs.Option.{option_to_list}
use Rattle.sdl_signal.specs.declared.values.Item.{Item}
use Rattle.sdl_routes.specs.declared.route.TableRow.{TableRow}
use Rattle.sdl_routes.specs.Table.{IsTableRoute}
use Rattle.sdl_routes.specs.declared.route.Station.{Station}
use Rattle.sdl_instances_log.specs.declared.event.Event.{Event}
use Rattle.sdl_instances_log.specs.Log.{sent, arrived}
use Rattle.sdl_forward_opening.specs.declared.worker.Worker.{Worker}
use Rattle.sdl_forward_opening.specs.declared.worker.Worker.TheVariants.{Environment, Forwarder}
use Rattle.sdl_forward.specs.Boards.{stations_of, waiting}
use Rattle.sdl_forward_opening.proofs.Opened.{order_once}
use Rattle.sdl_run_outcome.specs.EnvironmentWork.{env_sent}
use Rattle.sdl_run_outcome.specs.Stations.{same_worker, taker}
use Rattle.sdl_run_outcome.specs.Books.{of_route, outs, came, left, standing}
use Rattle.sdl_run_outcome.specs.Plan.{Plan, blocks_in, blocks_from, lines_of, workers_of, ways_of}
use Rattle.sdl_run_outcome.specs.Outcome.{Outcome, WorkerHand, IsComplete, of_worker, books_of}
use Rattle.sdl_run_outcome.proofs.Workers.{workers_once, count_blocks}
use Rattle.sdl_run_recount.specs.Along.{starts_at, ends_at, stations_on, given, gathered}
use Rattle.sdl_run_recount.specs.Trails.{output_on, found_on, HasRoutes, Grows, standing_at, standing_below, standing_along}
use Rattle.sdl_run_recount.specs.declared.trail.Trail.{Trail}
use Rattle.sdl_run_recount.proofs.Growing.{grows_then}
use Rattle.sdl_run_audit.proofs.Picked.{gathered_one, gathered_last, at_place, stands, at_places, all_stations}

-- a list of lists, read in two steps
pub both : {X Y Z : Type 0} (g : Y → Z) (f : X → Y) (xs : List X) → map g (map f xs) ≡ map (λ x. g (f x)) xs
both g f [] = refl
both g f (x ∷ xs) = ap (λ (zs : List _). g (f x) ∷ zs) (both g f xs)

-- there are at least as many workers as hands and logs
pub enough_hands : (plan : Plan) (o : Outcome) → IsComplete plan o → length o.hands ≤ length (workers_of plan)
enough_hands plan o c = let h = c.hands in omega arith

pub enough_logs : (plan : Plan) (o : Outcome) → IsComplete plan o → length o.logs ≤ length (workers_of plan)
enough_logs plan o c =
    let a = c.logs in
    let b = length-append (blocks_from 0 (blocks_in plan)) (Environment ∷ map Forwarder (lines_of plan)) in
    let d = count_blocks 0 (blocks_in plan) in
    omega arith

-- a trail that grows keeps its lists
pub keeps_routes : {a b : Trail} {f g : ℕ → List Item} (n : ℕ) → Grows f g a b → HasRoutes n a → HasRoutes n b
keeps_routes n x h = record { output = x.output_gains.routes ∙ h.output; found = x.found_gains.routes ∙ h.found }

-- what stands for an agent: what is gathered of the blocks, and of the environment
agent_list : (plan : Plan) (v : Worker) (xss : List (List Item)) (ys : List Item) → length xss ≡ blocks_in plan
    → gathered (λ w. same_worker w v) (workers_of plan) xss ++ given (same_worker Environment v) ys ≡ of_worker v (workers_of plan) (xss ++ ys ∷ [])
agent_list plan v xss ys e =
    sym (gathered_last (λ w. same_worker w v) (blocks_from 0 (blocks_in plan)) (map Forwarder (lines_of plan)) Environment xss ys (e ∙ sym (count_blocks 0 (blocks_in plan))))
    ∙ gathered_one v (workers_of plan) (xss ++ ys ∷ []) (workers_once plan)

-- a route has ten stations at most
few_stations : (rows : List TableRow) (r : ℕ) → AllByRecursion IsTableRoute rows → length (stations_on rows r) ≤ 10
few_stations [] r all = omega arith
few_stations (row ∷ rows) zero all = all.0.few_stations
few_stations (row ∷ rows) (suc r) all = few_stations rows r all.1

of_both : (r : ℕ) (xs ys : List Item) → of_route r (xs ++ ys) ≡ of_route r xs ++ of_route r ys
of_both r xs ys = filter-append (λ (i : Item). eqb i.route.0 r) xs ys

of_place : (r : ℕ) (f : Station → List Item) (o : Option Station) → of_route r (at_place f o) ≡ at_place (λ s. of_route r (f s)) o
of_place r f None = refl
of_place r f (Some s) = refl

module _ (plan : Plan) (o : Outcome) (complete : IsComplete plan o) (shown : AllByRecursion IsTableRoute plan.routes) where
  abbrev kept : List (List Item)
  kept = map (λ (h : WorkerHand). option_to_list h.kept) o.hands

  abbrev outgoing : List (List Item)
  outgoing = map (λ (h : WorkerHand). h.outgoing) o.hands

  -- what stands at one place of a route
  one_place : (r k : ℕ) → of_route r (standing_at plan.routes (workers_of plan) kept o.rests k r) ≡ at_place (λ s. of_route r (standing (books_of plan o) s)) (slice_get (stations_on plan.routes r) k)
  one_place r k =
      ap (of_route r) (stands (workers_of plan) kept o.rests (workers_once plan) (order_once (stations_of o.rests) complete.rests.order) (slice_get (stations_on plan.routes r) k))
      ∙ of_place r (λ s. of_worker (taker s) (workers_of plan) kept ++ waiting o.rests s) (slice_get (stations_on plan.routes r) k)

  -- at the places below n
  places_below : (r n : ℕ) → of_route r (standing_below plan.routes (workers_of plan) kept o.rests n r) ≡ at_places (λ s. of_route r (standing (books_of plan o) s)) (stations_on plan.routes r) n
  places_below r zero = refl
  places_below r (suc n) =
      let f = λ (s : Station). of_route r (standing (books_of plan o) s) in
      let more = standing_below plan.routes (workers_of plan) kept o.rests n r in
      of_both r (standing_at plan.routes (workers_of plan) kept o.rests n r) more
      ∙ (ap (λ (xs : List Item). xs ++ of_route r more) (one_place r n)
      ∙ ap (λ (xs : List Item). at_place f (slice_get (stations_on plan.routes r) n) ++ xs) (places_below r n))

  -- and along the whole of it
  all_places : (r : ℕ) → of_route r (standing_along plan.routes (workers_of plan) kept o.rests r) ≡ flat_map (λ s. of_route r (standing (books_of plan o) s)) (reverse (stations_on plan.routes r))
  all_places r = places_below r 10 ∙ all_stations (λ s. of_route r (standing (books_of plan o) s)) (stations_on plan.routes r) 10 (few_stations plan.routes r shown)

  module _ (none one two three four : Trail) (empty : (r : ℕ) → output_on none r ≡ []) (bare : (r : ℕ) → found_on none r ≡ []) (n : ℕ) (has : HasRoutes n none)
      (logs : Grows (λ r. gathered (λ w. starts_at (ways_of plan) w r) (workers_of plan) (map sent o.logs)) (λ r. gathered (λ w. ends_at (ways_of plan) w r) (workers_of plan) (map arrived o.logs)) none one)
      (env : Grows (λ r. given (starts_at (ways_of plan) Environment r) (env_sent o.env_put)) (λ r. given (ends_at (ways_of plan) Environment r) o.env_received) one two)
      (stand : Grows (λ r. []) (standing_along plan.routes (workers_of plan) kept o.rests) two three)
      (last : Grows (λ r. []) (λ r. gathered (λ w. starts_at (ways_of plan) w r) (workers_of plan) outgoing) three four) where
    agent : (v : Worker) (f : List Event → List Item) (ys : List Item) → gathered (λ w. same_worker w v) (workers_of plan) (map f o.logs) ++ given (same_worker Environment v) ys ≡ of_worker v (workers_of plan) (map f o.logs ++ ys ∷ [])
    agent v f ys = agent_list plan v (map f o.logs) ys (length-map o.logs f ∙ complete.logs)

    pub is_output : (r : ℕ) → r < n → output_on four r ≡ outs (ways_of plan) (books_of plan o) r
    is_output r less =
        let t = ways_of plan in
        let a = gathered (λ (w : Worker). starts_at t w r) (workers_of plan) (map sent o.logs) ++ given (starts_at t Environment r) (env_sent o.env_put) in
        let whole = grows_then (grows_then (grows_then logs env) stand) last in
        whole.output_gains.each r (subst (λ (m : ℕ). r < m) (sym has.output) less)
        ∙ (ap (λ (xs : List Item). xs ++ of_route r (a ++ [] ++ [])) (empty r)
        ∙ (ap (of_route r) (append-nil (a ++ []) ∙ append-nil a) ∙ ap (of_route r) (agent (t.start r) sent (env_sent o.env_put))))

    pub is_found : (r : ℕ) → r < n → found_on four r ≡ came (ways_of plan) (books_of plan o) r ++ left (ways_of plan) (books_of plan o) r
    is_found r less =
        let t = ways_of plan in
        let a = gathered (λ (w : Worker). ends_at t w r) (workers_of plan) (map arrived o.logs) ++ given (ends_at t Environment r) o.env_received in
        let b = standing_along plan.routes (workers_of plan) kept o.rests r in
        let d = gathered (λ (w : Worker). starts_at t w r) (workers_of plan) outgoing in
        let e = came t (books_of plan o) r in
        let f = flat_map (λ (s : Station). of_route r (standing (books_of plan o) s)) (reverse (stations_on plan.routes r)) in
        let whole = grows_then (grows_then (grows_then logs env) stand) last in
        whole.found_gains.each r (subst (λ (m : ℕ). r < m) (sym has.found) less)
        ∙ (ap (λ (xs : List Item). xs ++ of_route r (a ++ b ++ d)) (bare r)
        ∙ (of_both r (a ++ b) d
        ∙ (ap (λ (xs : List Item). xs ++ of_route r d) (of_both r a b)
        ∙ (ap (λ (xs : List Item). xs ++ of_route r b ++ of_route r d) (ap (of_route r) (agent (t.finish r) arrived o.env_received))
        ∙ (ap (λ (xs : List Item). e ++ xs ++ of_route r d) (all_places r)
        ∙ (ap (λ (xs : List Item). e ++ f ++ of_route r xs) (gathered_one (t.start r) (workers_of plan) outgoing (workers_once plan))
        ∙ append_assoc e f (of_route r (of_worker (t.start r) (workers_of plan) outgoing))))))))
