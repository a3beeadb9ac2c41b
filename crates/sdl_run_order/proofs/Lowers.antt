-- A block's step that does something lowers what is left to do.
use Rattle.std.proofs.Common.{ℕ, zero, suc, ◌+◌, ◌-◌, ◌<◌, ◌≤◌, ◌*◌, Bool, true, cond, List, [], ◌∷◌, map, length, set, ◌≡◌, ◌≢◌, inl, inr, Option, Some, None, slice_get, refl, ap, sym, ◌∙◌, subst, arith, sum_by}
use Rattle.std.specs.List.{AllByRecursion}
use Rattle.std.proofs.lemmas.Bool.{cond_both}
use Rattle.std.proofs.lemmas.Option.{same_Some, slice_get_within}
use Rattle.std.proofs.lemmas.List.Sums.{sum_by-cons, sum_by-append}
use Rattle.sdl_signal.specs.declared.values.Item.{Item}
use Rattle.sdl_routes.specs.declared.route.TableRow.{TableRow}
use Rattle.sdl_routes.specs.declared.route.Station.{Station}
use Rattle.sdl_routes.specs.declared.route.Station.TheVariants.{Inlet}
use Rattle.sdl_routes.specs.Routes.{EachOnce}
use Rattle.sdl_routes.specs.Table.{IsTableRoute}
use Rattle.sdl_transition_behaviour.specs.declared.step.Frame.{Frame}
use Rattle.sdl_transition_behaviour.specs.declared.step.Step.{Step}
use Rattle.sdl_instances_log.specs.declared.event.Event.{Event}
use Rattle.sdl_instances_log.specs.declared.event.Event.TheVariants as event
use Rattle.sdl_instances.specs.Run.{arrived, sent, turns, turn_in}
use Rattle.sdl_forward.specs.Boards.{same_station}
use Rattle.sdl_forward_opening.specs.declared.worker.Worker.{Worker}
use Rattle.sdl_forward_opening.specs.declared.worker.Worker.TheVariants.{Block, Environment, Forwarder}
use Rattle.sdl_forward_opening.proofs.Bringing.{among_left}
use Rattle.sdl_run_outcome.specs.Stations.{Ways, Among, next, place, taker}
use Rattle.sdl_run_outcome.specs.Books.{standing}
use Rattle.sdl_run_outcome.specs.Steps.{bound_for}
use Rattle.sdl_block_hand.specs.Work.{is_station}
use Rattle.sdl_run_outcome.specs.Plan.{Plan, IsPlan, blocks_in, blocks_from, lines_of, workers_of, system_at, ways_of}
use Rattle.sdl_block_hand.specs.Work.{Working, Works}
use Rattle.sdl_block_hand.proofs.Through.{arrived-append}
use Rattle.sdl_run_order.specs.Driver.{Site, site_books, IsAtWork}
use Rattle.sdl_run_order.specs.Measure.{stations_from, to_go, to_go_out, turns_left, load, work_left}
use Rattle.sdl_run_outcome.proofs.Lists.{all_at, all_end, get_set, get_set_other}
use Rattle.sdl_run_outcome.proofs.AlongStations.{place_taker}
use Rattle.sdl_run_outcome.proofs.Along.{is_station_is}
use Rattle.sdl_run_order.proofs.Starts.{block}
use Rattle.sdl_run_order.proofs.BlockStep.{steps_hand, steps_else, steps_quiet, inlet_parts, block_keeps, of_block_is}
use Rattle.sdl_run_outcome.proofs.Sums.{sum_lower, sum_both, sum_none, sum_one}
use Rattle.sdl_run_order.proofs.Measure.{from_some}
use Rattle.sdl_run_outcome.proofs.Workers.{workers_once, place_apart}

-- there are no more stations from one on than there are
from_most : (s : Station) (ss : List Station) → stations_from s ss ≤ length ss
from_most s [] = omega arith
from_most s (x ∷ xs) = cond_both (same_station x s) (suc (length xs)) (stations_from s xs) (λ (k : ℕ). k ≤ suc (length xs)) (λ t. omega arith) (λ t. let h = from_most s xs in omega arith)

-- a route has at most ten stations
short_row : (plan : Plan) → IsPlan plan → (r : ℕ) (o : Option TableRow) → slice_get plan.routes r ≡ o → length (elim o as (λ _. List Station) [ None ↦ [] | Some row ↦ row.route.stations.items ]) ≤ 10
short_row plan ok r None at = omega arith
short_row plan ok r (Some row) at = (all_at IsTableRoute plan.routes r row ok.table.shown at).few_stations

short_way : (plan : Plan) → IsPlan plan → (r : ℕ) → length ((ways_of plan).stations r) ≤ 10
short_way plan ok r = short_row plan ok r (slice_get plan.routes r) refl

-- the stations of the items' routes
abbrev pub all_stations : Ways → List Item → ℕ
all_stations t items = sum_by (λ (i : Item). length (t.stations i.route.0)) items

pub out_is : (t : Ways) (items : List Item) → to_go_out t items ≡ all_stations t items + length items
out_is t [] = refl
out_is t (i ∷ items) =
    let a = sum_by-cons (λ (j : Item). length (t.stations j.route.0) + 1) i items in
    let b = sum_by-cons (λ (j : Item). length (t.stations j.route.0)) i items in
    let c = out_is t items in
    omega arith

pub out_short : (plan : Plan) → IsPlan plan → (items : List Item) → to_go_out (ways_of plan) items ≤ 11 * length items
out_short plan ok [] = omega arith
out_short plan ok (i ∷ items) =
    let a = sum_by-cons (λ (j : Item). length ((ways_of plan).stations j.route.0) + 1) i items in
    let b = short_way plan ok i.route.0 in
    let c = out_short plan ok items in
    omega arith

-- items at a station of their routes have each something to go
pub at_least : (t : Ways) (s : Station) (items : List Item) → AllByRecursion (λ (i : Item). Among s (t.stations i.route.0)) items → length items ≤ to_go t s items
at_least t s [] h = omega arith
at_least t s (i ∷ items) h =
    let a = sum_by-cons (λ (j : Item). stations_from s (t.stations j.route.0)) i items in
    let b = from_some s (t.stations i.route.0) h.0 in
    let c = at_least t s items h.1 in
    omega arith

-- each event is an arrival or a turn
events_are : (es : List Event) → length (arrived es) + turns es ≡ length es
events_are [] = refl
events_are (event.Entered i p ∷ es) = let a = sum_by-cons turn_in (event.Entered i p) es in let b = events_are es in omega arith
events_are (event.Discarded i c ∷ es) = let a = sum_by-cons turn_in (event.Discarded i c) es in let b = events_are es in omega arith
events_are (event.Turn p t frame step did stopped ∷ es) = let a = sum_by-cons turn_in (event.Turn p t frame step did stopped) es in let b = events_are es in omega arith

-- each item that is put goes to one station at most
module _ (t : Ways) (w : Worker) where
  abbrev pub put_load : List Item → Worker → ℕ
  put_load put v = to_go t (place v) (bound_for t w (place v) put)

  one_more : (i : Item) (put : List Item) (v : Worker)
      → put_load (i ∷ put) v ≡ cond (is_station (place v) (next t w i.route.0)) (stations_from (place v) (t.stations i.route.0)) 0 + put_load put v
  one_more i put v =
      cond_both (is_station (place v) (next t w i.route.0)) (i ∷ bound_for t w (place v) put) (bound_for t w (place v) put)
      (λ (xs : List Item). to_go t (place v) xs ≡ cond (is_station (place v) (next t w i.route.0)) (stations_from (place v) (t.stations i.route.0)) 0 + put_load put v)
      (λ e. sum_by-cons (λ (j : Item). stations_from (place v) (t.stations j.route.0)) i (bound_for t w (place v) put)
      ∙ ap (λ (b : Bool). cond b (stations_from (place v) (t.stations i.route.0)) 0 + put_load put v) (sym e))
      (λ e. let z : cond (is_station (place v) (next t w i.route.0)) (stations_from (place v) (t.stations i.route.0)) 0 ≡ 0 = ap (λ (b : Bool). cond b (stations_from (place v) (t.stations i.route.0)) 0) e in omega arith)

  one_place : (i : Item) (x y : Worker) → is_station (place x) (next t w i.route.0) ≡ true → is_station (place y) (next t w i.route.0) ≡ true → x ≡ y
  one_place i x y e f =
      sym (place_taker x) ∙ (ap taker (same_Some (place x) (place y) (sym (is_station_is (place x) (next t w i.route.0) e) ∙ is_station_is (place y) (next t w i.route.0) f)) ∙ place_taker y)

  pub put_most : (put : List Item) (vs : List Worker) → EachOnce vs → sum_by (put_load put) vs ≤ all_stations t put
  put_most [] vs once = let z = sum_none (put_load []) vs (λ v m. refl) in omega arith
  put_most (i ∷ put) vs once =
      let test = λ (v : Worker). is_station (place v) (next t w i.route.0) in
      let value = λ (v : Worker). stations_from (place v) (t.stations i.route.0) in
      let a = sum_both (put_load (i ∷ put)) (λ (v : Worker). cond (test v) (value v) 0) (put_load put) vs (one_more i put) in
      let b = sum_one test value (length (t.stations i.route.0)) vs once (one_place i) (λ v e. from_most (place v) (t.stations i.route.0)) in
      let c = put_most put vs once in
      let d = sum_by-cons (λ (j : Item). length (t.stations j.route.0)) i put in
      omega arith

block_among : (n m k : ℕ) → m < k → Among (Block (block (n + m))) (blocks_from n k)
unfolding block
block_among n m zero h = absurd (omega arith)
block_among n zero (suc k) h = inl (ap (λ (x : ℕ). Block (block x)) (omega arith))
block_among n (suc m) (suc k) h = inr (subst (λ (x : ℕ). Among (Block (block x)) (blocks_from (n + 1) k)) (omega arith) (block_among (n + 1) m k (omega arith)))

module _ (may : ℕ → Frame → Step → Type 0) (plan : Plan) (ok : IsPlan plan) (old : Site) (work : IsAtWork may plan old) (n : ℕ) (was is : Working)
    (before : slice_get old.blocks n ≡ Some was) (board : List (Station × List Item)) (works : Works may (system_at plan n) was old.board is board) where
  abbrev here : Worker
  here = Block (block n)

  abbrev then : Site
  then = record { blocks = set old.blocks n is; environment = old.environment; forwarders = old.forwarders; board = board }

  abbrev put_at : Worker → ℕ
  put_at = put_load (ways_of plan) here works.put

  -- the loads with what is put, before the block's own changes
  abbrev fuller : Worker → ℕ
  fuller v = load plan old v + put_at v

  turns_else : (v : Worker) → v ≢ here → turns_left plan.budget (set old.blocks n is) old.environment v ≡ turns_left plan.budget old.blocks old.environment v
  unfolding block
  turns_else (Block b) e = ap (λ (o : Option Working). elim o as (λ _. ℕ) [ None ↦ 0 | Some w ↦ plan.budget - turns w.core.log ]) (get_set_other old.blocks n b.0 is (λ f. e (ap (λ (k : ℕ). Block (block k)) f)))
  turns_else Environment e = refl
  turns_else (Forwarder h) e = refl

  load_else : (v : Worker) → v ≢ here → fuller v ≡ load plan then v
  unfolding block
  load_else v e =
      let a = ap (to_go (ways_of plan) (place v)) (steps_else may plan ok old work n was is before board works (place v) (place_apart v here e)) in
      let b = sum_by-append (λ (i : Item). stations_from (place v) ((ways_of plan).stations i.route.0)) (standing (site_books old) (place v)) (bound_for (ways_of plan) here (place v) works.put) in
      let c = ap (to_go_out (ways_of plan)) (steps_quiet may plan ok old work n was is before board works v e).outgoing in
      let d = turns_else v e in
      omega arith

  turns_here : turns_left plan.budget old.blocks old.environment here ≡ turns_left plan.budget (set old.blocks n is) old.environment here + turns works.events
  unfolding block
  turns_here =
      let a : turns_left plan.budget old.blocks old.environment here ≡ plan.budget - turns was.core.log = ap (λ (o : Option Working). elim o as (λ _. ℕ) [ None ↦ 0 | Some w ↦ plan.budget - turns w.core.log ]) before in
      let b : turns_left plan.budget (set old.blocks n is) old.environment here ≡ plan.budget - turns is.core.log = ap (λ (o : Option Working). elim o as (λ _. ℕ) [ None ↦ 0 | Some w ↦ plan.budget - turns w.core.log ]) (get_set old.blocks n was is before) in
      let c = ap turns works.log in
      let d = sum_by-append turn_in was.core.log works.events in
      let e = works.sound.turns_within in
      let f = works.rest.3 in
      let g = (work.cores n was before).budget in
      omega arith

  -- what came in had something to go
  came_in : length (arrived works.events) ≤ to_go (ways_of plan) (Inlet (block n)) (arrived works.events)
  came_in =
      let P = λ (i : Item). Among (place here) ((ways_of plan).stations i.route.0) in
      let all = (block_keeps may plan ok old work n was is before board works).order.let_in here tt in
      let split = of_block_is (λ (w : Working). arrived w.core.log) old.environment.received old.blocks n was is before ∙ (ap arrived works.log ∙ arrived-append was.core.log works.events) in
      at_least (ways_of plan) (Inlet (block n)) (arrived works.events) (all_end P (arrived was.core.log) (arrived works.events) (subst (AllByRecursion P) split all))

  abbrev lower : ℕ
  lower = to_go (ways_of plan) (Inlet (block n)) (arrived works.events) + to_go_out (ways_of plan) works.put + (89 * turns works.events - to_go_out (ways_of plan) (sent works.events))

  sent_few : to_go_out (ways_of plan) (sent works.events) ≤ 88 * turns works.events
  sent_few = let a = out_short plan ok (sent works.events) in let b = works.few in omega arith

  load_here : fuller here ≡ load plan then here + lower
  load_here =
      let a = ap (to_go (ways_of plan) (Inlet (block n))) (inlet_parts may plan ok old work n was is before board works) in
      let b = sum_by-append (λ (i : Item). stations_from (Inlet (block n)) ((ways_of plan).stations i.route.0)) (standing (site_books old) (Inlet (block n))) (bound_for (ways_of plan) here (Inlet (block n)) works.put) in
      let c = sum_by-append (λ (i : Item). stations_from (Inlet (block n)) ((ways_of plan).stations i.route.0)) (arrived works.events) (standing (site_books then) (Inlet (block n))) in
      let d = ap (to_go_out (ways_of plan)) (steps_hand may plan ok old work n was is before board works) in
      let e = sum_by-append (λ (i : Item). length ((ways_of plan).stations i.route.0) + 1) works.put ((site_books then).outgoing here) in
      let f = sum_by-append (λ (i : Item). length ((ways_of plan).stations i.route.0) + 1) ((site_books old).outgoing here) (sent works.events) in
      let g = turns_here in
      let h = sent_few in
      omega arith

  here_among : Among here (workers_of plan)
  unfolding block
  here_among =
      among_left here (blocks_from 0 (blocks_in plan)) (Environment ∷ map Forwarder (lines_of plan))
      (subst (λ (x : ℕ). Among (Block (block x)) (blocks_from 0 (blocks_in plan))) (omega arith)
      (block_among 0 n (blocks_in plan) (let a = slice_get_within old.blocks n was before in let b = work.blocks in omega arith)))

  -- the step lowers what is left by the items that it put and by its events, at least
  pub works_lower : work_left plan then + length works.put + length works.events ≤ work_left plan old
  works_lower =
      let a = sum_both fuller (load plan old) put_at (workers_of plan) (λ v. refl) in
      let b = sum_lower fuller (load plan then) here lower (workers_of plan) (workers_once plan) here_among load_here load_else in
      let c = put_most (ways_of plan) here works.put (workers_of plan) (workers_once plan) in
      let d = out_is (ways_of plan) works.put in
      let e = came_in in
      let f = events_are works.events in
      let g = sent_few in
      omega arith
