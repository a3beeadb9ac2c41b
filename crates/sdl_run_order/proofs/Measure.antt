-- A forwarder's move lowers what is left to do.
use Rattle.std.proofs.Common.{ℕ, zero, suc, ◌+◌, ◌<◌, ◌≤◌, true, false, cond, List, [], ◌∷◌, map, length, set, ◌≡◌, ◌≢◌, inl, inr, Some, slice_get, refl, ap, sym, ◌∙◌, subst, arith}
use Rattle.std.proofs.lemmas.Bool.{cond_both, cond-true, cond-false, false≢true}
use Rattle.std.proofs.lemmas.Option.{none-some, same_Some}
use Rattle.std.proofs.lemmas.List.Sums.{sum_by-cons, sum_by-append}
use Rattle.sdl_signal.specs.declared.values.Item.{Item}
use Rattle.sdl_routes.specs.declared.route.Hop.{Hop}
use Rattle.sdl_routes.specs.declared.route.Station.{Station}
use Rattle.sdl_routes.specs.declared.route.Station.TheVariants.{Line}
use Rattle.sdl_transition_behaviour.specs.declared.step.Frame.{Frame}
use Rattle.sdl_transition_behaviour.specs.declared.step.Step.{Step}
use Rattle.sdl_forward.specs.Boards.{same_station, IsBoardOf}
use Rattle.sdl_forward.specs.Forwards.{Forwarding, Moves}
use Rattle.sdl_forward_opening.specs.declared.worker.Worker.{Worker}
use Rattle.sdl_forward_opening.specs.declared.worker.Worker.TheVariants.{Environment, Forwarder}
use Rattle.sdl_forward_opening.proofs.Bringing.{among_right}
use Rattle.sdl_run_outcome.specs.Stations.{Among, Once, first, place, taker, same_worker}
use Rattle.sdl_forward.specs.Forwards.{station_behind}
use Rattle.sdl_run_outcome.specs.Books.{standing}
use Rattle.sdl_run_outcome.specs.Steps.{BringsOn}
use Rattle.sdl_run_outcome.specs.Plan.{Plan, IsPlan, blocks_in, blocks_from, lines_of, workers_of, ways_of}
use Rattle.sdl_run_order.specs.Driver.{Site, site_books, IsAtWork}
use Rattle.sdl_run_order.specs.Measure.{stations_from, to_go, load, work_left}
use Rattle.sdl_run_outcome.proofs.Comparisons.{cases_station, cases_worker, same_station_is, same_station_itself, same_worker_itself, other_worker}
use Rattle.sdl_run_outcome.proofs.AlongStations.{first_among, after_any, after_skip, after_itself, place_taker}
use Rattle.sdl_run_outcome.proofs.Ways.{ways_are}
use Rattle.sdl_run_outcome.proofs.Workers.{workers_once, taker_place, place_apart}
use Rattle.sdl_run_order.proofs.Forwarding.{forwards}
use Rattle.sdl_run_outcome.proofs.Sums.{sum_lower, sum_higher}

-- from the first station on there are all
pub first_from : (ss : List Station) (z : Station) → first ss ≡ Some z → stations_from z ss ≡ length ss
first_from [] z e = absurd (none-some z e)
first_from (x ∷ xs) z e =
    cond-true (same_station x z) (suc (length xs)) (stations_from z xs) (subst (λ (y : Station). same_station x y ≡ true) (same_Some x z e) (same_station_itself x))

from_skip : (x z : Station) (xs : List Station) → x ≢ z → stations_from z (x ∷ xs) ≡ stations_from z xs
from_skip x z xs n =
    cond_both (same_station x z) (suc (length xs)) (stations_from z xs) (λ (k : ℕ). k ≡ stations_from z xs) (λ t. absurd (n (same_station_is x z t))) (λ t. refl)

from_itself : (x : Station) (xs : List Station) → stations_from x (x ∷ xs) ≡ suc (length xs)
from_itself x xs = cond-true (same_station x x) (suc (length xs)) (stations_from x xs) (same_station_itself x)

-- a station that the list has counts itself
pub from_some : (s : Station) (ss : List Station) → Among s ss → 1 ≤ stations_from s ss
from_some s [] m = absurd m
from_some s (x ∷ xs) m =
    cond_both (same_station x s) (suc (length xs)) (stations_from s xs) (λ (k : ℕ). 1 ≤ k) (λ t. omega arith)
    (λ t. elim m as (λ _. 1 ≤ stations_from s xs) [ inl e ↦ absurd (false≢true (sym t ∙ subst (λ (y : Station). same_station x y ≡ true) (sym e) (same_station_itself x))) | inr n ↦ from_some s xs n ])

-- the station behind is one nearer the end
pub one_nearer : (a z : Station) (ss : List Station) → Once ss → station_behind a ss ≡ Some z → stations_from a ss ≡ suc (stations_from z ss)
one_nearer a z [] o e = absurd (none-some z e)
one_nearer a z (x ∷ xs) o e = elim (cases_station x a) [
  | inl p ↦ (
      let then : first xs ≡ Some z = sym (after_itself x xs) ∙ subst (λ (u : Station). station_behind u (x ∷ xs) ≡ Some z) (sym p) e in
      let apart : x ≢ z = λ s. o.0 (subst (λ (u : Station). Among u xs) (sym s) (first_among xs z then)) in
      subst (λ (u : Station). stations_from u (x ∷ xs) ≡ suc (stations_from z (x ∷ xs))) p
      (from_itself x xs ∙ ap suc (sym (from_skip x z xs apart ∙ first_from xs z then))))
  | inr n ↦ (
      let then : station_behind a xs ≡ Some z = sym (after_skip a x xs n) ∙ e in
      let apart : x ≢ z = λ s. o.0 (subst (λ (u : Station). Among u xs) (sym s) (after_any a xs z then)) in
      from_skip x a xs n ∙ (one_nearer a z xs o.1 then ∙ ap suc (sym (from_skip x z xs apart))))
]

hop_among : (fs : List Forwarding) (k : ℕ) (f : Forwarding) → slice_get fs k ≡ Some f → Among f.hop (map (λ (g : Forwarding). g.hop) fs)
hop_among [] k f e = absurd (none-some f e)
hop_among (g ∷ fs) zero f e = inl (sym (ap (λ (x : Forwarding). x.hop) (same_Some g f e)))
hop_among (g ∷ fs) (suc k) f e = inr (hop_among fs k f e)

forwarder_among : (hs : List Hop) (h : Hop) → Among h hs → Among (Forwarder h) (map Forwarder hs)
forwarder_among [] h m = absurd m
forwarder_among (k ∷ hs) h m = elim m [ inl e ↦ inl (ap Forwarder e) | inr n ↦ inr (forwarder_among hs h n) ]

module _ (may : ℕ → Frame → Step → Type 0) (plan : Plan) (ok : IsPlan plan) (old : Site) (work : IsAtWork may plan old) (k : ℕ) (was is : Forwarding)
    (before : slice_get old.forwarders k ≡ Some was) (board : List (Station × List Item)) (complete : IsBoardOf plan.routes board) (same : is.hop ≡ was.hop)
    (step : BringsOn (ways_of plan) was.hop (site_books old) (site_books (record { blocks = old.blocks; environment = old.environment; forwarders = set old.forwarders k is; board = board }))) where
  abbrev then : Site
  then = record { blocks = old.blocks; environment = old.environment; forwarders = set old.forwarders k is; board = board }

  abbrev here : Worker
  here = Forwarder was.hop

  abbrev there : Worker
  there = taker step.to

  -- what the item has still to go, here and there
  abbrev far : ℕ
  far = stations_from (Line was.hop) ((ways_of plan).stations step.item.route.0)

  abbrev near : ℕ
  near = stations_from step.to ((ways_of plan).stations step.item.route.0)

  nearer : far ≡ suc near
  nearer =
      let leads = λ (e : (ways_of plan).stations step.item.route.0 ≡ []). first_among [] step.to (sym (ap (station_behind (Line was.hop)) e) ∙ step.goes) in
      one_nearer (Line was.hop) step.to ((ways_of plan).stations step.item.route.0) (ways_are plan ok step.item.route.0 leads).once step.goes

  -- the loads after the item has left, before it has come
  abbrev between : Worker → ℕ
  between v = cond (same_worker v here) (load plan then v) (load plan old v)

  between_here : between here ≡ load plan then here
  between_here = cond-true (same_worker here here) (load plan then here) (load plan old here) (same_worker_itself here)

  between_else : (v : Worker) → v ≢ here → between v ≡ load plan old v
  between_else v n = cond-false (same_worker v here) (load plan then v) (load plan old v) (other_worker v here n)

  left_here : load plan old here ≡ between here + far
  left_here =
      let a = ap (to_go (ways_of plan) (Line was.hop)) step.takes in
      let b = sum_by-cons (λ (i : Item). stations_from (Line was.hop) ((ways_of plan).stations i.route.0)) step.item (standing (site_books then) (Line was.hop)) in
      let c = between_here in
      omega arith

  there_apart : there ≢ here
  there_apart e =
      let at : step.to ≡ Line was.hop = sym (taker_place step.to) ∙ ap place e in
      let same_way = ap (λ (s : Station). stations_from s ((ways_of plan).stations step.item.route.0)) at in
      let less = nearer in
      omega arith

  came_there : load plan then there ≡ between there + near
  came_there =
      let at : place there ≡ step.to = taker_place step.to in
      let a : to_go (ways_of plan) (place there) (standing (site_books then) (place there)) ≡ to_go (ways_of plan) step.to (standing (site_books then) step.to) = ap (λ (s : Station). to_go (ways_of plan) s (standing (site_books then) s)) at in
      let b : to_go (ways_of plan) (place there) (standing (site_books old) (place there)) ≡ to_go (ways_of plan) step.to (standing (site_books old) step.to) = ap (λ (s : Station). to_go (ways_of plan) s (standing (site_books old) s)) at in
      let c = ap (to_go (ways_of plan) step.to) step.puts in
      let d = sum_by-append (λ (i : Item). stations_from step.to ((ways_of plan).stations i.route.0)) (standing (site_books old) step.to) (step.item ∷ []) in
      let e = sum_by-cons (λ (i : Item). stations_from step.to ((ways_of plan).stations i.route.0)) step.item [] in
      let f = between_else there there_apart in
      omega arith

  same_else : (v : Worker) → v ≢ there → load plan then v ≡ between v
  same_else v n = elim (cases_worker v here) [
    | inl e ↦ subst (λ (u : Worker). load plan then u ≡ between u) (sym e) (sym between_here)
    | inr m ↦ (
        let apart : place v ≢ step.to = λ e. n (sym (place_taker v) ∙ ap taker e) in
        let a = ap (to_go (ways_of plan) (place v)) (step.others (place v) (place_apart v here m) apart) in
        let b = between_else v m in
        omega arith)
  ]

  here_among : Among here (workers_of plan)
  here_among =
      among_right here (blocks_from 0 (blocks_in plan)) (Environment ∷ map Forwarder (lines_of plan))
      (inr (forwarder_among (lines_of plan) was.hop (subst (Among was.hop) work.forwarders (hop_among old.forwarders k was before))))

  pub step_lowers : work_left plan then < work_left plan old
  step_lowers =
      let a = sum_lower (load plan old) between here far (workers_of plan) (workers_once plan) here_among left_here (λ v n. sym (between_else v n)) in
      let b = sum_higher between (load plan then) there near (workers_of plan) (workers_once plan) came_there (λ v. cases_worker v there) same_else in
      let c = nearer in
      omega arith

pub moves_lower : (may : ℕ → Frame → Step → Type 0) (plan : Plan) → IsPlan plan → (old : Site) → IsAtWork may plan old → (k : ℕ) (was is : Forwarding) → slice_get old.forwarders k ≡ Some was
    → (board : List (Station × List Item)) → IsBoardOf plan.routes board → is.hop ≡ was.hop → Moves plan.routes was old.board is board
    → work_left plan (record { blocks = old.blocks; environment = old.environment; forwarders = set old.forwarders k is; board = board }) < work_left plan old
moves_lower may plan ok old work k was is before board complete same moves =
    step_lowers may plan ok old work k was is before board complete same (forwards may plan ok old work k was is before board complete same moves)
