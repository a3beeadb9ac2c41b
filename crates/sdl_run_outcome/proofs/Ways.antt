-- The ways of a structure's routes: delaying lines, each once, and last the station of the worker at the end.
use Rattle.std.proofs.Common.{ℕ, ◌<◌, List, [], ◌∷◌, ◌++◌, length, map, ◌≡◌, ◌≢◌, Option, Some, None, option_map, slice_get, inl, inr, ap, sym, ◌∙◌, subst, arith}
use Rattle.std.proofs.lemmas.Option.{none-some, same_Some, slice_get_cases}
use Rattle.std.specs.List.{filter}
use Rattle.std.specs.Option.{IsSomeAnd}
use Rattle.sdl_signal.specs.declared.ids.SetId.{SetId}
use Rattle.sdl_structure_parts.specs.Structure.{Structure, set_at}
use Rattle.sdl_structure_parts.specs.declared.parts.Set.{Set}
use Rattle.sdl_routes.specs.declared.route.EndPoint.{EndPoint}
use Rattle.sdl_routes.specs.declared.route.EndPoint.TheVariants as ends
use Rattle.sdl_routes.specs.declared.route.Source.TheVariants as source
use Rattle.sdl_routes.specs.declared.route.TableRow.{TableRow}
use Rattle.sdl_routes.specs.declared.route.Station.{Station}
use Rattle.sdl_routes.specs.declared.route.Station.TheVariants.{Line, Inlet}
use Rattle.sdl_routes.specs.Routes.{IsRoute, IsLastStation, EachOnce, is_delaying}
use Rattle.sdl_routes.specs.Table.{IsTableRoute}
use Rattle.sdl_instances.specs.declared.process_set.ProcessSet.{ProcessSet}
use Rattle.sdl_instances.specs.Core.{numbers_of}
use Rattle.sdl_forward_opening.specs.declared.worker.Worker.{Worker}
use Rattle.sdl_forward_opening.specs.declared.worker.Worker.TheVariants.{Block, Environment}
use Rattle.sdl_run_outcome.specs.Stations.{IsAgent, Leads, AreWays, IsWay, Once, place}
use Rattle.sdl_run_outcome.proofs.Lists.{all_at}
use Rattle.sdl_run_outcome.specs.Plan.{Plan, IsPlan, worker_of_set, ways_of, starter, finisher}
use Rattle.sdl_forward_opening.proofs.Bringing.{starter_agent, set_agent, not_among}

pub once_of : (ss : List Station) → EachOnce ss → Once ss
once_of [] h = tt
once_of (s ∷ ss) h = (not_among s ss h.0, once_of ss h.1)

-- the worker of a set of the block
pub set_worker : (s : Structure) (set : SetId) (d : ProcessSet) (o : Option Set) → set_at s set ≡ o → option_map numbers_of o ≡ Some d → worker_of_set s set ≡ Block d.block
set_worker s set d None at e = absurd (none-some d e)
set_worker s set d (Some t) at e =
    ap (λ (o : Option Set). elim o as (λ _. Worker) [ None ↦ Environment | Some x ↦ Block x.block ]) at ∙ ap (λ (x : ProcessSet). Block x.block) (same_Some (numbers_of t) d e)

pub finisher_agent : (s : Structure) (end : EndPoint) → IsAgent (finisher s end)
finisher_agent s (ends.Set t) = set_agent (set_at s t)
finisher_agent s (ends.Environment g) = tt

set_last : (o : Option Set) (last : Station) → IsSomeAnd o (λ set. last ≡ Inlet set.block) → last ≡ place (elim o as (λ _. Worker) [ None ↦ Environment | Some d ↦ Block d.block ])
set_last None last h = absurd h
set_last (Some d) last h = h

last_place : (s : Structure) (end : EndPoint) (last : Station) → IsLastStation s end last → last ≡ place (finisher s end)
last_place s (ends.Set t) last h = set_last (set_at s t) last h
last_place s (ends.Environment g) last h = h

-- at a row, the way is its own
module _ (plan : Plan) (ok : IsPlan plan) (r : ℕ) (row : TableRow) (at : slice_get plan.routes r ≡ Some row) where
  is_route : IsRoute plan.structure row
  is_route = all_at (IsRoute plan.structure) plan.routes r row ok.routes.sound at

  pub stations_at : (ways_of plan).stations r ≡ row.route.stations.items
  stations_at = ap (λ (o : Option TableRow). elim o as (λ _. List Station) [ None ↦ [] | Some x ↦ x.route.stations.items ]) at

  pub start_at : (ways_of plan).start r ≡ starter plan.structure row.source
  start_at = ap (λ (o : Option TableRow). elim o as (λ _. Worker) [ None ↦ Environment | Some x ↦ starter plan.structure x.source ]) at

  pub finish_at : (ways_of plan).finish r ≡ finisher plan.structure row.route.end
  finish_at = ap (λ (o : Option TableRow). elim o as (λ _. Worker) [ None ↦ Environment | Some x ↦ finisher plan.structure x.route.end ]) at

  pub way_at : IsWay (ways_of plan) r
  way_at =
      let shown : IsTableRoute row = all_at IsTableRoute plan.routes r row ok.table.shown at in
      let last = is_route.stations.0 in
      let lines = filter (is_delaying plan.structure) row.route.hops.items in
      let place_is : last ≡ place ((ways_of plan).finish r) = last_place plan.structure row.route.end last is_route.stations.1 ∙ ap place (sym finish_at) in
      record {
        lines = lines;
        are = stations_at ∙ (is_route.stations.2 ∙ ap (λ (s : Station). map Line lines ++ s ∷ []) place_is);
        once = subst Once (sym stations_at) (once_of row.route.stations.items shown.stations_once);
        from = subst IsAgent (sym start_at) (starter_agent plan.structure row.source);
        to = subst IsAgent (sym finish_at) (finisher_agent plan.structure row.route.end);
      }

some_last : (lines : List Station) (s : Station) → lines ++ s ∷ [] ≢ []
some_last [] s e = cc
some_last (x ∷ xs) s e = cc

pub leads_at : (plan : Plan) → IsPlan plan → (r : ℕ) (row : TableRow) → slice_get plan.routes r ≡ Some row → Leads (ways_of plan) r
leads_at plan ok r row at e =
    let way = way_at plan ok r row at in
    some_last (map Line way.lines) (place ((ways_of plan).finish r)) (sym way.are ∙ e)

-- a number that leads somewhere is that of a row
pub row_of : (plan : Plan) (r : ℕ) → Leads (ways_of plan) r → (row : TableRow) × (slice_get plan.routes r ≡ Some row)
row_of plan r leads = elim (slice_get_cases plan.routes r).1 [
  | inl h ↦ (h.0, h.2)
  | inr h ↦ absurd (leads (ap (λ (o : Option TableRow). elim o as (λ _. List Station) [ None ↦ [] | Some x ↦ x.route.stations.items ]) h.1))
]

pub ways_are : (plan : Plan) → IsPlan plan → AreWays (ways_of plan)
ways_are plan ok r leads = let row = row_of plan r leads in way_at plan ok r row.0 row.1

-- each route of the table leads somewhere
pub leads_within : (plan : Plan) → IsPlan plan → (r : ℕ) → r < length plan.routes → Leads (ways_of plan) r
leads_within plan ok r less = elim (slice_get_cases plan.routes r).1 [
  | inl h ↦ leads_at plan ok r h.0 h.2
  | inr h ↦ let past = h.0 in absurd (omega arith)
]
