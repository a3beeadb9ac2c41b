-- After a round in which no worker could do anything, the run is quiet, or the budget of some block is used.
use Rattle.std.proofs.Common.{ℕ, zero, suc, ◌<◌, List, [], ◌∷◌, map, ◌≡◌, ◌⊎◌, Option, Some, None, slice_get, refl, inl, inr, ap, sym, ◌∙◌, subst, arith}
use Rattle.std.specs.Option.{IsSomeAnd}
use Rattle.std.specs.List.{filter, AllByRecursion}
use Rattle.std.proofs.lemmas.Option.{none-some, same_Some, slice_get_cases, slice_get_within}
use Rattle.sdl_signal.specs.declared.ids.BlockId.{BlockId}
use Rattle.sdl_signal.specs.declared.ids.GateId.{GateId}
use Rattle.sdl_signal.specs.declared.values.Item.{Item}
use Rattle.sdl_signal.specs.declared.values.Pid.{Pid}
use Rattle.sdl_structure_parts.specs.declared.parts.Set.{Set}
use Rattle.sdl_structure_parts.specs.Structure.{set_at}
use Rattle.sdl_routes.specs.declared.route.Hop.{Hop}
use Rattle.sdl_routes.specs.declared.route.TableRow.{TableRow}
use Rattle.sdl_routes.specs.declared.route.EndPoint.{EndPoint}
use Rattle.sdl_routes.specs.declared.route.EndPoint.TheVariants as ends
use Rattle.sdl_routes.specs.declared.route.Station.{Station}
use Rattle.sdl_routes.specs.declared.route.Station.TheVariants.{Line, Inlet, Outlet}
use Rattle.sdl_routes.specs.Routes.{IsRoute, IsLastStation, is_delaying}
use Rattle.sdl_instances.specs.Machine.{State}
use Rattle.sdl_instances.specs.Run.{turns}
use Rattle.sdl_instances.specs.Core.{IsReady}
use Rattle.sdl_transition_behaviour.specs.declared.step.Frame.{Frame}
use Rattle.sdl_transition_behaviour.specs.declared.step.Step.{Step}
use Rattle.sdl_forward.specs.Boards.{waiting}
use Rattle.sdl_forward.specs.Forwards.{Forwarding}
use Rattle.sdl_run_outcome.specs.Stations.{Among, taker}
use Rattle.sdl_run_outcome.specs.Plan.{Plan, IsPlan, blocks_in, lines_of, ways_of}
use Rattle.sdl_run_outcome.specs.Outcome.{log_at}
use Rattle.sdl_run_outcome.specs.Ends.{IsFree, IsSettled, IsQuiet, IsSpentAt}
use Rattle.sdl_block_hand.specs.Work.{Working}
use Rattle.sdl_run_order.specs.Driver.{Site, IsAtWork, IsIdle, site_books, outcome_of, finals_of, block_hand, env_hand, forwarder_hand}
use Rattle.sdl_forward_opening.proofs.Bringing.{among_filter}
use Rattle.sdl_forward_opening.proofs.Takers.{among_stations, walk_carries, carried_path}
use Rattle.sdl_run_outcome.proofs.AlongStations.{among_some}
use Rattle.sdl_run_outcome.proofs.Lists.{all_at, all_end, all_append, all_map}
use Rattle.sdl_run_outcome.proofs.Ways.{row_of}

unfoldable pub number : ℕ → BlockId
number n = record { 0 = n }

all_from_get : {X : Type 0} (P : X → Type 0) (xs : List X) → ((n : ℕ) (x : X) → slice_get xs n ≡ Some x → P x) → AllByRecursion P xs
all_from_get P [] h = tt
all_from_get P (x ∷ xs) h = (h 0 x refl, all_from_get P xs (λ n y e. h (suc n) y e))

among_get : (fs : List Forwarding) (h : Hop) → Among h (map (λ (f : Forwarding). f.hop) fs) → (k : ℕ) × (f : Forwarding) × (slice_get fs k ≡ Some f) × (f.hop ≡ h)
among_get [] h m = absurd m
among_get (f ∷ fs) h m = elim m [
  | inl e ↦ (0, f, refl, sym e)
  | inr n ↦ (let r = among_get fs h n in (suc r.0, r.1, r.2, r.3))
]

-- an item that waits is on a route through its station
first_route : (plan : Plan) (s : Station) (xs : List Item) → AllByRecursion (λ (i : Item). Among s ((ways_of plan).stations i.route.0)) xs → (xs ≡ []) ⊎ ((r : ℕ) × Among s ((ways_of plan).stations r))
first_route plan s [] h = inl refl
first_route plan s (i ∷ xs) h = inr (i.route.0, h.0)

log_here : (ws : List Working) (n : ℕ) (w : Working) → slice_get ws n ≡ Some w → log_at (map (λ (k : Working). k.core.log) ws) n ≡ w.core.log
log_here [] n w e = absurd (none-some w e)
log_here (v ∷ ws) zero w e = ap (λ (k : Working). k.core.log) (same_Some v w e)
log_here (v ∷ ws) (suc n) w e = log_here ws n w e

pub get_map : (ws : List Working) (n : ℕ) (w : Working) → slice_get ws n ≡ Some w → slice_get (map (λ (k : Working). k.core.state) ws) n ≡ Some w.core.state
get_map [] n w e = absurd (none-some w e)
get_map (v ∷ ws) zero w e = ap (λ (k : Working). Some k.core.state) (same_Some v w e)
get_map (v ∷ ws) (suc n) w e = get_map ws n w e

state_here : (ws : List Working) (n : ℕ) (s : State) → slice_get (map (λ (w : Working). w.core.state) ws) n ≡ Some s → (w : Working) × (slice_get ws n ≡ Some w) × (w.core.state ≡ s)
state_here [] n s e = absurd (none-some s e)
state_here (w ∷ ws) zero s e = (w, refl, same_Some w.core.state s e)
state_here (w ∷ ws) (suc n) s e = state_here ws n s e

module _ (plan : Plan) (ok : IsPlan plan) where
  pub route_at : (r : ℕ) (row : TableRow) → slice_get plan.routes r ≡ Some row → IsRoute plan.structure row
  route_at r row at = all_at (IsRoute plan.structure) plan.routes r row ok.routes.sound at

  -- the row of a route through a station, and where the station stands in it
  pub passing : (r : ℕ) (s : Station) → Among s ((ways_of plan).stations r) → (row : TableRow) × (slice_get plan.routes r ≡ Some row) × Among s row.route.stations.items
  passing r s m =
      let row = row_of plan r (among_some s ((ways_of plan).stations r) m) in
      (row.0, row.1, subst (λ (o : Option TableRow). Among s (elim o as (λ _. List Station) [ None ↦ [] | Some x ↦ x.route.stations.items ])) row.1 m)

  -- where a row's station stands: a line that is among the lines, or its last
  pub station_cases : (s : Station) (row : TableRow) → IsRoute plan.structure row → Among s row.route.stations.items → ((h : Hop) × Among h (lines_of plan) × (s ≡ Line h)) ⊎ IsLastStation plan.structure row.route.end s
  station_cases s row route m =
      elim (among_stations (filter (is_delaying plan.structure) row.route.hops.items) route.stations.0 s (subst (Among s) route.stations.2 m)) [
        | inl r ↦ (
            let in_hops = among_filter (is_delaying plan.structure) r.0 row.route.hops.items r.1 in
            inl (r.0, carried_path plan.structure r.0 row.route.signal in_hops.1 (walk_carries plan.structure row.route.signal row.route.hops.items r.0 route.walk in_hops.0), r.2))
        | inr e ↦ inr (subst (IsLastStation plan.structure row.route.end) (sym e) route.stations.1)
      ]

  last_line : (end : EndPoint) (h : Hop) → IsLastStation plan.structure end (Line h) → ⊥
  last_line (ends.Set t) h = some_line (set_at plan.structure t)
    where
      some_line : (o : Option Set) → IsSomeAnd o (λ set. Line h ≡ Inlet set.block) → ⊥
      some_line None e = e
      some_line (Some d) e = cc
  last_line (ends.Environment g) h = λ e. cc

  -- each station of a route: a line among the lines, the inlet of a block, or the outlet
  some_set : (o : Option Set) (b : BlockId) → IsSomeAnd o (λ set. Inlet b ≡ Inlet set.block) → (d : Set) × (o ≡ Some d) × (b ≡ d.block)
  some_set None b e = absurd e
  some_set (Some d) b e = (d, refl, ap (λ (s : Station). block_in b s) e)
    where
      block_in : BlockId → Station → BlockId
      block_in c (Inlet d) = d
      block_in c (Line h) = c
      block_in c Outlet = c

  last_inlet : (end : EndPoint) (b : BlockId) → IsLastStation plan.structure end (Inlet b) → b.0 < blocks_in plan
  last_inlet (ends.Set t) b h =
      let found = some_set (set_at plan.structure t) b h in
      let within : found.0.block.0 < blocks_in plan = all_at (λ (d : Set). d.block.0 < blocks_in plan) plan.structure.sets t.0 found.0 ok.structure.sets found.1 in
      subst (λ (c : BlockId). c.0 < blocks_in plan) (sym found.2) within
  last_inlet (ends.Environment g) b h = absurd (let e : Inlet b ≡ Outlet = h in cc)

  -- a route through the outlet ends in the environment
  no_set : (o : Option Set) → IsSomeAnd o (λ set. Outlet ≡ Inlet set.block) → ⊥
  no_set None f = f
  no_set (Some d) f = cc

  pub last_outlet : (end : EndPoint) → IsLastStation plan.structure end Outlet → (gate : GateId) × (end ≡ ends.Environment gate)
  last_outlet (ends.Set t) h = absurd (no_set (set_at plan.structure t) h)
  last_outlet (ends.Environment g) h = (g, refl)

  module _ (may : ℕ → Frame → Step → Type 0) (site : Site) (work : IsAtWork may plan site) where
    waits_on_route : (s : Station) → (waiting site.board s ≡ []) ⊎ ((row : TableRow) × IsRoute plan.structure row × Among s row.route.stations.items)
    waits_on_route s =
        elim (first_route plan s (waiting site.board s) (all_end (λ (i : Item). Among s ((ways_of plan).stations i.route.0)) ((site_books site).kept (taker s)) (waiting site.board s) (work.order.in_place s))) [
          | inl e ↦ inl e
          | inr r ↦ (let row = passing r.0 s r.1 in inr (row.0, route_at r.0 row.0 row.1, row.2))
        ]

    module _ (idle : IsIdle site) where
      line_free : (h : Hop) → Among h (lines_of plan) → waiting site.board (Line h) ≡ []
      line_free h m =
          let f = among_get site.forwarders h (subst (Among h) (sym work.forwarders) m) in
          subst (λ (k : Hop). waiting site.board (Line k) ≡ []) f.3 (idle.forwarders f.0 f.1 f.2).1

      pub lines_free : (h : Hop) → waiting site.board (Line h) ≡ []
      lines_free h = elim (waits_on_route (Line h)) [
        | inl e ↦ e
        | inr r ↦ elim (station_cases (Line h) r.0 r.1 r.2) [
          | inl l ↦ subst (λ (s : Station). waiting site.board s ≡ []) (sym l.2) (line_free l.0 l.1)
          | inr last ↦ absurd (last_line r.0.route.end h last)
        ]
      ]

      -- an inlet of no block is empty
      pub inlets_beyond : (b : BlockId) → (waiting site.board (Inlet b) ≡ []) ⊎ (b.0 < blocks_in plan)
      inlets_beyond b = elim (waits_on_route (Inlet b)) [
        | inl e ↦ inl e
        | inr r ↦ elim (station_cases (Inlet b) r.0 r.1 r.2) [
          | inl l ↦ absurd (let e : Inlet b ≡ Line l.0 = l.2 in cc)
          | inr last ↦ inr (last_inlet r.0.route.end b last)
        ]
      ]

      pub hands_free : AllByRecursion IsFree (outcome_of site).hands
      hands_free =
          all_append IsFree (map block_hand site.blocks) (env_hand site.environment ∷ map forwarder_hand site.forwarders)
          (all_map IsFree block_hand site.blocks (all_from_get (λ (w : Working). IsFree (block_hand w)) site.blocks (λ n w e. let rest = idle.blocks n w e in (rest.kept, rest.outgoing))))
          ((refl, idle.outgoing), all_map IsFree forwarder_hand site.forwarders (all_from_get (λ (f : Forwarding). IsFree (forwarder_hand f)) site.forwarders (λ n f e. ((idle.forwarders n f e).0, refl))))

      at_place : (n : ℕ) → n < blocks_in plan → (w : Working) × (slice_get site.blocks n ≡ Some w)
      at_place n less = elim (slice_get_cases site.blocks n).1 [
        | inl h ↦ (h.0, h.2)
        | inr h ↦ (let past = h.0 in let count = work.blocks in absurd (omega arith))
      ]

      -- a block of which nothing is to be done: its inlet is empty, and no instance is ready
      abbrev pub IsDone : ℕ → Working → Type 0
      IsDone n w = (waiting site.board (Inlet (number n)) ≡ []) × ((p : Pid) → IsReady p w.core.state → ⊥)

      -- each block is, or its budget is used
      pub done_or_spent : (n : ℕ) (w : Working) → slice_get site.blocks n ≡ Some w → (turns w.core.log ≡ plan.budget) ⊎ IsDone n w
      unfolding number
      done_or_spent n w e =
          let core = work.cores n w e in
          elim (idle.blocks n w e).work [
            | inl used ↦ inl (used ∙ core.budget)
            | inr rest ↦ inr (subst (λ (b : BlockId). waiting site.board (Inlet b) ≡ []) core.block rest.0, rest.1)
          ]

      settled_at : (n : ℕ) (w : Working) → slice_get site.blocks n ≡ Some w → ((p : Pid) → IsReady p w.core.state → ⊥) → IsSettled plan (outcome_of site) (finals_of site) n
      settled_at n w e none s p at ready =
          let found = state_here site.blocks n s at in
          let same : w ≡ found.0 = same_Some w found.0 (sym e ∙ found.1) in
          none p (subst (IsReady p) (sym (ap (λ (k : Working). k.core.state) same ∙ found.2)) ready)

      inlet_free : ((n : ℕ) (w : Working) → slice_get site.blocks n ≡ Some w → IsDone n w) → (b : BlockId) → waiting site.board (Inlet b) ≡ []
      unfolding number
      inlet_free done b = elim (inlets_beyond b) [
        | inl e ↦ e
        | inr less ↦ (let w = at_place b.0 less in (done b.0 w.0 w.1).0)
      ]

      -- where nothing is to be done of any block, the run is quiet
      pub quiet_end : ((n : ℕ) (w : Working) → slice_get site.blocks n ≡ Some w → IsDone n w) → IsQuiet plan (outcome_of site) (finals_of site)
      quiet_end done =
          record {
            hands = hands_free;
            rests = rest_free;
            blocks = λ b less. let w = at_place b less in settled_at b w.0 w.1 (done b w.0 w.1).1;
          }
        where
          rest_free : (s : Station) → waiting site.board s ≡ []
          rest_free (Line h) = lines_free h
          rest_free (Inlet b) = inlet_free done b
          rest_free Outlet = idle.outlet

      -- and so where no budget is used
      pub none_spent_end : ((n : ℕ) (w : Working) → slice_get site.blocks n ≡ Some w → turns w.core.log ≡ plan.budget → ⊥) → IsQuiet plan (outcome_of site) (finals_of site)
      none_spent_end none = quiet_end (λ n w e. elim (done_or_spent n w e) [ inl used ↦ absurd (none n w e used) | inr done ↦ done ])

      -- where the run is not quiet, the budget of some block is used; the least such is named
      pub spent_end : (b : ℕ) (w : Working) → slice_get site.blocks b ≡ Some w → turns w.core.log ≡ plan.budget
          → ((a : ℕ) (v : Working) → a < b → slice_get site.blocks a ≡ Some v → turns v.core.log ≡ plan.budget → ⊥)
          → (IsQuiet plan (outcome_of site) (finals_of site) → ⊥) → IsSpentAt plan (outcome_of site) (finals_of site) b
      unfolding number
      spent_end b w at used least more =
          record {
            more = more;
            within = let l = slice_get_within site.blocks b w at in let c = work.blocks in omega arith;
            spent = ap turns (log_here site.blocks b w at) ∙ used;
            least = λ a less spent. let l = slice_get_within site.blocks b w at in let c = work.blocks in let v = at_place a (omega arith) in
                least a v.0 less v.1 (sym (ap turns (log_here site.blocks a v.0 v.1)) ∙ spent);
            hands = hands_free;
            lines = lines_free;
            outlet = idle.outlet;
            others = λ a less unused. let v = at_place a.0 less in
                elim (done_or_spent a.0 v.0 v.1) [
                  | inl same ↦ (let e = ap turns (log_here site.blocks a.0 v.0 v.1) in absurd (omega arith))
                  | inr done ↦ (done.0, settled_at a.0 v.0 v.1 done.1)
                ];
          }
