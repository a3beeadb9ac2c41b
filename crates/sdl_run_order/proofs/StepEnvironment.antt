-- The environment's step in terms of the books: it is a step of the agent, and keeps what holds between two steps.
use Rattle.std.proofs.Common.{ℕ, ◌+◌, List, ◌++◌, All, ◌≡◌, ◌≢◌, ◌⊎◌, inl, inr, Option, Some, None, slice_get, refl, ap, sym, ◌∙◌, subst, arith}
use Rattle.std.specs.List.{AllByRecursion}
use Rattle.std.proofs.lemmas.List.{append_assoc, length-map, map-append}
use Rattle.std.proofs.lemmas.List.Concat.{flat_map-append}
use Rattle.std.proofs.lemmas.List.Elements.{recursion_from_All, All-from_recursion}
use Rattle.sdl_signal.specs.declared.values.Item.{Item}
use Rattle.sdl_routes.specs.declared.route.TableRow.{TableRow}
use Rattle.sdl_routes.specs.declared.route.Station.{Station}
use Rattle.sdl_routes.specs.declared.route.Station.TheVariants.{Line, Inlet, Outlet}
use Rattle.sdl_transition_behaviour.specs.declared.step.Frame.{Frame}
use Rattle.sdl_transition_behaviour.specs.declared.step.Step.{Step}
use Rattle.sdl_forward.specs.Boards.{waiting, AreAllStations, IsBoardOf}
use Rattle.sdl_block_hand.specs.Work.{beginning_at, first_station, is_station}
use Rattle.sdl_run_outcome.specs.declared.environment_output.EnvOut.{EnvOut}
use Rattle.sdl_forward_opening.specs.declared.worker.Worker.{Worker}
use Rattle.sdl_forward_opening.specs.declared.worker.Worker.TheVariants.{Block, Environment, Forwarder}
use Rattle.sdl_run_outcome.specs.Stations.{IsAgent, Among, next, taker}
use Rattle.sdl_run_outcome.specs.Books.{standing}
use Rattle.sdl_run_outcome.specs.Steps.{Acts, IsUnchangedAt, bound_for}
use Rattle.sdl_run_outcome.specs.Plan.{Plan, IsPlan, MayTravel, blocks_in, starter, ways_of}
use Rattle.sdl_run_outcome.specs.EnvironmentWork.{EnvWorking, EnvWorks, ComesIn, GoesOut, AreCounted, sent_of, origin_of, env_sent, env_origins}
use Rattle.sdl_run_order.specs.Driver.{Site, site_books, kept_by, IsAtWork}
use Rattle.sdl_run_outcome.proofs.Lists.{all_front, all_end, all_append, all_filter, all_weaker, all_both, filter_agrees}
use Rattle.sdl_run_outcome.proofs.Environment.{counted_append}
use Rattle.sdl_run_outcome.proofs.Comparisons.{cases_station, cases_worker}
use Rattle.sdl_run_order.proofs.BlockStep.{first_row}
use Rattle.sdl_run_order.proofs.Quiet.{passing, route_at, station_cases, last_outlet}
use Rattle.sdl_run_outcome.proofs.Ways.{ways_are}
use Rattle.sdl_run_order.proofs.Keeps.{acts_keeps}

-- the environment's items go to where their routes begin
pub env_bound_is : (plan : Plan) (s : Station) (items : List Item) → bound_for (ways_of plan) Environment s items ≡ beginning_at plan.routes s items
env_bound_is plan s items =
    filter_agrees (λ (i : Item). is_station s (next (ways_of plan) Environment i.route.0)) (λ (i : Item). is_station s (first_station plan.routes i))
    (λ i. ap (is_station s) (first_row (slice_get plan.routes i.route.0))) items

-- an item whose source is a gate starts in the environment
pub comes_starts : (plan : Plan) (i : Item) → ComesIn plan.routes i → (ways_of plan).start i.route.0 ≡ Environment
comes_starts plan i (row, gate, at, from) =
    ap (λ (o : Option TableRow). elim o as (λ _. Worker) [ None ↦ Environment | Some x ↦ starter plan.structure x.source ]) at ∙ ap (starter plan.structure) from

-- what waits at the outlet may travel, and its route ends in the environment
module _ (may : ℕ → Frame → Step → Type 0) (plan : Plan) (ok : IsPlan plan) (site : Site) (work : IsAtWork may plan site) where
  outlet_item : (i : Item) → Among Outlet ((ways_of plan).stations i.route.0) → GoesOut plan.routes i
  outlet_item i m =
      let r = passing plan ok i.route.0 Outlet m in
      elim (station_cases plan ok Outlet r.0 (route_at plan ok i.route.0 r.0 r.1) r.2) [
        | inl l ↦ absurd (let e : Outlet ≡ Line l.0 = l.2 in cc)
        | inr h ↦ (let g = last_outlet plan ok r.0.route.end h in (r.0, g.0, r.1, g.1))
      ]

  pub outlet_goes : All (λ (i : Item). MayTravel plan i × GoesOut plan.routes i) (waiting site.board Outlet)
  outlet_goes =
      All-from_recursion (λ (i : Item). MayTravel plan i × GoesOut plan.routes i) (waiting site.board Outlet)
      (all_both (MayTravel plan) (GoesOut plan.routes) (waiting site.board Outlet) (work.waiting_legal Outlet)
      (all_weaker (λ (i : Item). Among Outlet ((ways_of plan).stations i.route.0)) (GoesOut plan.routes) outlet_item (waiting site.board Outlet) (work.order.in_place Outlet)))

module _ (may : ℕ → Frame → Step → Type 0) (plan : Plan) (ok : IsPlan plan) (old : Site) (work : IsAtWork may plan old) (is : EnvWorking) (board : List (Station × List Item))
    (complete : IsBoardOf plan.routes board) (works : EnvWorks plan.structure plan.routes (blocks_in plan) old.environment old.board is board) where
  -- the driver after the step
  abbrev then : Site
  then = record { blocks = old.blocks; environment = is; forwarders = old.forwarders; board = board }

  put_is : (s : Station) → beginning_at plan.routes s works.put ≡ bound_for (ways_of plan) Environment s works.put
  put_is s = sym (env_bound_is plan s works.put)

  steps_sent : env_sent is.put ≡ env_sent old.environment.put ++ env_sent works.outs
  steps_sent = ap env_sent works.outputs ∙ flat_map-append sent_of old.environment.put works.outs

  -- what waited at the outlet, and came there, is what was taken and what is left
  pub outlet_parts : waiting old.board Outlet ++ bound_for (ways_of plan) Environment Outlet works.put ≡ works.taken ++ waiting board Outlet
  outlet_parts = ap (λ (xs : List Item). waiting old.board Outlet ++ xs) (sym (put_is Outlet)) ∙ works.outlet

  steps_in : is.received ++ waiting board Outlet ≡ (old.environment.received ++ waiting old.board Outlet) ++ bound_for (ways_of plan) Environment Outlet works.put
  steps_in =
      ap (λ (xs : List Item). xs ++ waiting board Outlet) works.came
      ∙ (append_assoc old.environment.received works.taken (waiting board Outlet)
      ∙ (ap (λ (xs : List Item). old.environment.received ++ xs) (sym outlet_parts)
      ∙ sym (append_assoc old.environment.received (waiting old.board Outlet) (bound_for (ways_of plan) Environment Outlet works.put))))

  kept_same : (w : Worker) → kept_by then w ≡ kept_by old w
  kept_same (Block b) = refl
  kept_same Environment = refl
  kept_same (Forwarder h) = refl

  pub env_else : (s : Station) → s ≢ Outlet → standing (site_books then) s ≡ standing (site_books old) s ++ bound_for (ways_of plan) Environment s works.put
  env_else s e =
      let k = kept_same (taker s) in
      let r = works.others s e in
      let p = put_is s in
      let a = append_assoc (kept_by old (taker s)) (waiting old.board s) (bound_for (ways_of plan) Environment s works.put) in
      cc

  pub env_quiet : (v : Worker) → v ≢ Environment → IsUnchangedAt v (site_books old) (site_books then)
  env_quiet (Block b) e = record { sent = refl; arrived = refl; outgoing = refl }
  env_quiet Environment e = absurd (e refl)
  env_quiet (Forwarder h) e = record { sent = refl; arrived = refl; outgoing = refl }

  pub acts : Acts (ways_of plan) Environment (site_books old) (site_books then)
  acts =
      record {
        agent = tt;
        new = env_sent works.outs;
        put = works.put;
        sends = steps_sent;
        starts = all_weaker (ComesIn plan.routes) (λ (i : Item). (ways_of plan).start i.route.0 ≡ Environment) (comes_starts plan) (env_sent works.outs)
            (recursion_from_All (ComesIn plan.routes) (env_sent works.outs) works.coming);
        hand = works.went;
        lets_in = steps_in;
        others = env_else;
        agents = λ v a e. env_quiet v e;
      }

  -- what was put, and what is in hand then, may travel
  sent_legal : AllByRecursion (MayTravel plan) (works.put ++ is.outgoing)
  sent_legal =
      subst (AllByRecursion (MayTravel plan)) (sym works.went)
      (all_append (MayTravel plan) old.environment.outgoing (env_sent works.outs) (work.outgoing_legal Environment tt) (recursion_from_All (MayTravel plan) (env_sent works.outs) works.legal))

  put_legal : (s : Station) → AllByRecursion (MayTravel plan) (bound_for (ways_of plan) Environment s works.put)
  put_legal s =
      all_filter (MayTravel plan) (λ (i : Item). is_station s (next (ways_of plan) Environment i.route.0)) works.put
      (all_front (MayTravel plan) works.put is.outgoing sent_legal)

  legal_then : (s : Station) → (s ≡ Outlet) ⊎ (s ≢ Outlet) → AllByRecursion (MayTravel plan) (standing (site_books then) s)
  legal_then s (inl e) =
      subst (λ (u : Station). AllByRecursion (MayTravel plan) (standing (site_books then) u)) (sym e)
      (all_end (MayTravel plan) works.taken (waiting board Outlet)
      (subst (AllByRecursion (MayTravel plan)) outlet_parts
      (all_append (MayTravel plan) (waiting old.board Outlet) (bound_for (ways_of plan) Environment Outlet works.put) (work.waiting_legal Outlet) (put_legal Outlet))))
  legal_then s (inr e) =
      subst (AllByRecursion (MayTravel plan)) (sym (env_else s e))
      (all_append (MayTravel plan) (standing (site_books old) s) (bound_for (ways_of plan) Environment s works.put) (work.waiting_legal s) (put_legal s))

  legal_hand : (w : Worker) → IsAgent w → (w ≡ Environment) ⊎ (w ≢ Environment) → AllByRecursion (MayTravel plan) ((site_books then).outgoing w)
  legal_hand w a (inl e) =
      subst (λ (v : Worker). AllByRecursion (MayTravel plan) ((site_books then).outgoing v)) (sym e) (all_end (MayTravel plan) works.put is.outgoing sent_legal)
  legal_hand w a (inr e) = subst (AllByRecursion (MayTravel plan)) (sym (env_quiet w e).outgoing) (work.outgoing_legal w a)

  counted_then : AreCounted (blocks_in plan) 0 (env_origins is.put)
  counted_then =
      subst (AreCounted (blocks_in plan) 0) (sym (ap env_origins works.outputs ∙ map-append origin_of old.environment.put works.outs))
      (counted_append (blocks_in plan) 0 (env_origins old.environment.put) (env_origins works.outs) work.counted
      (subst (λ (m : ℕ). AreCounted (blocks_in plan) m (env_origins works.outs)) (let l = length-map old.environment.put origin_of in omega (arith, l)) works.numbered))

  pub env_keeps : IsAtWork may plan then
  env_keeps =
      record {
        blocks = work.blocks;
        cores = work.cores;
        environment = works.sound;
        counted = counted_then;
        coming = subst (AllByRecursion (ComesIn plan.routes)) (sym steps_sent)
            (all_append (ComesIn plan.routes) (env_sent old.environment.put) (env_sent works.outs) work.coming (recursion_from_All (ComesIn plan.routes) (env_sent works.outs) works.coming));
        forwarders = work.forwarders;
        board = complete;
        order = acts_keeps (ways_of plan) Environment (site_books old) (site_books then) (ways_are plan ok) work.order acts;
        waiting_legal = λ s. legal_then s (cases_station s Outlet);
        outgoing_legal = λ w a. legal_hand w a (cases_worker w Environment);
      }
