-- Before the first step each worker keeps what its steps keep, with the ends that were opened for it.
use Rattle.std.proofs.Common.{ℕ, ◌+◌, ◌<◌, All, List, [], ◌++◌, ◌≡◌, Option, Some, None, option_map, slice_get, refl, ap, sym, ◌∙◌, subst, arith}
use Rattle.std.proofs.lemmas.Option.{none-some, slice_get-map, slice_get_within}
use Rattle.std.proofs.lemmas.List.Elements.{All-from_recursion}
use Rattle.std.specs.Option.{option_to_list}
use Rattle.sdl_signal.specs.declared.ids.BlockId.{BlockId}
use Rattle.sdl_signal.specs.declared.values.Item.{Item}
use Rattle.sdl_structure_parts.specs.Structure.{set_at}
use Rattle.sdl_routes.specs.declared.route.Hop.{Hop}
use Rattle.sdl_routes.specs.declared.route.TableRow.{TableRow}
use Rattle.sdl_routes.specs.declared.route.Station.{Station}
use Rattle.sdl_transition_behaviour.specs.declared.step.Frame.{Frame}
use Rattle.sdl_transition_behaviour.specs.declared.step.Step.{Step}
use Rattle.sdl_instances.specs.Run.{arrived, sent}
use Rattle.sdl_instances.specs.Core.{IsLegalIn, numbers_of}
use Rattle.sdl_forward_ends.specs.Ends.{WorkerEnds, HasFeed, put_at, taken_by}
use Rattle.sdl_forward_opening.specs.declared.worker.Worker.{Worker}
use Rattle.sdl_forward_opening.specs.declared.worker.Worker.TheVariants.{Block, Environment, Forwarder}
use Rattle.sdl_forward_opening.specs.Workers.{first, starter}
use Rattle.sdl_forward_opening.specs.Opens.{Brings, AreOpen, ends_of}
use Rattle.sdl_forward.specs.Forwards.{Forwarding}
use Rattle.sdl_forward.specs.HandsOn.{IsHandingOn}
use Rattle.sdl_block_hand.specs.Work.{Working}
use Rattle.sdl_block_hand.specs.Apart.{IsPuttingOut, HasOwnWays, StartsIn}
use Rattle.sdl_run_outcome.specs.Plan.{Plan, IsPlan, blocks_in, lines_of, workers_of, ways_of, system_at}
use Rattle.sdl_run_outcome.specs.declared.environment_output.EnvOut.{EnvOut}
use Rattle.sdl_run_outcome.specs.EnvironmentWork.{EnvWorking, IsEnvFresh, IsLegalItem, ComesIn, AreCounted, env_sent, env_origins}
use Rattle.sdl_run_outcome.proofs.Environment.{fresh_sound}
use Rattle.sdl_run_outcome.proofs.Lists.{all_at}
use Rattle.sdl_run_outcome.proofs.Ways.{set_worker, stations_at, start_at}
use Rattle.sdl_run_order.specs.Driver.{Site, IsCoreAt}
use Rattle.sdl_run_order.proofs.ForwarderStep.{next_is}
use Rattle.sdl_run_environment.specs.EnvApart.{IsEnvPuttingOut}
use Rattle.sdl_run_join.specs.Back.{HaveComeBack, AreNew}
use Rattle.sdl_run_join.proofs.Places.{block_is, environment_is, line_is}

no_items : (P : Item → Type 0) (xs : List Item) → xs ≡ [] → All P xs
no_items P xs e = subst (All P) (sym e) (All-from_recursion P [] tt)

module _ (plan : Plan) (ok : IsPlan plan) where
  -- a block brings the items of a route that starts at one of its sets to the route's first station, and so does the environment

  block_brings : (b : BlockId) (r : ℕ) (row : TableRow) (s : Station) → slice_get plan.routes r ≡ Some row → StartsIn (system_at plan b.0).sets b row → slice_get row.route.stations.items 0 ≡ Some s → Brings (ways_of plan) (Block b) r s
  block_brings b r row s at (set, d, from, found, here) begins = (
    ap first (stations_at plan ok r row at) ∙ begins,
    λ a. start_at plan ok r row at ∙ (ap (starter plan.structure) from ∙ (set_worker plan.structure set d (set_at plan.structure set) refl (sym (slice_get-map numbers_of plan.structure.sets set.0) ∙ found) ∙ ap Block here)),
  )

  module _ (all : List WorkerEnds) (shelf : List (Station × ℕ)) (opened : AreOpen plan.structure plan.routes all shelf) where
    -- of a worker's own ends
    none_put : (w : Worker) (e : WorkerEnds) → ends_of (workers_of plan) all w ≡ e → (s : Station) → put_at e s ≡ []
    none_put w e is s = subst (λ (x : WorkerEnds). put_at x s ≡ []) is (opened.put w s)

    none_taken : (w : Worker) (e : WorkerEnds) → ends_of (workers_of plan) all w ≡ e → taken_by e ≡ []
    none_taken w e is = subst (λ (x : WorkerEnds). taken_by x ≡ []) is (opened.taken w)

    fed : (w : Worker) (e : WorkerEnds) → ends_of (workers_of plan) all w ≡ e → (r : ℕ) (s : Station) → Brings (ways_of plan) w r s → HasFeed e s
    fed w e is r s brings = subst (λ (x : WorkerEnds). HasFeed x s) is (opened.feeds w r s brings)

    begun_block : (may : ℕ → Frame → Step → Type 0) (n : ℕ) (w : Working) (e : WorkerEnds) → n < blocks_in plan → slice_get all n ≡ Some e
        → IsCoreAt may plan n w.core → w.core.log ≡ [] → w.kept ≡ None → w.outgoing ≡ [] → IsPuttingOut may (system_at plan n) w e
    begun_block may n w e less at core log kept outgoing =
        let b : BlockId = record { 0 = n } in
        let is = block_is plan all b e less at in
        let unsent : sent w.core.log ≡ [] = ap sent log in
        record {
          sound = core.sound;
          put = [];
          whole = outgoing ∙ sym unsent;
          each = λ s. none_put (Block b) e is s;
          came = ap (λ (xs : List Item). xs ++ option_to_list w.kept) (ap arrived log) ∙ (ap (λ (o : Option Item). option_to_list o) kept ∙ sym (none_taken (Block b) e is));
          legal = no_items (IsLegalIn (system_at plan n)) (sent w.core.log) unsent;
          ways = subst (λ (c : BlockId). HasOwnWays (system_at plan n) c e) (sym core.block) (λ r row s row_at starts begins. fed (Block b) e is r s (block_brings b r row s row_at starts begins));
        }

    begun_environment : (w : EnvWorking) (e : WorkerEnds) → slice_get all (blocks_in plan) ≡ Some e → IsEnvFresh (blocks_in plan) w → IsEnvPuttingOut plan.structure plan.routes (blocks_in plan) w None e
    begun_environment w e at fresh =
        let is = environment_is plan all e at in
        let unsent : env_sent w.put ≡ [] = ap env_sent fresh.put in
        record {
          sound = fresh_sound plan.structure plan.routes (blocks_in plan) w fresh;
          put = [];
          whole = fresh.outgoing ∙ sym unsent;
          each = λ s. none_put Environment e is s;
          came = ap (λ (xs : List Item). xs ++ []) fresh.received ∙ sym (none_taken Environment e is);
          counted = subst (λ (outs : List EnvOut). AreCounted (blocks_in plan) 0 (env_origins outs)) (sym fresh.put) tt;
          coming = no_items (ComesIn plan.routes) (env_sent w.put) unsent;
          legal = no_items (IsLegalItem plan.structure plan.routes (blocks_in plan)) (env_sent w.put) unsent;
          lost = λ i lost legal out. none-some i lost;
          ways = λ r row s gate row_at from begins.
              fed Environment e is r s (ap first (stations_at plan ok r row row_at) ∙ begins, λ a. start_at plan ok r row row_at ∙ ap (starter plan.structure) from);
        }

    begun_line : (k : ℕ) (f : Forwarding) (e : WorkerEnds) → slice_get (lines_of plan) k ≡ Some f.hop → slice_get all (blocks_in plan + 1 + k) ≡ Some e → f.held ≡ None → IsHandingOn plan.routes f e
    begun_line k f e line at held =
        let is = line_is plan all k f.hop e line at in
        record {
          ways = λ i s goes. fed (Forwarder f.hop) e is i.route.0 s (next_is plan f.hop i ∙ goes, λ a. absurd a);
          put = [];
          whole = ap (λ (o : Option Item). option_to_list o) held ∙ sym (none_taken (Forwarder f.hop) e is);
          each = λ s. none_put (Forwarder f.hop) e is s;
          on = tt;
        }

    pub begun : (may : ℕ → Frame → Step → Type 0) (site : Site) → AreNew may plan site → HaveComeBack may plan site None all
    begun may site fresh =
        record {
          blocks = fresh.blocks;
          cores = λ n w at. (fresh.cores n w at).0;
          puts = λ n w e at there.
              let c = fresh.cores n w at in
              let less : n < blocks_in plan = (let l = slice_get_within site.blocks n w at in let count = fresh.blocks in omega (arith, l, count)) in
              begun_block may n w e less there c.0 c.1 c.2 c.3;
          environment = λ e there. begun_environment site.environment e there fresh.environment;
          hops = fresh.forwarders;
          forwarders = λ k f e at there.
              let line : slice_get (lines_of plan) k ≡ Some f.hop =
              ap (λ (hs : List Hop). slice_get hs k) (sym fresh.forwarders) ∙ (slice_get-map (λ (g : Forwarding). g.hop) site.forwarders k ∙ ap (option_map (λ (g : Forwarding). g.hop)) at) in
              begun_line k f e line there (all_at (λ (g : Forwarding). g.held ≡ None) site.forwarders k f fresh.held at);
        }

pub all_begun : (may : ℕ → Frame → Step → Type 0) (plan : Plan) (site : Site) (all : List WorkerEnds) (shelf : List (Station × ℕ)) → IsPlan plan → AreOpen plan.structure plan.routes all shelf → AreNew may plan site
    → HaveComeBack may plan site None all
all_begun may plan site all shelf ok opened fresh = begun plan ok all shelf opened may site fresh
