-- All workers that have come back, and all queues that were put together again, stand as when all threads are joined.
use Rattle.std.proofs.Common.{ℕ, ◌<◌, List, [], ◌++◌, length, map, ◌≡◌, ◌⊎◌, Option, Some, None, option_map, slice_get, refl, inl, inr, ap, sym, ◌∙◌, subst, arith}
use Rattle.std.proofs.lemmas.Option.{none-some, slice_get-map, slice_get_cases, slice_get_within}
use Rattle.std.proofs.lemmas.List.Elements.{recursion_from_All}
use Rattle.std.specs.Option.{option_to_list}
use Rattle.std.specs.List.{AllByRecursion}
use Rattle.sdl_signal.specs.declared.ids.BlockId.{BlockId}
use Rattle.sdl_signal.specs.declared.values.Item.{Item}
use Rattle.sdl_routes.specs.declared.route.Hop.{Hop}
use Rattle.sdl_routes.specs.declared.route.Station.{Station}
use Rattle.sdl_routes.specs.declared.route.Station.TheVariants.{Line}
use Rattle.sdl_transition_behaviour.specs.declared.step.Frame.{Frame}
use Rattle.sdl_transition_behaviour.specs.declared.step.Step.{Step}
use Rattle.sdl_instances.specs.Run.{arrived, sent}
use Rattle.sdl_queue.specs.declared.rest.Rest.{Rest}
use Rattle.sdl_forward_ends.specs.Ends.{WorkerEnds, no_ends, taken_by, AreRejoined}
use Rattle.sdl_forward_opening.specs.declared.worker.Worker.{Worker}
use Rattle.sdl_forward_opening.specs.declared.worker.Worker.TheVariants.{Block, Environment, Forwarder}
use Rattle.sdl_forward_opening.specs.Workers.{Ways, IsAgent, Among, next}
use Rattle.sdl_forward_opening.specs.Opens.{AreOpen, ends_of}
use Rattle.sdl_forward_opening.specs.Used.{AreUsed}
use Rattle.sdl_forward_opening.proofs.Using.{used_length}
use Rattle.sdl_forward.specs.Boards.{waiting, lists_of, IsBoardOf, AreAllStations}
use Rattle.sdl_forward.specs.Forwards.{Forwarding, next_station}
use Rattle.sdl_forward.specs.HandsOn.{IsHandingOn, going_to}
use Rattle.sdl_block_hand.specs.Work.{Working, is_station}
use Rattle.sdl_block_hand.specs.Apart.{IsPuttingOut}
use Rattle.sdl_run_outcome.specs.Steps.{bound_for}
use Rattle.sdl_run_outcome.specs.Plan.{Plan, IsPlan, MayTravel, blocks_in, lines_of, workers_of, ways_of, system_at}
use Rattle.sdl_run_outcome.specs.EnvironmentWork.{ComesIn, env_sent}
use Rattle.sdl_run_outcome.proofs.Lists.{filter_agrees}
use Rattle.sdl_run_outcome.proofs.Workers.{workers_once}
use Rattle.sdl_run_order.specs.Driver.{Site, site_books, held_at}
use Rattle.sdl_run_order.proofs.BlockStep.{bound_is}
use Rattle.sdl_run_order.proofs.StepEnvironment.{env_bound_is}
use Rattle.sdl_run_order.proofs.ForwarderStep.{next_is}
use Rattle.sdl_run_join.specs.Lanes.{account_at}
use Rattle.sdl_run_join.specs.Joins.{HasPut, given, pending, kept_with, IsJoined}
use Rattle.sdl_run_environment.specs.EnvApart.{IsEnvPuttingOut}
use Rattle.sdl_run_join.specs.Back.{HaveComeBack}
use Rattle.sdl_run_join.proofs.Places.{no_block_ends, no_line_ends, block_is, environment_is, line_is, find_line}
use Rattle.sdl_run_join.proofs.Places as places
use Rattle.sdl_run_join.proofs.Kept.{stay_own}
use Rattle.sdl_run_join.proofs.Lanes.{lanes, left_at, stations_are}

-- what each kind of worker put, in one form

none_put : (t : Ways) (w : Worker) → HasPut t w [] [] no_ends
none_put t w = record { put = []; whole = refl; each = λ s. refl }

block_put : (may : ℕ → Frame → Step → Type 0) (plan : Plan) (b : BlockId) (w : Working) (e : WorkerEnds) → IsPuttingOut may (system_at plan b.0) w e → HasPut (ways_of plan) (Block b) (sent w.core.log) w.outgoing e
block_put may plan b w e p = record { put = p.put; whole = p.whole; each = λ s. p.each s ∙ sym (bound_is plan b s p.put) }

-- a forwarder's items go on behind its path
going_is : (plan : Plan) (h : Hop) (s : Station) (items : List Item) → bound_for (ways_of plan) (Forwarder h) s items ≡ going_to plan.routes h s items
going_is plan h s items =
    filter_agrees (λ (i : Item). is_station s (next (ways_of plan) (Forwarder h) i.route.0)) (λ (i : Item). is_station s (next_station plan.routes (Line h) i))
    (λ i. ap (is_station s) (next_is plan h i)) items

line_put : (plan : Plan) (h : Hop) (f : Forwarding) (e : WorkerEnds) → f.hop ≡ h → IsHandingOn plan.routes f e → HasPut (ways_of plan) (Forwarder h) (taken_by e) (option_to_list f.held) e
line_put plan h f e same p =
    record { put = p.put; whole = p.whole; each = λ s. p.each s ∙ (ap (λ (k : Hop). going_to plan.routes k s p.put) same ∙ sym (going_is plan h s p.put)) }

module _ (may : ℕ → Frame → Step → Type 0) (plan : Plan) (site : Site) (astray : Option Item) (now : List WorkerEnds) (count : length now ≡ length (workers_of plan)) (back : HaveComeBack may plan site astray now) where
  abbrev ends : Worker → WorkerEnds
  ends = ends_of (workers_of plan) now

  -- a block, its ends and what it keeps; where there is no block there are no ends
  block_there : (b : BlockId) (w : Working) → slice_get site.blocks b.0 ≡ Some w → (e : WorkerEnds) × (ends (Block b) ≡ e) × IsPuttingOut may (system_at plan b.0) w e
  block_there b w at =
      let less : b.0 < blocks_in plan = (let l = slice_get_within site.blocks b.0 w at in let c = back.blocks in omega (arith, l, c)) in
      let e = places.block_there plan now count b less in
      (e.0, block_is plan now b e.0 less e.1, back.puts b.0 w e.0 at e.1)

  no_block_there : (b : BlockId) → slice_get site.blocks b.0 ≡ None → ends (Block b) ≡ no_ends
  no_block_there b at = elim (slice_get_cases site.blocks b.0).1 [
    | inl h ↦ absurd (none-some h.0 (sym at ∙ h.2))
    | inr h ↦ (let past = h.0 in let c = back.blocks in no_block_ends plan now b (omega (arith, past, c)))
  ]

  environment_there : (e : WorkerEnds) × (ends Environment ≡ e) × IsEnvPuttingOut plan.structure plan.routes (blocks_in plan) site.environment astray e
  environment_there = let e = places.environment_there plan now count in (e.0, environment_is plan now e.0 e.1, back.environment e.0 e.1)

  line_there : (h : Hop)
      → ((f : Forwarding) × (e : WorkerEnds) × (f.hop ≡ h) × (held_at site.forwarders h ≡ option_to_list f.held) × (ends (Forwarder h) ≡ e) × IsHandingOn plan.routes f e) ⊎ ((held_at site.forwarders h ≡ []) × (ends (Forwarder h) ≡ no_ends))
  line_there h = elim (find_line h site.forwarders) [
    | inl r ↦ (
        let at : slice_get (lines_of plan) r.0 ≡ Some h =
        ap (λ (hs : List Hop). slice_get hs r.0) (sym back.hops) ∙ (slice_get-map (λ (f : Forwarding). f.hop) site.forwarders r.0 ∙ (ap (option_map (λ (f : Forwarding). f.hop)) r.2 ∙ ap Some r.3)) in
        let e = places.line_there plan now count r.0 h at in
        inl (r.1, e.0, r.3, r.4, line_is plan now r.0 h e.0 at e.1, back.forwarders r.0 r.1 e.0 r.2 e.1))
    | inr n ↦ inr (n.1, no_line_ends plan now h (λ m. n.0 (subst (Among h) (sym back.hops) m)))
  ]

  -- what each worker put

  went_block : (b : BlockId) (o : Option Working) → slice_get site.blocks b.0 ≡ o
      → HasPut (ways_of plan) (Block b) (elim o as (λ _. List Item) [ None ↦ [] | Some w ↦ sent w.core.log ]) (elim o as (λ _. List Item) [ None ↦ [] | Some w ↦ w.outgoing ]) (ends (Block b))
  went_block b None at = subst (λ (e : WorkerEnds). HasPut (ways_of plan) (Block b) [] [] e) (sym (no_block_there b at)) (none_put (ways_of plan) (Block b))
  went_block b (Some w) at =
      let r = block_there b w at in subst (λ (e : WorkerEnds). HasPut (ways_of plan) (Block b) (sent w.core.log) w.outgoing e) (sym r.1) (block_put may plan b w r.0 r.2)

  went_environment : HasPut (ways_of plan) Environment (env_sent site.environment.put) site.environment.outgoing (ends Environment)
  went_environment =
      let r = environment_there in
      let p = r.2 in
      subst (λ (e : WorkerEnds). HasPut (ways_of plan) Environment (env_sent site.environment.put) site.environment.outgoing e) (sym r.1)
      (record { put = p.put; whole = p.whole; each = λ s. p.each s ∙ sym (env_bound_is plan s p.put) })

  went_line : (h : Hop) → HasPut (ways_of plan) (Forwarder h) (taken_by (ends (Forwarder h))) (held_at site.forwarders h) (ends (Forwarder h))
  went_line h = elim (line_there h) [
    | inl r ↦ subst (λ (e : WorkerEnds). HasPut (ways_of plan) (Forwarder h) (taken_by e) (held_at site.forwarders h) e) (sym r.4)
        (subst (λ (xs : List Item). HasPut (ways_of plan) (Forwarder h) (taken_by r.1) xs r.1) (sym r.3) (line_put plan h r.0 r.1 r.2 r.5))
    | inr n ↦ subst (λ (e : WorkerEnds). HasPut (ways_of plan) (Forwarder h) (taken_by e) (held_at site.forwarders h) e) (sym n.1)
        (subst (λ (xs : List Item). HasPut (ways_of plan) (Forwarder h) [] xs no_ends) (sym n.0) (none_put (ways_of plan) (Forwarder h)))
  ]

  went : (w : Worker) → HasPut (ways_of plan) w (given ends (site_books site) w) (pending (site_books site) w) (ends w)
  went (Block b) = went_block b (slice_get site.blocks b.0) refl
  went Environment = went_environment
  went (Forwarder h) = went_line h

  -- what each agent took

  came_block : (b : BlockId) (o : Option Working) → slice_get site.blocks b.0 ≡ o
      → (elim o as (λ _. List Item) [ None ↦ [] | Some w ↦ arrived w.core.log ]) ++ (elim o as (λ _. List Item) [ None ↦ [] | Some w ↦ option_to_list w.kept ]) ≡ taken_by (ends (Block b))
  came_block b None at = sym (ap taken_by (no_block_there b at))
  came_block b (Some w) at = let r = block_there b w at in r.2.came ∙ sym (ap taken_by r.1)

  came : (w : Worker) → IsAgent w → (site_books site).arrived w ++ kept_with site astray w ≡ taken_by (ends w)
  came (Block b) a = came_block b (slice_get site.blocks b.0) refl
  came Environment a = let r = environment_there in r.2.came ∙ sym (ap taken_by r.1)
  came (Forwarder h) a = absurd a

  -- what each agent sent may travel

  legal_block : (b : BlockId) (o : Option Working) → slice_get site.blocks b.0 ≡ o → AllByRecursion (MayTravel plan) (elim o as (λ _. List Item) [ None ↦ [] | Some w ↦ sent w.core.log ])
  legal_block b None at = tt
  legal_block b (Some w) at = let r = block_there b w at in recursion_from_All (MayTravel plan) (sent w.core.log) r.2.legal

  legal : (w : Worker) → IsAgent w → AllByRecursion (MayTravel plan) ((site_books site).sent w)
  legal (Block b) a = legal_block b (slice_get site.blocks b.0) refl
  legal Environment a = let r = environment_there in recursion_from_All (MayTravel plan) (env_sent site.environment.put) r.2.legal
  legal (Forwarder h) a = absurd a

  module _ (ok : IsPlan plan) (all : List WorkerEnds) (shelf : List (Station × ℕ)) (rests : List (Station × Rest)) (opened : AreOpen plan.structure plan.routes all shelf) (used : AreUsed all now)
      (rejoined : AreRejoined now (map (λ (x : Station × ℕ). x.0) shelf) rests) (board : site.board ≡ lists_of rests) where
    abbrev stations : List Station
    stations = map (λ (x : Station × ℕ). x.0) shelf

    pub joined : IsJoined may plan site astray ends (account_at rests)
    joined =
        let env = environment_there.2 in
        record {
          blocks = back.blocks;
          cores = back.cores;
          environment = env.sound;
          counted = env.counted;
          coming = recursion_from_All (ComesIn plan.routes) (env_sent site.environment.put) env.coming;
          forwarders = back.hops;
          board = subst (IsBoardOf plan.routes) (sym board) (subst (AreAllStations plan.routes) (sym (stations_are now stations rests rejoined)) opened.stations);
          lanes = lanes (workers_of plan) now stations rests (workers_once plan) count (stay_own stations (workers_of plan) all now used opened.own) rejoined;
          rests = λ s. ap (λ (b : List (Station × List Item)). waiting b s) board ∙ left_at now stations rests rejoined s;
          went = went;
          came = came;
          legal = legal;
          lost = env.lost;
        }

pub all_joined : (may : ℕ → Frame → Step → Type 0) (plan : Plan) (site : Site) (astray : Option Item) (all now : List WorkerEnds) (shelf : List (Station × ℕ)) (rests : List (Station × Rest)) → IsPlan plan
    → AreOpen plan.structure plan.routes all shelf → AreUsed all now → AreRejoined now (map (λ (x : Station × ℕ). x.0) shelf) rests → site.board ≡ lists_of rests → HaveComeBack may plan site astray now
    → IsJoined may plan site astray (ends_of (workers_of plan) now) (account_at rests)
all_joined may plan site astray all now shelf rests ok opened used rejoined board back =
    joined may plan site astray now (used_length all now used ∙ opened.number) back ok all shelf rests opened used rejoined board
