-- What the driver leaves: the books of its outcome are those between its steps, and its logs are runs.
use Rattle.std.proofs.Common.{ℕ, zero, suc, ◌+◌, ◌≤◌, eqb, cond, List, [], ◌∷◌, ◌++◌, map, length, ◌≡◌, Some, None, slice_get, refl, ap, sym, ◌∙◌, subst, arith}
use Rattle.std.specs.Option.{option_to_list}
use Rattle.std.specs.List.{AllByRecursion}
use Rattle.std.proofs.lemmas.Bool.{cond_both, cond-true, eqb-true, eq-eqb}
use Rattle.std.proofs.lemmas.List.{length-map, length-append, map-append}
use Rattle.sdl_signal.specs.declared.ids.BlockId.{BlockId}
use Rattle.sdl_signal.specs.declared.values.Item.{Item}
use Rattle.sdl_routes.specs.declared.route.Hop.{Hop}
use Rattle.sdl_routes.specs.declared.route.Station.{Station}
use Rattle.sdl_transition_behaviour.specs.declared.step.Frame.{Frame}
use Rattle.sdl_transition_behaviour.specs.declared.step.Step.{Step}
use Rattle.sdl_instances_log.specs.declared.event.Event.{Event}
use Rattle.sdl_instances.specs.Run.{IsRun, arrived, sent, turns}
use Rattle.sdl_forward.specs.Boards.{same_hop, waiting}
use Rattle.sdl_forward.specs.Forwards.{Forwarding}
use Rattle.sdl_forward_opening.specs.declared.worker.Worker.{Worker}
use Rattle.sdl_forward_opening.specs.declared.worker.Worker.TheVariants.{Block, Environment, Forwarder}
use Rattle.sdl_run_outcome.specs.Stations.{IsAgent, Among, taker}
use Rattle.sdl_run_outcome.specs.Books.{Books, InOrder, standing}
use Rattle.sdl_run_outcome.specs.Steps.{IsStill}
use Rattle.sdl_run_outcome.specs.Plan.{Plan, IsPlan, MayTravel, blocks_in, blocks_from, workers_of, lines_of, system_at, ways_of}
use Rattle.sdl_run_outcome.specs.Outcome.{WorkerHand, IsComplete, IsLawful, AreRunsFrom, LeftsAreLegal, of_worker, books_of}
use Rattle.sdl_block_hand.specs.Work.{Working}
use Rattle.sdl_run_order.specs.Driver.{Site, site_books, of_agent, held_at, IsCoreAt, IsAtWork, outcome_of, finals_of, block_hand, env_hand, forwarder_hand}
use Rattle.sdl_run_outcome.specs.EnvironmentWork.{env_sent}
use Rattle.sdl_run_outcome.proofs.Lists.{all_both}
use Rattle.sdl_run_outcome.proofs.Ways.{ways_are}
use Rattle.sdl_run_outcome.proofs.Workers.{count_blocks}
use Rattle.sdl_run_order.proofs.Keeps.{still_keeps}

-- a block stands among the blocks from n on at its own place, and else behind them
block_among : {X : Type 0} (f : X → List Item) (xs : List X) (n m : ℕ) (b : BlockId) (vs : List Worker) (yss : List (List Item)) → b.0 ≡ n + m
    → of_worker (Block b) (blocks_from n (length xs) ++ vs) (map f xs ++ yss) ≡ elim (slice_get xs m) as (λ _. List Item) [ None ↦ of_worker (Block b) vs yss | Some x ↦ f x ]
block_among f [] n m b vs yss e = refl
block_among f (x ∷ xs) n zero b vs yss e =
    cond-true (eqb n b.0) (f x) (of_worker (Block b) (blocks_from (n + 1) (length xs) ++ vs) (map f xs ++ yss)) (eq-eqb n b.0 (omega arith))
block_among f (x ∷ xs) n (suc m) b vs yss e =
    cond_both (eqb n b.0) (f x) (of_worker (Block b) (blocks_from (n + 1) (length xs) ++ vs) (map f xs ++ yss))
    (λ (zs : List Item). zs ≡ elim (slice_get xs m) as (λ _. List Item) [ None ↦ of_worker (Block b) vs yss | Some y ↦ f y ])
    (λ t. let same = eqb-true n b.0 t in absurd (omega arith)) (λ t. block_among f xs (n + 1) m b vs yss (omega arith))

block_past : (b : BlockId) (hs : List Hop) (zss : List (List Item)) → of_worker (Block b) (map Forwarder hs) zss ≡ []
block_past b [] zss = refl
block_past b (h ∷ hs) [] = refl
block_past b (h ∷ hs) (zs ∷ zss) = block_past b hs zss

env_among : {X : Type 0} (f : X → List Item) (xs : List X) (n : ℕ) (vs : List Worker) (ys : List Item) (yss : List (List Item))
    → of_worker Environment (blocks_from n (length xs) ++ Environment ∷ vs) (map f xs ++ ys ∷ yss) ≡ ys
env_among f [] n vs ys yss = refl
env_among f (x ∷ xs) n vs ys yss = env_among f xs (n + 1) vs ys yss

forwarder_behind : {X : Type 0} (f : X → List Item) (xs : List X) (n : ℕ) (h : Hop) (vs : List Worker) (yss : List (List Item))
    → of_worker (Forwarder h) (blocks_from n (length xs) ++ vs) (map f xs ++ yss) ≡ of_worker (Forwarder h) vs yss
forwarder_behind f [] n h vs yss = refl
forwarder_behind f (x ∷ xs) n h vs yss = forwarder_behind f xs (n + 1) h vs yss

forwarder_among : (fs : List Forwarding) (h : Hop) → of_worker (Forwarder h) (map Forwarder (map (λ (f : Forwarding). f.hop) fs)) (map (λ (f : Forwarding). option_to_list f.held) fs) ≡ held_at fs h
forwarder_among [] h = refl
forwarder_among (f ∷ fs) h = ap (λ (xs : List Item). cond (same_hop f.hop h) (option_to_list f.held) xs) (forwarder_among fs h)

-- what the workers have, of a list for the blocks, one for the environment, and some for the forwarders
module _ (plan : Plan) (site : Site) (blocks : length site.blocks ≡ blocks_in plan) (f : Working → List Item) (ys : List Item) (yss : List (List Item)) where
  abbrev of_all : Worker → List Item
  of_all w = of_worker w (workers_of plan) (map f site.blocks ++ ys ∷ yss)

  -- the workers, counted by the blocks at work
  counted : (w : Worker) → of_all w ≡ of_worker w (blocks_from 0 (length site.blocks) ++ Environment ∷ map Forwarder (lines_of plan)) (map f site.blocks ++ ys ∷ yss)
  counted w = ap (λ (n : ℕ). of_worker w (blocks_from 0 n ++ Environment ∷ map Forwarder (lines_of plan)) (map f site.blocks ++ ys ∷ yss)) (sym blocks)

  block_has : (b : BlockId) → of_all (Block b) ≡ of_agent f ys site.blocks (Block b)
  block_has b =
      counted (Block b)
      ∙ (block_among f site.blocks 0 b.0 b (Environment ∷ map Forwarder (lines_of plan)) (ys ∷ yss) (omega arith)
      ∙ ap (λ (xs : List Item). elim (slice_get site.blocks b.0) as (λ _. List Item) [ None ↦ xs | Some w ↦ f w ]) (block_past b (lines_of plan) yss))

  env_has : of_all Environment ≡ ys
  env_has = counted Environment ∙ env_among f site.blocks 0 (map Forwarder (lines_of plan)) ys yss

  forwarder_has : (h : Hop) → of_all (Forwarder h) ≡ of_worker (Forwarder h) (map Forwarder (lines_of plan)) yss
  forwarder_has h = counted (Forwarder h) ∙ forwarder_behind f site.blocks 0 h (Environment ∷ map Forwarder (lines_of plan)) (ys ∷ yss)

map_map : {X Y Z : Type 0} (g : Y → Z) (f : X → Y) (xs : List X) → map g (map f xs) ≡ map (λ x. g (f x)) xs
map_map g f [] = refl
map_map g f (x ∷ xs) = ap (λ zs. g (f x) ∷ zs) (map_map g f xs)

-- the hands of all workers, by one of their parts
hands_by : (g : WorkerHand → List Item) (site : Site)
    → map g (outcome_of site).hands ≡ map (λ (w : Working). g (block_hand w)) site.blocks ++ g (env_hand site.environment) ∷ map (λ (k : Forwarding). g (forwarder_hand k)) site.forwarders
hands_by g site =
    map-append g (map block_hand site.blocks) (env_hand site.environment ∷ map forwarder_hand site.forwarders)
    ∙ (ap (λ (xss : List (List Item)). xss ++ g (env_hand site.environment) ∷ map g (map forwarder_hand site.forwarders)) (map_map g block_hand site.blocks)
    ∙ ap (λ (xss : List (List Item)). map (λ (w : Working). g (block_hand w)) site.blocks ++ g (env_hand site.environment) ∷ xss) (map_map g forwarder_hand site.forwarders))

module _ (may : ℕ → Frame → Step → Type 0) (plan : Plan) (ok : IsPlan plan) (site : Site) (work : IsAtWork may plan site) where
  abbrev before : Books
  before = site_books site

  abbrev after : Books
  after = books_of plan (outcome_of site)

  logs_by : (f : List Event → List Item) (env : List Item) (w : Worker)
      → of_worker w (workers_of plan) (map f (outcome_of site).logs ++ env ∷ []) ≡ of_worker w (workers_of plan) (map (λ (k : Working). f k.core.log) site.blocks ++ env ∷ [])
  logs_by f env w = ap (λ (xss : List (List Item)). of_worker w (workers_of plan) (xss ++ env ∷ [])) (map_map f (λ (k : Working). k.core.log) site.blocks)

  abbrev env_put : List Item
  env_put = env_sent site.environment.put

  sent_same : (w : Worker) → IsAgent w → after.sent w ≡ before.sent w
  sent_same (Block b) a = logs_by sent env_put (Block b) ∙ block_has plan site work.blocks (λ (k : Working). sent k.core.log) env_put [] b
  sent_same Environment a = logs_by sent env_put Environment ∙ env_has plan site work.blocks (λ (k : Working). sent k.core.log) env_put []
  sent_same (Forwarder h) a = absurd a

  arrived_same : (w : Worker) → IsAgent w → after.arrived w ≡ before.arrived w
  arrived_same (Block b) a = logs_by arrived site.environment.received (Block b) ∙ block_has plan site work.blocks (λ (k : Working). arrived k.core.log) site.environment.received [] b
  arrived_same Environment a = logs_by arrived site.environment.received Environment ∙ env_has plan site work.blocks (λ (k : Working). arrived k.core.log) site.environment.received []
  arrived_same (Forwarder h) a = absurd a

  by_hands : (g : WorkerHand → List Item) (w : Worker) → of_worker w (workers_of plan) (map g (outcome_of site).hands)
      ≡ of_worker w (workers_of plan) (map (λ (k : Working). g (block_hand k)) site.blocks ++ g (env_hand site.environment) ∷ map (λ (k : Forwarding). g (forwarder_hand k)) site.forwarders)
  by_hands g w = ap (of_worker w (workers_of plan)) (hands_by g site)

  pub outgoing_same : (w : Worker) → IsAgent w → after.outgoing w ≡ before.outgoing w
  outgoing_same (Block b) a = by_hands (λ (h : WorkerHand). h.outgoing) (Block b) ∙ block_has plan site work.blocks (λ (k : Working). k.outgoing) site.environment.outgoing (map (λ (k : Forwarding). []) site.forwarders) b
  outgoing_same Environment a = by_hands (λ (h : WorkerHand). h.outgoing) Environment ∙ env_has plan site work.blocks (λ (k : Working). k.outgoing) site.environment.outgoing (map (λ (k : Forwarding). []) site.forwarders)
  outgoing_same (Forwarder h) a = absurd a

  kept_same : (w : Worker) → after.kept w ≡ before.kept w
  kept_same (Block b) = by_hands (λ (h : WorkerHand). option_to_list h.kept) (Block b) ∙ block_has plan site work.blocks (λ (k : Working). option_to_list k.kept) [] (map (λ (k : Forwarding). option_to_list k.held) site.forwarders) b
  kept_same Environment = by_hands (λ (h : WorkerHand). option_to_list h.kept) Environment ∙ env_has plan site work.blocks (λ (k : Working). option_to_list k.kept) [] (map (λ (k : Forwarding). option_to_list k.held) site.forwarders)
  kept_same (Forwarder h) =
      by_hands (λ (k : WorkerHand). option_to_list k.kept) (Forwarder h)
      ∙ (forwarder_has plan site work.blocks (λ (k : Working). option_to_list k.kept) [] (map (λ (k : Forwarding). option_to_list k.held) site.forwarders) h
      ∙ (ap (λ (hs : List Hop). of_worker (Forwarder h) (map Forwarder hs) (map (λ (k : Forwarding). option_to_list k.held) site.forwarders)) (sym work.forwarders)
      ∙ forwarder_among site.forwarders h))

  -- a forwarder has nothing to put but what it holds
  none_put : (h : Hop) (hs : List Hop) (fs : List Forwarding) → of_worker (Forwarder h) (map Forwarder hs) (map (λ (k : Forwarding). []) fs) ≡ []
  none_put h [] fs = refl
  none_put h (k ∷ hs) [] = refl
  none_put h (k ∷ hs) (f ∷ fs) =
      cond_both (same_hop k h) [] (of_worker (Forwarder h) (map Forwarder hs) (map (λ (k : Forwarding). []) fs)) (λ (xs : List Item). xs ≡ []) (λ e. refl) (λ e. none_put h hs fs)

  pub forwarders_put : (h : Hop) → after.outgoing (Forwarder h) ≡ []
  forwarders_put h =
      by_hands (λ (k : WorkerHand). k.outgoing) (Forwarder h)
      ∙ (forwarder_has plan site work.blocks (λ (k : Working). k.outgoing) site.environment.outgoing (map (λ (k : Forwarding). []) site.forwarders) h
      ∙ none_put h (lines_of plan) site.forwarders)

  standing_same : (s : Station) → standing after s ≡ standing before s
  standing_same s = ap (λ (xs : List Item). xs ++ waiting site.board s) (kept_same (taker s))

  pub same_books : IsStill before after
  same_books =
      record {
        stations = standing_same;
        agents = λ w a. record { sent = sent_same w a; arrived = arrived_same w a; outgoing = outgoing_same w a };
      }

  pub outcome_in_order : InOrder (ways_of plan) after
  outcome_in_order = still_keeps (ways_of plan) before after (ways_are plan ok) work.order same_books

runs_from : (may : ℕ → Frame → Step → Type 0) (plan : Plan) (k : ℕ) (ws : List Working) → ((n : ℕ) (w : Working) → slice_get ws n ≡ Some w → IsCoreAt may plan (k + n) w.core)
    → AreRunsFrom may plan k (map (λ (w : Working). w.core.log) ws) (map (λ (w : Working). w.core.state) ws)
runs_from may plan k [] h = tt
runs_from may plan k (w ∷ ws) h =
    let here : IsCoreAt may plan k w.core = subst (λ (n : ℕ). IsCoreAt may plan n w.core) (omega arith) (h 0 w refl) in (
      subst (λ (b : BlockId). IsRun may (system_at plan k) b w.core.log w.core.state) here.block here.sound.run,
      runs_from may plan (k + 1) ws (λ n v e. subst (λ (m : ℕ). IsCoreAt may plan m v.core) (omega arith) (h (suc n) v e)),
    )

pub within_from : (may : ℕ → Frame → Step → Type 0) (plan : Plan) (k : ℕ) (ws : List Working) → ((n : ℕ) (w : Working) → slice_get ws n ≡ Some w → IsCoreAt may plan (k + n) w.core)
    → AllByRecursion (λ (log : List Event). turns log ≤ plan.budget) (map (λ (w : Working). w.core.log) ws)
within_from may plan k [] h = tt
within_from may plan k (w ∷ ws) h = (
  (let c = h 0 w refl in let t = c.sound.turns_within in let b = c.budget in omega arith),
  within_from may plan (k + 1) ws (λ n v e. subst (λ (m : ℕ). IsCoreAt may plan m v.core) (omega arith) (h (suc n) v e)),
)

module _ (may : ℕ → Frame → Step → Type 0) (plan : Plan) (ok : IsPlan plan) (site : Site) (work : IsAtWork may plan site) where
  pub complete : IsComplete plan (outcome_of site)
  complete =
      record {
        logs = length-map site.blocks (λ (w : Working). w.core.log) ∙ work.blocks;
        hands =
            let e1 = length-append (map block_hand site.blocks) (env_hand site.environment ∷ map forwarder_hand site.forwarders) in
            let e2 = length-map site.blocks block_hand in
            let e3 = length-map site.forwarders forwarder_hand in
            let e4 = length-append (blocks_from 0 (blocks_in plan)) (Environment ∷ map Forwarder (lines_of plan)) in
            let e5 = count_blocks 0 (blocks_in plan) in
            let e6 = length-map (lines_of plan) Forwarder in
            let e7 = length-map site.forwarders (λ (f : Forwarding). f.hop) in
            let e8 = ap length work.forwarders in
            let e9 = work.blocks in
            omega arith;
        rests = work.board;
      }

  pub cores : (n : ℕ) (w : Working) → slice_get site.blocks n ≡ Some w → IsCoreAt may plan (0 + n) w.core
  cores n w e = subst (λ (m : ℕ). IsCoreAt may plan m w.core) (omega arith) (work.cores n w e)

  pub lawful : IsLawful may plan (outcome_of site) (finals_of site)
  lawful = record { runs = runs_from may plan 0 site.blocks cores; environment = work.counted }

  pub lefts : LeftsAreLegal plan (outcome_of site)
  lefts s =
      subst (AllByRecursion (λ (i : Item). MayTravel plan i × Among s ((ways_of plan).stations i.route.0))) (sym (standing_same may plan ok site work s))
      (all_both (MayTravel plan) (λ (i : Item). Among s ((ways_of plan).stations i.route.0)) (standing (site_books site) s) (work.waiting_legal s) (work.order.in_place s))
