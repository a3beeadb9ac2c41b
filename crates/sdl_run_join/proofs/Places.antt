-- Whose ends stand where in the list of all ends.
use Rattle.std.proofs.Common.{ℕ, zero, suc, ◌+◌, ◌<◌, ◌≤◌, true, List, [], ◌∷◌, ◌++◌, length, map, ◌≡◌, ◌≢◌, ◌⊎◌, Some, option_map, slice_get, refl, inl, inr, ap, sym, ◌∙◌, subst, arith}
use Rattle.std.proofs.lemmas.Bool.{cond_both, cond-true, cond-false, cases_Bool, false≢true}
use Rattle.std.proofs.lemmas.Option.{slice_get-map, slice_get_within}
use Rattle.std.specs.Option.{option_to_list}
use Rattle.sdl_signal.specs.declared.ids.BlockId.{BlockId}
use Rattle.sdl_routes.specs.declared.route.Hop.{Hop}
use Rattle.sdl_forward_ends.specs.Stations.{same_hop}
use Rattle.sdl_forward_ends.specs.Ends.{WorkerEnds, no_ends}
use Rattle.sdl_forward_opening.specs.declared.worker.Worker.{Worker}
use Rattle.sdl_forward_opening.specs.declared.worker.Worker.TheVariants.{Block, Environment, Forwarder}
use Rattle.sdl_forward_opening.specs.Workers.{Among, same_worker, blocks_from}
use Rattle.sdl_forward_opening.specs.Opens.{ends_of}
use Rattle.sdl_forward_opening.proofs.Distributing.{place_get}
use Rattle.sdl_forward_opening.proofs.Standing.{own_ends}
use Rattle.sdl_forward.specs.Forwards.{Forwarding}
use Rattle.sdl_run_outcome.specs.Plan.{Plan, blocks_in, lines_of, workers_of}
use Rattle.sdl_run_outcome.proofs.Comparisons.{same_hop_is, same_hop_itself, same_worker_is, same_worker_itself}
use Rattle.sdl_run_outcome.proofs.Workers.{count_blocks}
use Rattle.sdl_run_order.specs.Driver.{held_at}

-- another worker's ends are looked for further on
pub ends_behind : (v : Worker) (vs : List Worker) (e : WorkerEnds) (all : List WorkerEnds) (w : Worker) → v ≢ w → ends_of (v ∷ vs) (e ∷ all) w ≡ ends_of vs all w
ends_behind v vs e all w n =
    cond_both (same_worker v w) e (ends_of vs all w) (λ (x : WorkerEnds). x ≡ ends_of vs all w) (λ t. absurd (n (same_worker_is v w t))) (λ f. refl)

pub ends_here : (v : Worker) (vs : List Worker) (e : WorkerEnds) (all : List WorkerEnds) → ends_of (v ∷ vs) (e ∷ all) v ≡ e
ends_here v vs e all = cond-true (same_worker v v) e (ends_of vs all v) (same_worker_itself v)

-- who is not among them has none
pub ends_none : (ws : List Worker) (all : List WorkerEnds) (w : Worker) → (Among w ws → ⊥) → ends_of ws all w ≡ no_ends
ends_none [] all w n = refl
ends_none (v ∷ vs) [] w n = refl
ends_none (v ∷ vs) (x ∷ all) w n = ends_behind v vs x all w (λ e. n (inl (sym e))) ∙ ends_none vs all w (λ m. n (inr m))

-- an element behind a list
get_behind : {X : Type 0} (xs ys : List X) (k j : ℕ) → k ≡ length xs + j → slice_get (xs ++ ys) k ≡ slice_get ys j
get_behind [] ys k j e = let same : k ≡ j = omega (arith, e) in ap (slice_get ys) same
get_behind (x ∷ xs) ys zero j e = absurd (omega (arith, e))
get_behind (x ∷ xs) ys (suc k) j e = get_behind xs ys k j (omega (arith, e))

unfoldable block : ℕ → BlockId
block n = record { 0 = n }

block_at : (n k m : ℕ) (more : List Worker) (b : BlockId) → b.0 ≡ n + m → m < k → slice_get (blocks_from n k ++ more) m ≡ Some (Block b)
unfolding block
block_at n zero m more b e less = absurd (omega (arith, less))
block_at n (suc k) zero more b e less = let same : n ≡ b.0 = omega (arith, e) in ap (λ (j : ℕ). Some (Block (block j))) same
block_at n (suc k) (suc m) more b e less = block_at (n + 1) k m more b (omega (arith, e)) (omega (arith, less))

number_of : Worker → ℕ
number_of (Block b) = b.0
number_of Environment = 0
number_of (Forwarder h) = 0

hop_of : Hop → Worker → Hop
hop_of k (Forwarder h) = h
hop_of k (Block b) = k
hop_of k Environment = k

no_block_line : (hs : List Hop) (b : BlockId) → Among (Block b) (map Forwarder hs) → ⊥
no_block_line [] b m = m
no_block_line (h ∷ hs) b m = elim m [ inl e ↦ cc | inr i ↦ no_block_line hs b i ]

block_beyond : (n k : ℕ) (hs : List Hop) (b : BlockId) → n + k ≤ b.0 → Among (Block b) (blocks_from n k ++ Environment ∷ map Forwarder hs) → ⊥
unfolding number_of
block_beyond n zero hs b past m = elim m [ inl e ↦ cc | inr i ↦ no_block_line hs b i ]
block_beyond n (suc k) hs b past m = elim m [
  | inl e ↦ (let same = ap number_of e in omega (arith, past, same))
  | inr i ↦ block_beyond (n + 1) k hs b (omega (arith, past)) i
]

line_among : (hs : List Hop) (h : Hop) → Among (Forwarder h) (map Forwarder hs) → Among h hs
unfolding hop_of
line_among [] h m = m
line_among (k ∷ hs) h m = elim m [ inl e ↦ inl (ap (hop_of h) e) | inr i ↦ inr (line_among hs h i) ]

line_of : (n k : ℕ) (hs : List Hop) (h : Hop) → Among (Forwarder h) (blocks_from n k ++ Environment ∷ map Forwarder hs) → Among h hs
line_of n zero hs h m = elim m [ inl e ↦ absurd (let f : Forwarder h ≡ Environment = e in cc) | inr i ↦ line_among hs h i ]
line_of n (suc k) hs h m = elim m [ inl e ↦ absurd (let f : Forwarder h ≡ Block (record { 0 = n }) = e in cc) | inr i ↦ line_of (n + 1) k hs h i ]

-- the forwarder of a path, and where it stands; or there is none
pub find_line : (h : Hop) (fs : List Forwarding)
    → ((k : ℕ) × (f : Forwarding) × (slice_get fs k ≡ Some f) × (f.hop ≡ h) × (held_at fs h ≡ option_to_list f.held)) ⊎ ((Among h (map (λ (f : Forwarding). f.hop) fs) → ⊥) × (held_at fs h ≡ []))
find_line h [] = inr ((λ m. m), refl)
find_line h (f ∷ fs) = elim (cases_Bool (same_hop f.hop h)) [
  | inl t ↦ inl (0, f, refl, same_hop_is f.hop h t, cond-true (same_hop f.hop h) (option_to_list f.held) (held_at fs h) t)
  | inr t ↦ (
      let on = cond-false (same_hop f.hop h) (option_to_list f.held) (held_at fs h) t in
      elim (find_line h fs) [
        | inl r ↦ inl (suc r.0, r.1, r.2, r.3, on ∙ r.4)
        | inr n ↦ inr ((λ m. elim m [ inl e ↦ false≢true (sym t ∙ subst (λ (x : Hop). same_hop x h ≡ true) e (same_hop_itself h)) | inr i ↦ n.0 i ]), on ∙ n.1)
      ])
]

-- where the workers of a plan stand
module _ (plan : Plan) where
  block_place : (b : BlockId) → b.0 < blocks_in plan → slice_get (workers_of plan) b.0 ≡ Some (Block b)
  block_place b less = block_at 0 (blocks_in plan) b.0 (Environment ∷ map Forwarder (lines_of plan)) b (omega arith) less

  environment_place : slice_get (workers_of plan) (blocks_in plan) ≡ Some Environment
  environment_place =
      let c = count_blocks 0 (blocks_in plan) in
      get_behind (blocks_from 0 (blocks_in plan)) (Environment ∷ map Forwarder (lines_of plan)) (blocks_in plan) 0 (omega (arith, c))

  line_place : (k : ℕ) (h : Hop) → slice_get (lines_of plan) k ≡ Some h → slice_get (workers_of plan) (blocks_in plan + 1 + k) ≡ Some (Forwarder h)
  line_place k h at =
      let c = count_blocks 0 (blocks_in plan) in
      get_behind (blocks_from 0 (blocks_in plan)) (Environment ∷ map Forwarder (lines_of plan)) (blocks_in plan + 1 + k) (suc k) (omega (arith, c))
      ∙ (slice_get-map Forwarder (lines_of plan) k ∙ ap (option_map Forwarder) at)

module _ (plan : Plan) (now : List WorkerEnds) where
  -- no block of this number has ends
  pub no_block_ends : (b : BlockId) → blocks_in plan ≤ b.0 → ends_of (workers_of plan) now (Block b) ≡ no_ends
  no_block_ends b past = ends_none (workers_of plan) now (Block b) (block_beyond 0 (blocks_in plan) (lines_of plan) b (omega (arith, past)))

  -- no forwarder of this path has ends
  pub no_line_ends : (h : Hop) → (Among h (lines_of plan) → ⊥) → ends_of (workers_of plan) now (Forwarder h) ≡ no_ends
  no_line_ends h n = ends_none (workers_of plan) now (Forwarder h) (λ m. n (line_of 0 (blocks_in plan) (lines_of plan) h m))

  -- the ends at a worker's place are its own

  pub block_is : (b : BlockId) (e : WorkerEnds) → b.0 < blocks_in plan → slice_get now b.0 ≡ Some e → ends_of (workers_of plan) now (Block b) ≡ e
  block_is b e less at = own_ends plan.structure now b.0 (Block b) e (block_place plan b less) at

  pub environment_is : (e : WorkerEnds) → slice_get now (blocks_in plan) ≡ Some e → ends_of (workers_of plan) now Environment ≡ e
  environment_is e at = own_ends plan.structure now (blocks_in plan) Environment e (environment_place plan) at

  pub line_is : (k : ℕ) (h : Hop) (e : WorkerEnds) → slice_get (lines_of plan) k ≡ Some h → slice_get now (blocks_in plan + 1 + k) ≡ Some e → ends_of (workers_of plan) now (Forwarder h) ≡ e
  line_is k h e line at = own_ends plan.structure now (blocks_in plan + 1 + k) (Forwarder h) e (line_place plan k h line) at

  -- where there are ends for all workers, there are some at each place
  module _ (count : length now ≡ length (workers_of plan)) where
    there : (k : ℕ) (w : Worker) → slice_get (workers_of plan) k ≡ Some w → (e : WorkerEnds) × (slice_get now k ≡ Some e)
    there k w at = let l = slice_get_within (workers_of plan) k w at in place_get now k (omega (arith, l, count))

    pub block_there : (b : BlockId) → b.0 < blocks_in plan → (e : WorkerEnds) × (slice_get now b.0 ≡ Some e)
    block_there b less = there b.0 (Block b) (block_place plan b less)

    pub environment_there : (e : WorkerEnds) × (slice_get now (blocks_in plan) ≡ Some e)
    environment_there = there (blocks_in plan) Environment (environment_place plan)

    pub line_there : (k : ℕ) (h : Hop) → slice_get (lines_of plan) k ≡ Some h → (e : WorkerEnds) × (slice_get now (blocks_in plan + 1 + k) ≡ Some e)
    line_there k h line = there (blocks_in plan + 1 + k) (Forwarder h) (line_place plan k h line)
