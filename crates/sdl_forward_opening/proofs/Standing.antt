-- Each worker stands once among the workers of a structure, so the ends at its place are its own.
use Rattle.std.proofs.Common.{◌≡◌, ◌≢◌, ℕ, zero, suc, ◌+◌, ◌*◌, ◌≤◌, Bool, true, false, cond, List, [], ◌∷◌, ◌++◌, length, map, Some, slice_get, ap, sym, ◌∙◌, refl, subst, inl, inr, arith}
use Rattle.std.proofs.lemmas.Bool.{cond_both, cond-true, cond-false, cases_Bool}
use Rattle.std.proofs.lemmas.Option.{none-some, same_Some}
use Rattle.std.specs.List.{AllByRecursion}
use Rattle.sdl_signal.specs.declared.ids.SignalId.{SignalId}
use Rattle.sdl_structure_parts.specs.declared.parts.Channel.{Channel}
use Rattle.sdl_structure_parts.specs.Structure.{Structure}
use Rattle.sdl_routes.specs.declared.route.Hop.{Hop}
use Rattle.sdl_routes.specs.Routes.{EachOnce, hop_number}
use Rattle.sdl_forward_ends.specs.Ends.{WorkerEnds}
use Rattle.sdl_forward_opening.specs.declared.worker.Worker.{Worker}
use Rattle.sdl_forward_opening.specs.declared.worker.Worker.TheVariants.{Block, Environment, Forwarder}
use Rattle.sdl_forward_opening.specs.Workers.{same_worker, blocks_from, delaying_path, delaying_from, workers_in}
use Rattle.sdl_forward_opening.specs.Opens.{ends_of}
use Rattle.sdl_forward_opening.proofs.Bringing.{same_worker_is, same_worker_itself, all_at}

-- a number for each worker, where there are so many blocks: those of the blocks, then that of the environment, then two for
-- each channel
unfoldable number : ℕ → Worker → ℕ
number blocks (Block b) = b.0
number blocks Environment = blocks
number blocks (Forwarder h) = blocks + 1 + hop_number h

-- the numbers rise, from n on and below m
abbrev IsRising : (Worker → ℕ) → ℕ → List Worker → Type 0
IsRising f n [] = Unit {0}
IsRising f n (w ∷ ws) = (n ≤ f w) × IsRising f (f w + 1) ws

rising_from : (f : Worker → ℕ) (n m : ℕ) (ws : List Worker) → n ≤ m → IsRising f m ws → IsRising f n ws
rising_from f n m [] less h = tt
rising_from f n m (w ∷ ws) less h = ((let k : m ≤ f w = h.0 in omega (arith, less, k)), h.1)

-- none is the first again
rising_apart : (f : Worker → ℕ) (v : Worker) (n : ℕ) (ws : List Worker) → f v + 1 ≤ n → IsRising f n ws → AllByRecursion (λ w. v ≢ w) ws
rising_apart f v n [] above h = tt
rising_apart f v n (w ∷ ws) above h =
    let k : n ≤ f w = h.0 in
    ((λ e. let s : f v ≡ f w = ap f e in omega (arith, above, k, s)), rising_apart f v (f w + 1) ws (omega (arith, above, k)) h.1)

rising_once : (f : Worker → ℕ) (n : ℕ) (ws : List Worker) → IsRising f n ws → EachOnce ws
rising_once f n [] h = tt
rising_once f n (w ∷ ws) h = (rising_apart f w (f w + 1) ws (omega arith) h.1, rising_once f (f w + 1) ws h.1)

-- a list below m before one from m on
abbrev IsBelow : (Worker → ℕ) → ℕ → List Worker → Type 0
IsBelow f m ws = AllByRecursion (λ w. f w + 1 ≤ m) ws

rising_then : (f : Worker → ℕ) (n m : ℕ) (vs ws : List Worker) → n ≤ m → IsRising f n vs → IsBelow f m vs → IsRising f m ws → IsRising f n (vs ++ ws)
rising_then f n m [] ws less h b k = rising_from f n m ws less k
rising_then f n m (v ∷ vs) ws less h b k = (h.0, rising_then f (f v + 1) m vs ws b.0 h.1 b.1 k)

module _ (blocks : ℕ) where
  blocks_rise : (n k : ℕ) → IsRising (number blocks) n (blocks_from n k)
  unfolding number
  blocks_rise n zero = tt
  blocks_rise n (suc k) = (omega arith, blocks_rise (n + 1) k)

  blocks_below : (n k : ℕ) → IsBelow (number blocks) (n + k) (blocks_from n k)
  unfolding number
  blocks_below n zero = tt
  blocks_below n (suc k) = (omega arith, subst (λ m. IsBelow (number blocks) m (blocks_from (n + 1) k)) (omega arith) (blocks_below (n + 1) k))

  -- the forwarders of one channel, before those of the later ones
  paths_rise : (n : ℕ) (forth back : List SignalId) (later : List Worker) → IsRising (number blocks) (blocks + 1 + 2 * (n + 1)) later
      → IsRising (number blocks) (blocks + 1 + 2 * n) (map Forwarder (delaying_path n false forth ++ delaying_path n true back) ++ later)
  unfolding number
  paths_rise n [] [] later h = rising_from (number blocks) (blocks + 1 + 2 * n) (blocks + 1 + 2 * (n + 1)) later (omega arith) h
  paths_rise n (x ∷ xs) [] later h = (omega arith, rising_from (number blocks) _ (blocks + 1 + 2 * (n + 1)) later (omega arith) h)
  paths_rise n [] (y ∷ ys) later h = (omega arith, rising_from (number blocks) _ (blocks + 1 + 2 * (n + 1)) later (omega arith) h)
  paths_rise n (x ∷ xs) (y ∷ ys) later h = (omega arith, (omega arith, rising_from (number blocks) _ (blocks + 1 + 2 * (n + 1)) later (omega arith) h))

  map_then : (hs ks : List Hop) → map Forwarder (hs ++ ks) ≡ map Forwarder hs ++ map Forwarder ks
  map_then [] ks = refl
  map_then (h ∷ hs) ks = ap (λ ws. Forwarder h ∷ ws) (map_then hs ks)

  lines_rise : (n : ℕ) (cs : List Channel) → IsRising (number blocks) (blocks + 1 + 2 * n) (map Forwarder (delaying_from n cs))
  lines_rise n [] = tt
  lines_rise n (c ∷ cs) =
      let paths = delaying_path n false c.forth.items ++ delaying_path n true c.back.items in
      subst (IsRising (number blocks) (blocks + 1 + 2 * n)) (sym (map_then (cond c.nodelay [] paths) (delaying_from (n + 1) cs)))
      (cond_both c.nodelay [] paths (λ hs. IsRising (number blocks) (blocks + 1 + 2 * n) (map Forwarder hs ++ map Forwarder (delaying_from (n + 1) cs)))
      (λ _. rising_from (number blocks) (blocks + 1 + 2 * n) (blocks + 1 + 2 * (n + 1)) (map Forwarder (delaying_from (n + 1) cs)) (omega arith) (lines_rise (n + 1) cs))
      (λ _. paths_rise n c.forth.items c.back.items (map Forwarder (delaying_from (n + 1) cs)) (lines_rise (n + 1) cs)))

environment_first : (blocks : ℕ) (cs : List Channel) → IsRising (number blocks) blocks (Environment ∷ map Forwarder (delaying_from 0 cs))
unfolding number
environment_first blocks cs = (omega arith, rising_from (number blocks) (blocks + 1) (blocks + 1 + 2 * 0) (map Forwarder (delaying_from 0 cs)) (omega arith) (lines_rise blocks 0 cs))

pub workers_once : (s : Structure) → EachOnce (workers_in s)
workers_once s =
    let blocks = length s.blocks in
    rising_once (number blocks) 0 (workers_in s)
    (rising_then (number blocks) 0 blocks (blocks_from 0 blocks) (Environment ∷ map Forwarder (delaying_from 0 s.channels)) (omega arith) (blocks_rise blocks 0 blocks)
    (subst (λ m. IsBelow (number blocks) m (blocks_from 0 blocks)) (omega arith) (blocks_below blocks 0 blocks)) (environment_first blocks s.channels))

-- the ends at the place of a worker are its own
ends_at : (ws : List Worker) (all : List WorkerEnds) (k : ℕ) (w : Worker) (e : WorkerEnds) → EachOnce ws → slice_get ws k ≡ Some w → slice_get all k ≡ Some e → ends_of ws all w ≡ e
ends_at [] all k w e once at there = absurd (none-some w at)
ends_at (v ∷ ws) [] k w e once at there = absurd (none-some e there)
ends_at (v ∷ ws) (x ∷ all) zero w e once at there =
    cond-true (same_worker v w) x (ends_of ws all w) (subst (λ (u : Worker). same_worker v u ≡ true) (same_Some v w at) (same_worker_itself v)) ∙ same_Some x e there
ends_at (v ∷ ws) (x ∷ all) (suc k) w e once at there =
    elim (cases_Bool (same_worker v w)) [
      | inl y ↦ absurd (all_at (λ u. v ≢ u) ws k w once.0 at (same_worker_is v w y))
      | inr y ↦ cond-false (same_worker v w) x (ends_of ws all w) y ∙ ends_at ws all k w e once.1 at there
    ]

pub own_ends : (s : Structure) (all : List WorkerEnds) (k : ℕ) (w : Worker) (e : WorkerEnds) → slice_get (workers_in s) k ≡ Some w → slice_get all k ≡ Some e → ends_of (workers_in s) all w ≡ e
own_ends s all k w e at there = ends_at (workers_in s) all k w e (workers_once s) at there
