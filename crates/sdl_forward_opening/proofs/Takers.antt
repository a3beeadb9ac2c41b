-- Who takes from a station of a route, and who begins one, is among the workers.
use Rattle.std.proofs.Common.{◌≡◌, ◌≢◌, ◌⊎◌, ℕ, zero, suc, ◌+◌, ◌<◌, ◌≤◌, Bool, true, false, not, cond, List, [], ◌∷◌, ◌++◌, length, map, Option, Some, None, option_map, unwrap_or, slice_get, slice_index_or, Contains, refl, inl, inr, ap, sym, ◌∙◌, subst, arith}
use Rattle.std.proofs.lemmas.Bool.{cond-true, cond-false, false≢true}
use Rattle.std.proofs.lemmas.Option.{none-some, same_Some}
use Rattle.std.specs.Option.{IsSomeAnd}
use Rattle.std.specs.List.{filter, AllByRecursion}
use Rattle.sdl_signal.specs.declared.ids.BlockId.{BlockId}
use Rattle.sdl_signal.specs.declared.ids.SignalId.{SignalId}
use Rattle.sdl_structure_parts.specs.declared.parts.Channel.{Channel}
use Rattle.sdl_structure_parts.specs.declared.parts.Set.{Set}
use Rattle.sdl_structure_parts.specs.declared.parts.Direction.TheVariants.{Forth, Back}
use Rattle.sdl_structure_parts.specs.Structure.{Structure, IsStructure, path_of, channel_at, set_at}
use Rattle.sdl_routes.specs.declared.route.Hop.{Hop}
use Rattle.sdl_routes.specs.declared.route.TableRow.{TableRow}
use Rattle.sdl_routes.specs.declared.route.Source.{Source}
use Rattle.sdl_routes.specs.declared.route.Source.TheVariants as source
use Rattle.sdl_routes.specs.declared.route.EndPoint.{EndPoint}
use Rattle.sdl_routes.specs.declared.route.EndPoint.TheVariants as ends
use Rattle.sdl_routes.specs.declared.route.Station.{Station}
use Rattle.sdl_routes.specs.declared.route.Station.TheVariants.{Line, Inlet, Outlet}
use Rattle.sdl_routes.specs.Routes.{IsRoute, IsWalk, Carries, IsLastStation, is_delaying, hop_direction}
use Rattle.sdl_forward_opening.specs.declared.worker.Worker.{Worker}
use Rattle.sdl_forward_opening.specs.declared.worker.Worker.TheVariants.{Block, Environment, Forwarder}
use Rattle.sdl_forward_opening.specs.Workers.{Among, taker, starter, blocks_from, delaying_path, delaying_from, workers_in}
use Rattle.sdl_forward_opening.proofs.Bringing.{all_at, among_left, among_right, among_filter}

unfoldable block : ℕ → BlockId
block n = record { 0 = n }

unfoldable hop : ℕ → Bool → Hop
hop n back = record { channel = record { 0 = n }; back = back }

-- a station of a route is one of its lines, or its last
pub among_stations : (lines : List Hop) (last s : Station) → Among s (map Line lines ++ last ∷ []) → ((h : Hop) × Among h lines × (s ≡ Line h)) ⊎ (s ≡ last)
among_stations [] last s m = elim m [ inl e ↦ inr e | inr n ↦ absurd n ]
among_stations (h ∷ hs) last s m = elim m [
  | inl e ↦ inl (h, inl refl, e)
  | inr n ↦ elim (among_stations hs last s n) [ inl r ↦ inl (r.0, inr r.1, r.2) | inr e ↦ inr e ]
]

pub walk_carries : (s : Structure) (signal : SignalId) (hops : List Hop) (h : Hop) → IsWalk s signal hops → Among h hops → Carries s h signal
walk_carries s signal [] h w m = absurd m
walk_carries s signal (k ∷ []) h w m = elim m [ inl e ↦ subst (λ (x : Hop). Carries s x signal) (sym e) w | inr n ↦ absurd n ]
walk_carries s signal (k ∷ l ∷ hops) h w m = elim m [
  | inl e ↦ subst (λ (x : Hop). Carries s x signal) (sym e) w.0
  | inr n ↦ walk_carries s signal (l ∷ hops) h w.2 n
]

path_has : (n : ℕ) (back : Bool) (xs : List SignalId) (x : SignalId) → Contains xs x → Among (hop n back) (delaying_path n back xs)
unfolding hop
path_has n back [] x c = let less = c.1 in absurd (omega arith)
path_has n back (y ∷ ys) x c = inl refl

-- a path of a delaying channel, where it carries a signal, is among the lines
in_channel : (n : ℕ) (c : Channel) (back : Bool) (x : SignalId) → c.nodelay ≡ false → Contains (path_of c (cond back Back Forth)).signals x
    → Among (hop n back) (cond c.nodelay [] (delaying_path n false c.forth.items ++ delaying_path n true c.back.items))
in_channel n c false x e h =
    subst (λ (hs : List Hop). Among (hop n false) hs) (sym (cond-false c.nodelay [] (delaying_path n false c.forth.items ++ delaying_path n true c.back.items) e))
    (among_left (hop n false) (delaying_path n false c.forth.items) (delaying_path n true c.back.items) (path_has n false c.forth.items x h))
in_channel n c true x e h =
    subst (λ (hs : List Hop). Among (hop n true) hs) (sym (cond-false c.nodelay [] (delaying_path n false c.forth.items ++ delaying_path n true c.back.items) e))
    (among_right (hop n true) (delaying_path n false c.forth.items) (delaying_path n true c.back.items) (path_has n true c.back.items x h))

in_lines : (k : ℕ) (cs : List Channel) (m : ℕ) (c : Channel) (back : Bool) (x : SignalId) → slice_get cs m ≡ Some c → c.nodelay ≡ false → Contains (path_of c (cond back Back Forth)).signals x
    → Among (hop (k + m) back) (delaying_from k cs)
in_lines k [] m c back x at e h = absurd (none-some c at)
in_lines k (d ∷ cs) zero c back x at e h =
    let same : d ≡ c = same_Some d c at in
    subst (λ (n : ℕ). Among (hop n back) (delaying_from k (d ∷ cs))) (omega arith)
    (among_left (hop k back) (cond d.nodelay [] (delaying_path k false d.forth.items ++ delaying_path k true d.back.items)) (delaying_from (k + 1) cs)
    (subst (λ (y : Channel). Among (hop k back) (cond y.nodelay [] (delaying_path k false y.forth.items ++ delaying_path k true y.back.items))) (sym same) (in_channel k c back x e h)))
in_lines k (d ∷ cs) (suc m) c back x at e h =
    subst (λ (n : ℕ). Among (hop n back) (delaying_from k (d ∷ cs))) (omega arith)
    (among_right (hop (k + 1 + m) back) (cond d.nodelay [] (delaying_path k false d.forth.items ++ delaying_path k true d.back.items)) (delaying_from (k + 1) cs) (in_lines (k + 1) cs m c back x at e h))

not_true : (b : Bool) → not b ≡ true → b ≡ false
not_true true e = absurd (false≢true e)
not_true false e = refl

-- a delaying hop that carries a signal is among the lines
module _ (s : Structure) (h : Hop) (x : SignalId) where
  line_of : (o : Option Channel) → channel_at s h.channel ≡ o → unwrap_or (option_map (λ (c : Channel). not c.nodelay) o) false ≡ true
      → IsSomeAnd (option_map (λ (c : Channel). path_of c (hop_direction h)) o) (λ p. Contains p.signals x) → Among h (delaying_from 0 s.channels)
  unfolding hop
  line_of None at e c = absurd c
  line_of (Some c) at e has = subst (λ (k : Hop). Among k (delaying_from 0 s.channels)) (ap (λ (n : ℕ). hop n h.back) (omega arith)) (in_lines 0 s.channels h.channel.0 c h.back x at (not_true c.nodelay e) has)

  pub carried_path : is_delaying s h ≡ true → Carries s h x → Among h (delaying_from 0 s.channels)
  carried_path e c = line_of (channel_at s h.channel) refl e c

-- blocks, the environment and forwarders among the workers

block_among : (n m k : ℕ) → m < k → Among (Block (block (n + m))) (blocks_from n k)
unfolding block
block_among n m zero h = absurd (omega (arith, h))
block_among n zero (suc k) h = inl (ap (λ (x : ℕ). Block (block x)) (omega arith))
block_among n (suc m) (suc k) h = inr (subst (λ (x : ℕ). Among (Block (block x)) (blocks_from (n + 1) k)) (omega arith) (block_among (n + 1) m k (omega (arith, h))))

among_map : {X Y : Type 0} (f : X → Y) (x : X) (xs : List X) → Among x xs → Among (f x) (map f xs)
among_map f x [] m = absurd m
among_map f x (y ∷ xs) m = elim m [ inl e ↦ inl (ap f e) | inr n ↦ inr (among_map f x xs n) ]

module _ (str : Structure) where
  block_in : (b : BlockId) → b.0 < length str.blocks → Among (Block b) (workers_in str)
  unfolding block
  block_in b less = among_left (Block b) (blocks_from 0 (length str.blocks)) (Environment ∷ map Forwarder (delaying_from 0 str.channels))
      (subst (λ (x : ℕ). Among (Block (block x)) (blocks_from 0 (length str.blocks))) (omega arith) (block_among 0 b.0 (length str.blocks) less))

  pub environment_in : Among Environment (workers_in str)
  environment_in = among_right Environment (blocks_from 0 (length str.blocks)) (Environment ∷ map Forwarder (delaying_from 0 str.channels)) (inl refl)

  line_in : (h : Hop) → Among h (delaying_from 0 str.channels) → Among (Forwarder h) (workers_in str)
  line_in h m = among_right (Forwarder h) (blocks_from 0 (length str.blocks)) (Environment ∷ map Forwarder (delaying_from 0 str.channels)) (inr (among_map Forwarder h (delaying_from 0 str.channels) m))

  module _ (ok : IsStructure str) where
    set_in : (t : ℕ) (o : Option Set) → slice_get str.sets t ≡ o → Among (elim o as (λ _. Worker) [ None ↦ Environment | Some d ↦ Block d.block ]) (workers_in str)
    set_in t None at = environment_in
    set_in t (Some d) at = block_in d.block (all_at (λ (d : Set). d.block.0 < length str.blocks) str.sets t d ok.sets at)

    -- who begins a route
    pub starter_in : (from : Source) → Among (starter str from) (workers_in str)
    starter_in (source.Set t) = set_in t.0 (set_at str t) refl
    starter_in (source.Gate g) = environment_in

    last_set : (t : ℕ) (o : Option Set) → slice_get str.sets t ≡ o → (s : Station) → IsSomeAnd o (λ set. s ≡ Inlet set.block) → Among (taker s) (workers_in str)
    last_set t None at s h = absurd h
    last_set t (Some d) at s h = subst (λ (u : Station). Among (taker u) (workers_in str)) (sym h) (block_in d.block (all_at (λ (d : Set). d.block.0 < length str.blocks) str.sets t d ok.sets at))

    last_in : (end : EndPoint) (s : Station) → IsLastStation str end s → Among (taker s) (workers_in str)
    last_in (ends.Set t) s h = last_set t.0 (set_at str t) refl s h
    last_in (ends.Environment g) s h = subst (λ (u : Station). Among (taker u) (workers_in str)) (sym h) environment_in

    -- who takes from a station of a route
    pub taker_in : (row : TableRow) (s : Station) → IsRoute str row → Among s row.route.stations.items → Among (taker s) (workers_in str)
    taker_in row s route m =
        elim (among_stations (filter (is_delaying str) row.route.hops.items) route.stations.0 s (subst (Among s) route.stations.2 m)) [
          | inl r ↦ (
              let in_hops = among_filter (is_delaying str) r.0 row.route.hops.items r.1 in
              subst (λ (u : Station). Among (taker u) (workers_in str)) (sym r.2)
              (line_in r.0 (carried_path str r.0 row.route.signal in_hops.1 (walk_carries str row.route.signal row.route.hops.items r.0 route.walk in_hops.0))))
          | inr e ↦ subst (λ (u : Station). Among (taker u) (workers_in str)) (sym e) (last_in row.route.end route.stations.0 route.stations.1)
        ]
