-- A walk goes up through its scopes, at most once across, and then down: each hop's rank is over that of the hop before it.
use Rattle.std.proofs.Common.{◌≡◌, ◌≢◌, ℕ, zero, suc, ◌+◌, ◌-◌, ◌<◌, ◌≤◌, true, false, List, [], ◌∷◌, ◌++◌, map, filter, length, Option, Some, None, option_map, slice_get, IsSomeAnd, IfSome, cond, refl, ap, sym, subst, arith}
use Rattle.std.specs.List.{AllByRecursion}
use Rattle.sdl_signal.specs.declared.ids.SignalId.{SignalId}
use Rattle.sdl_signal.specs.declared.ids.BlockId.{BlockId}
use Rattle.sdl_structure_parts.specs.declared.parts.Block.{Block}
use Rattle.sdl_structure_parts.specs.declared.parts.Set.{Set}
use Rattle.sdl_structure_parts.specs.declared.parts.Gate.{Gate}
use Rattle.sdl_structure_parts.specs.declared.parts.Channel.{Channel}
use Rattle.sdl_structure_parts.specs.declared.parts.End.{End}
use Rattle.sdl_structure_parts.specs.declared.parts.Owner.{Owner}
use Rattle.sdl_structure_parts.specs.declared.parts.Owner.TheVariants as owner
use Rattle.sdl_structure_parts.specs.declared.parts.Scope.{Scope}
use Rattle.sdl_structure_parts.specs.declared.parts.Scope.TheVariants as scope
use Rattle.sdl_structure_parts.specs.declared.parts.Side.{Side}
use Rattle.sdl_structure_parts.specs.declared.parts.Side.TheVariants.{Outer, Inner}
use Rattle.sdl_structure_parts.specs.declared.parts.Direction.{Direction}
use Rattle.sdl_structure_parts.specs.declared.parts.Direction.TheVariants.{Forth, Back}
use Rattle.sdl_structure_parts.specs.Structure.{Structure, IsStructure, Path, path_of, block_at, set_at, gate_at, channel_at, other_side, JoinsAt, IsEnd, IsDepthIn, LiesIn, ScopeExists, SignalsExist}
use Rattle.sdl_structure_parts.specs.Rules.{IsWellFormed, IsBlockGate, HasDistinctEnds}
use Rattle.sdl_routes.specs.declared.route.Hop.{Hop}
use Rattle.sdl_routes.specs.declared.route.EndPoint.{EndPoint}
use Rattle.sdl_routes.specs.declared.route.EndPoint.TheVariants as ends
use Rattle.sdl_routes.specs.declared.route.Station.{Station}
use Rattle.sdl_routes.specs.declared.route.Station.TheVariants as stations
use Rattle.sdl_routes.specs.Routes.{hop_direction, Joins, IsWalk, is_delaying, delaying, IsLastStation, EachOnce, AreRoutesShort}

pub all_at : {X : Type 0} (P : X → Type 0) (xs : List X) (k : ℕ) → AllByRecursion P xs → IfSome (slice_get xs k) P
all_at P [] k h = tt
all_at P (x ∷ xs) zero h = h.0
all_at P (x ∷ xs) (suc k) h = all_at P xs k h.1

-- how deep a scope is: the system 0, and a block as deep as it lies
abbrev pub block_depth : Option Block → ℕ
block_depth None = 0
block_depth (Some b) = b.depth

abbrev pub depth : Structure → Scope → ℕ
depth s scope.System = 0
depth s (scope.Block b) = block_depth (block_at s b)

-- up less than across, the deeper the less, and down more than across, the deeper the more
abbrev pub sides_rank : ℕ → Side → Side → ℕ
sides_rank deep start Inner = 4 - deep
sides_rank deep Outer Outer = 4
sides_rank deep Inner Outer = 4 + deep

abbrev pub path_rank : ℕ → Path → ℕ
path_rank deep p = sides_rank deep p.start.side p.finish.side

abbrev pub option_rank : Structure → Option Channel → Direction → ℕ
option_rank s None d = 0
option_rank s (Some c) d = path_rank (depth s c.scope) (path_of c d)

abbrev pub rank : Structure → Hop → ℕ
rank s h = option_rank s (channel_at s h.channel) (hop_direction h)

pub sides_rank-bound : (deep : ℕ) (start finish : Side) → deep ≤ 4 → sides_rank deep start finish < 9
sides_rank-bound deep start Inner h = omega arith
sides_rank-bound deep Outer Outer h = omega arith
sides_rank-bound deep Inner Outer h = omega arith

block_depth-bound : (s : Structure) (b : Option Block) → IfSome b (LiesIn s.blocks) → block_depth b ≤ 4
block_depth-bound s None h = omega arith
block_depth-bound s (Some b) h = h.1

pub depth-bound : (s : Structure) → IsStructure s → (at : Scope) → depth s at ≤ 4
depth-bound s is scope.System = omega arith
depth-bound s is (scope.Block b) = block_depth-bound s (block_at s b) (all_at (LiesIn s.blocks) s.blocks b.0 is.blocks)

option_rank-bound : (s : Structure) → IsStructure s → (c : Option Channel) (d : Direction) → option_rank s c d < 9
option_rank-bound s is None d = omega arith
option_rank-bound s is (Some c) d = sides_rank-bound (depth s c.scope) (path_of c d).start.side (path_of c d).finish.side (depth-bound s is c.scope)

pub rank-bound : (s : Structure) → IsStructure s → (h : Hop) → rank s h < 9
rank-bound s is h = option_rank-bound s is (channel_at s h.channel) (hop_direction h)

abbrev IsBlockOwner : Owner → Type 0
IsBlockOwner o = elim o [ owner.Block b ↦ Unit {0} | _ ↦ ⊥ ]

-- a block is one deeper than where it lies
depth_in : (s : Structure) (at : Scope) (deep : ℕ) → IsDepthIn s.blocks at deep → deep ≡ depth s at + 1
depth_in s scope.System deep h = h
depth_in s (scope.Block b) deep h = around (block_at s b) h
  where
    around : (o : Option Block) → IsSomeAnd o (λ x. deep ≡ x.depth + 1) → deep ≡ block_depth o + 1
    around None h = absurd h
    around (Some x) h = h

lies : (s : Structure) (o : Option Block) (at : Scope) → IfSome o (LiesIn s.blocks) → IsSomeAnd o (λ block. block.scope ≡ at) → block_depth o ≡ depth s at + 1
lies s None at h e = absurd e
lies s (Some x) at h e = depth_in s at x.depth (subst (λ (c : Scope). IsDepthIn s.blocks c x.depth) e h.0)

-- where a channel ends at a gate of a block: within it, or around it
outer_depth : (s : Structure) → IsStructure s → (b : BlockId) (at : Scope) → JoinsAt s at (owner.Block b) Outer → depth s (scope.Block b) ≡ depth s at + 1
outer_depth s is b scope.System h = lies s (block_at s b) scope.System (all_at (LiesIn s.blocks) s.blocks b.0 is.blocks) h
outer_depth s is b (scope.Block x) h = lies s (block_at s b) (scope.Block x) (all_at (LiesIn s.blocks) s.blocks b.0 is.blocks) h

inner_depth : (s : Structure) (b : BlockId) (at : Scope) → JoinsAt s at (owner.Block b) Inner → depth s (scope.Block b) ≡ depth s at
inner_depth s b scope.System h = absurd h
inner_depth s b (scope.Block x) h = ap (λ (c : BlockId). depth s (scope.Block c)) h

-- through a block gate from inside to outside, and from outside to inside
owner_rises : (s : Structure) → IsStructure s → (o : Owner) (at beyond : Scope) (start finish last : Side) → IsBlockOwner o
    → JoinsAt s at o finish → JoinsAt s beyond o (other_side finish)
    → ¬ ((start ≡ Inner) × (finish ≡ Inner)) → ¬ ((other_side finish ≡ Inner) × (last ≡ Inner))
    → sides_rank (depth s at) start finish < sides_rank (depth s beyond) (other_side finish) last
owner_rises s is owner.System at beyond start finish last block here there before apart = absurd block
owner_rises s is (owner.Set t) at beyond start finish last block here there before apart = absurd block
owner_rises s is (owner.Block b) at beyond Inner Inner last block here there before apart = absurd (before (refl, refl))
owner_rises s is (owner.Block b) at beyond Outer Inner Inner block here there before apart =
    let e = inner_depth s b at here in let f = outer_depth s is b beyond there in let g = depth-bound s is at in omega arith
owner_rises s is (owner.Block b) at beyond Outer Inner Outer block here there before apart =
    let e = inner_depth s b at here in let f = outer_depth s is b beyond there in let g = depth-bound s is at in omega arith
owner_rises s is (owner.Block b) at beyond start Outer Inner block here there before apart = absurd (apart (refl, refl))
owner_rises s is (owner.Block b) at beyond Outer Outer Outer block here there before apart =
    let e = outer_depth s is b at here in let f = inner_depth s b beyond there in omega arith
owner_rises s is (owner.Block b) at beyond Inner Outer Outer block here there before apart =
    let e = outer_depth s is b at here in let f = inner_depth s b beyond there in omega arith

gate_rises : (s : Structure) → IsStructure s → (g : Option Gate) (at beyond : Scope) (start finish last : Side)
    → IsSomeAnd g (λ g. IsBlockOwner g.owner)
    → IsSomeAnd g (λ g. JoinsAt s at g.owner finish) → IsSomeAnd g (λ g. JoinsAt s beyond g.owner (other_side finish))
    → ¬ ((start ≡ Inner) × (finish ≡ Inner)) → ¬ ((other_side finish ≡ Inner) × (last ≡ Inner))
    → sides_rank (depth s at) start finish < sides_rank (depth s beyond) (other_side finish) last
gate_rises s is None at beyond start finish last block here there before apart = absurd block
gate_rises s is (Some g) at beyond start finish last block here there before apart = owner_rises s is g.owner at beyond start finish last block here there before apart

-- what a structure that is well formed says of one channel
pub record IsSound (s : Structure) (c : Channel) : Type 0 where
  pub first : IsEnd s c.scope c.first
  pub second : IsEnd s c.scope c.second
  pub apart : HasDistinctEnds c

pub record IsSoundPath (s : Structure) (at : Scope) (p : Path) : Type 0 where
  pub start : IsEnd s at p.start
  pub finish : IsEnd s at p.finish
  pub apart : ¬ ((p.start.side ≡ Inner) × (p.finish.side ≡ Inner))

pub sound_path : (s : Structure) (c : Channel) (d : Direction) → IsSound s c → IsSoundPath s c.scope (path_of c d)
sound_path s c Forth h = record { start = h.first; finish = h.second; apart = h.apart.1 }
sound_path s c Back h = record { start = h.second; finish = h.first; apart = λ (a, b). h.apart.1 (b, a) }

path_rises : (s : Structure) → IsStructure s → (at beyond : Scope) (p q : Path) → IsSoundPath s at p → IsSoundPath s beyond q → IsBlockGate s p.finish.gate
    → q.start ≡ record { gate = p.finish.gate; side = other_side p.finish.side } → path_rank (depth s at) p < path_rank (depth s beyond) q
path_rises s is at beyond p q hp hq block joins =
    let E : End = record { gate = p.finish.gate; side = other_side p.finish.side } in
    let there : IsEnd s beyond E = subst (λ (e : End). IsEnd s beyond e) joins hq.start in
    let apart : ¬ ((E.side ≡ Inner) × (q.finish.side ≡ Inner)) =
    subst (λ (e : End). ¬ ((e.side ≡ Inner) × (q.finish.side ≡ Inner))) joins hq.apart in
    subst (λ (e : End). path_rank (depth s at) p < sides_rank (depth s beyond) e.side q.finish.side) (sym joins)
    (gate_rises s is (gate_at s p.finish.gate) at beyond p.start.side p.finish.side q.finish.side block hp.finish there hp.apart apart)

option_rises : (s : Structure) → IsStructure s → (c e : Option Channel) (d f : Direction) → IfSome c (IsSound s) → IfSome e (IsSound s)
    → IsSomeAnd (option_map (λ c. path_of c d) c) (λ p. IsSomeAnd (option_map (λ e. path_of e f) e) (λ q.
    IsBlockGate s p.finish.gate × (q.start ≡ record { gate = p.finish.gate; side = other_side p.finish.side })))
    → option_rank s c d < option_rank s e f
option_rises s is None e d f hc he joins = absurd joins
option_rises s is (Some c) None d f hc he joins = absurd joins
option_rises s is (Some c) (Some e) d f hc he (block, joins) =
    path_rises s is c.scope e.scope (path_of c d) (path_of e f) (sound_path s c d hc) (sound_path s e f he) block joins

both : {X : Type 0} (P Q R : X → Type 0) (o : Option X) → ((x : X) → P x → Q x → R x) → IfSome o P → IfSome o Q → IfSome o R
both P Q R None f p q = tt
both P Q R (Some x) f p q = f x p q

pub sound_at : (s : Structure) → IsStructure s → IsWellFormed s → (h : Hop) → IfSome (channel_at s h.channel) (IsSound s)
sound_at s is wf h =
    let P : Channel → Type 0 = λ c. ScopeExists s c.scope × IsEnd s c.scope c.first × IsEnd s c.scope c.second × SignalsExist s c.forth.items × SignalsExist s c.back.items in
    both P HasDistinctEnds (IsSound s) (channel_at s h.channel)
    (λ c p q. record { first = p.1; second = p.2; apart = q })
    (all_at P s.channels h.channel.0 is.channels) (wf.distinct_ends h.channel)

pub rank_rises : (s : Structure) → IsStructure s → IsWellFormed s → (h k : Hop) → Joins s h k → rank s h < rank s k
rank_rises s is wf h k joins =
    option_rises s is (channel_at s h.channel) (channel_at s k.channel) (hop_direction h) (hop_direction k) (sound_at s is wf h) (sound_at s is wf k) joins

-- a walk has at most three hops, and no hop twice
pub walk_short : (s : Structure) → IsStructure s → IsWellFormed s → (x : SignalId) (h : Hop) (hops : List Hop) → IsWalk s x (h ∷ hops)
    → length (h ∷ hops) + rank s h ≤ 9
walk_short s is wf x h [] walk = let b : rank s h < 9 = rank-bound s is h in omega arith
walk_short s is wf x h (k ∷ hops) walk =
    let more : length (k ∷ hops) + rank s k ≤ 9 = walk_short s is wf x k hops walk.2 in
    let rises : rank s h < rank s k = rank_rises s is wf h k walk.1 in
    omega arith

walk_below : (s : Structure) → IsStructure s → IsWellFormed s → (x : SignalId) (n : ℕ) (h : Hop) (hops : List Hop) → IsWalk s x (h ∷ hops)
    → n < rank s h → AllByRecursion (λ k. n < rank s k) (h ∷ hops)
walk_below s is wf x n h [] walk lt = (lt, tt)
walk_below s is wf x n h (k ∷ hops) walk lt =
    let rises : rank s h < rank s k = rank_rises s is wf h k walk.1 in
    (lt, walk_below s is wf x n k hops walk.2 (omega arith))

abbrev pub RisesBy : {X : Type 0} → (X → ℕ) → List X → Type 0
RisesBy f [] = Unit {0}
RisesBy f (x ∷ xs) = AllByRecursion (λ y. f x < f y) xs × RisesBy f xs

walk_rises : (s : Structure) → IsStructure s → IsWellFormed s → (x : SignalId) (h : Hop) (hops : List Hop) → IsWalk s x (h ∷ hops) → RisesBy (rank s) (h ∷ hops)
walk_rises s is wf x h [] walk = (tt, tt)
walk_rises s is wf x h (k ∷ hops) walk =
    (walk_below s is wf x (rank s h) k hops walk.2 (rank_rises s is wf h k walk.1), walk_rises s is wf x k hops walk.2)

differ_from_over : {X : Type 0} (f : X → ℕ) (x : X) (xs : List X) → AllByRecursion (λ y. f x < f y) xs → AllByRecursion (λ y. x ≢ y) xs
differ_from_over f x [] h = tt
differ_from_over f x (y ∷ xs) h =
    let lt : f x < f y = h.0 in
    ((λ e. let same : f x ≡ f y = ap f e in absurd (omega arith)), differ_from_over f x xs h.1)

pub once_from_rises : {X : Type 0} (f : X → ℕ) (xs : List X) → RisesBy f xs → EachOnce xs
once_from_rises f [] h = tt
once_from_rises f (x ∷ xs) h = (differ_from_over f x xs h.0, once_from_rises f xs h.1)

-- the stations: the delaying hops of the walk, and one more
abbrev station_rank : Structure → Station → ℕ
station_rank s (stations.Line h) = rank s h
station_rank s (stations.Inlet b) = 9
station_rank s stations.Outlet = 9

stations_over : (s : Structure) (n : ℕ) (last : Station) → n < 9 → station_rank s last ≡ 9 → (hops : List Hop) → AllByRecursion (λ k. n < rank s k) hops
    → AllByRecursion (λ y. n < station_rank s y) (delaying s hops ++ last ∷ [])
stations_over s n last lt is [] over = (omega arith, tt)
stations_over s n last lt is (h ∷ hops) over =
    let more = stations_over s n last lt is hops over.1 in
    elim (is_delaying s h) as (λ b. AllByRecursion (λ y. n < station_rank s y) (map stations.Line (cond b (h ∷ filter (is_delaying s) hops) (filter (is_delaying s) hops)) ++ last ∷ []))
    [ true ↦ (over.0, more) | false ↦ more ]

stations_rise : (s : Structure) → IsStructure s → (last : Station) → station_rank s last ≡ 9 → (hops : List Hop) → RisesBy (rank s) hops
    → RisesBy (station_rank s) (delaying s hops ++ last ∷ []) × (length (delaying s hops ++ last ∷ []) ≤ length hops + 1)
stations_rise s ok last is [] rises = ((tt, tt), omega arith)
stations_rise s ok last is (h ∷ hops) rises =
    let more = stations_rise s ok last is hops rises.1 in
    let over = stations_over s (rank s h) last (rank-bound s ok h) is hops rises.0 in
    let short : length (delaying s hops ++ last ∷ []) ≤ length hops + 1 = more.1 in
    elim (is_delaying s h) as (λ b.
    let stations : List Station = map stations.Line (cond b (h ∷ filter (is_delaying s) hops) (filter (is_delaying s) hops)) ++ last ∷ [] in
    RisesBy (station_rank s) stations × (length stations ≤ suc (length hops) + 1))
    [ true ↦ ((over, more.0), omega arith) | false ↦ (more.0, omega arith) ]

last_set : (s : Structure) (b : Option Set) (last : Station) → IsSomeAnd b (λ set. last ≡ stations.Inlet set.block) → station_rank s last ≡ 9
last_set s None last h = absurd h
last_set s (Some set) last h = ap (station_rank s) h

last_is_over : (s : Structure) (e : EndPoint) (last : Station) → IsLastStation s e last → station_rank s last ≡ 9
last_is_over s (ends.Set t) last h = last_set s (set_at s t) last h
last_is_over s (ends.Environment g) last h = ap (station_rank s) h

pub short_walk : (s : Structure) → IsStructure s → IsWellFormed s → (x : SignalId) (hops : List Hop) → IsWalk s x hops → (length hops ≤ 9) × RisesBy (rank s) hops
short_walk s is wf x [] walk = absurd walk
short_walk s is wf x (h ∷ hops) walk =
    let short : length (h ∷ hops) + rank s h ≤ 9 = walk_short s is wf x h hops walk in
    (omega arith, walk_rises s is wf x h hops walk)

pub routes_short : (s : Structure) → IsStructure s → IsWellFormed s → AreRoutesShort s
routes_short s is wf row route =
    let hops : List Hop = row.route.hops.items in
    let walk = short_walk s is wf row.route.signal hops route.walk in
    let (last, ends, are) = route.stations in
    let rises = stations_rise s is last (last_is_over s row.route.end last ends) hops walk.1 in
    let few : length (delaying s hops ++ last ∷ []) ≤ length hops + 1 = rises.1 in
    let nine : length hops ≤ 9 = walk.0 in (
      nine,
      subst (λ (ys : List Station). length ys ≤ 10) (sym are) (omega arith),
      once_from_rises (rank s) hops walk.1,
      subst (λ (ys : List Station). EachOnce ys) (sym are) (once_from_rises (station_rank s) _ rises.0),
    )
