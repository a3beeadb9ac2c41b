-- A route is known by its signal and its hops, and no route goes on behind the end of another.
use Rattle.std.proofs.Common.{◌≡◌, List, [], ◌∷◌, ◌++◌, map, Option, Some, None, IsSomeAnd, refl, ap, sym, ◌∙◌, subst}
use Rattle.sdl_signal.specs.declared.ids.SignalId.{SignalId}
use Rattle.sdl_signal.specs.declared.ids.GateId.{GateId}
use Rattle.sdl_structure_parts.specs.declared.parts.Gate.{Gate}
use Rattle.sdl_structure_parts.specs.declared.parts.Set.{Set}
use Rattle.sdl_structure_parts.specs.declared.parts.Owner.{Owner}
use Rattle.sdl_structure_parts.specs.declared.parts.Owner.TheVariants as owner
use Rattle.sdl_structure_parts.specs.Structure.{Structure, Path, gate_at, set_at, other_side}
use Rattle.sdl_structure_parts.specs.Rules.{IsBlockGate}
use Rattle.sdl_routes.specs.declared.route.Hop.{Hop}
use Rattle.sdl_routes.specs.declared.route.TableRow.{TableRow}
use Rattle.sdl_routes.specs.declared.route.EndPoint.{EndPoint}
use Rattle.sdl_routes.specs.declared.route.EndPoint.TheVariants as ends
use Rattle.sdl_routes.specs.declared.route.Station.{Station}
use Rattle.sdl_routes.specs.declared.route.Station.TheVariants as stations
use Rattle.sdl_routes.specs.declared.route.Source.{Source}
use Rattle.sdl_routes.specs.declared.route.Source.TheVariants as source
use Rattle.sdl_routes.specs.Routes.{hop_path, Joins, last_hop, IsWalk, IsRoute, StartsAtGate, EndsAtGate, IsEndPoint, IsSource, IsLastStation, delaying, hop_number, row_place}
use Rattle.sdl_routes.specs.Found.{Begins}
use Rattle.sdl_routes.proofs.Walks.{hop_from_number, signal_from_number}

same_value : {X Y : Type 0} (o : Option X) (f : X → Y) (a b : Y) → IsSomeAnd o (λ x. f x ≡ a) → IsSomeAnd o (λ x. f x ≡ b) → a ≡ b
same_value None f a b p q = absurd p
same_value (Some x) f a b p q = sym p ∙ q

pub start_unique : (s : Structure) (hops : List Hop) (a b : GateId) → StartsAtGate s hops a → StartsAtGate s hops b → a ≡ b
start_unique s [] a b p q = absurd p
start_unique s (h ∷ hops) a b p q = same_value (hop_path s h) (λ p. p.start.gate) a b p q

end_unique : (s : Structure) (hops : List Hop) (a b : GateId) → EndsAtGate s hops a → EndsAtGate s hops b → a ≡ b
end_unique s [] a b p q = absurd p
end_unique s (h ∷ hops) a b p q = same_value (hop_path s (last_hop h hops)) (λ p. p.finish.gate) a b p q

owner_of : (s : Structure) (gate : GateId) (a b : Owner) → IsSomeAnd (gate_at s gate) (λ g. g.owner ≡ a) → IsSomeAnd (gate_at s gate) (λ g. g.owner ≡ b) → a ≡ b
owner_of s gate a b p q = same_value (gate_at s gate) (λ g. g.owner) a b p q

source_unique : (s : Structure) (gate : GateId) (a b : Source) → IsSource s gate a → IsSource s gate b → a ≡ b
source_unique s gate (source.Set t) (source.Set u) p q = let e : owner.Set t ≡ owner.Set u = owner_of s gate _ _ p q in cc
source_unique s gate (source.Set t) (source.Gate e) p q = let f : owner.Set t ≡ owner.System = owner_of s gate _ _ p q.1 in cc
source_unique s gate (source.Gate e) (source.Set u) p q = let f : owner.System ≡ owner.Set u = owner_of s gate _ _ p.1 q in cc
source_unique s gate (source.Gate e) (source.Gate f) p q = let x : e ≡ gate = p.0 in let y : f ≡ gate = q.0 in cc

end_point_unique : (s : Structure) (gate : GateId) (a b : EndPoint) → IsEndPoint s gate a → IsEndPoint s gate b → a ≡ b
end_point_unique s gate (ends.Set t) (ends.Set u) p q = let e : owner.Set t ≡ owner.Set u = owner_of s gate _ _ p q in cc
end_point_unique s gate (ends.Set t) (ends.Environment e) p q = let f : owner.Set t ≡ owner.System = owner_of s gate _ _ p q.1 in cc
end_point_unique s gate (ends.Environment e) (ends.Set u) p q = let f : owner.System ≡ owner.Set u = owner_of s gate _ _ p.1 q in cc
end_point_unique s gate (ends.Environment e) (ends.Environment f) p q = let x : e ≡ gate = p.0 in let y : f ≡ gate = q.0 in cc

last_in : (o : Option Set) (a b : Station) → IsSomeAnd o (λ set. a ≡ stations.Inlet set.block) → IsSomeAnd o (λ set. b ≡ stations.Inlet set.block) → a ≡ b
last_in None a b p q = absurd p
last_in (Some set) a b p q = p ∙ sym q

last_unique : (s : Structure) (e : EndPoint) (a b : Station) → IsLastStation s e a → IsLastStation s e b → a ≡ b
last_unique s (ends.Set t) a b p q = last_in (set_at s t) a b p q
last_unique s (ends.Environment g) a b p q = p ∙ sym q

row_of : SignalId → GateId → List Hop → EndPoint → GateId → List Station → Source → TableRow
row_of signal start hops end end_gate stations source = record {
  route = record { signal = signal; start = start; hops = record { items = hops }; end = end; end_gate = end_gate; stations = record { items = stations } };
  source = source;
}

row_is : (row : TableRow) → row_of row.route.signal row.route.start row.route.hops.items row.route.end row.route.end_gate row.route.stations.items row.source ≡ row
unfolding row_of
row_is row = refl

-- a route is known by its signal and its hops
pub route_same : (s : Structure) (a b : TableRow) → IsRoute s a → IsRoute s b → a.route.signal ≡ b.route.signal → a.route.hops.items ≡ b.route.hops.items → a ≡ b
route_same s a b ra rb signal hops =
    let start : a.route.start ≡ b.route.start =
    start_unique s b.route.hops.items a.route.start b.route.start (subst (λ (hs : List Hop). StartsAtGate s hs a.route.start) hops ra.start) rb.start in
    let end_gate : a.route.end_gate ≡ b.route.end_gate =
    end_unique s b.route.hops.items a.route.end_gate b.route.end_gate (subst (λ (hs : List Hop). EndsAtGate s hs a.route.end_gate) hops ra.end_gate) rb.end_gate in
    let src : a.source ≡ b.source =
    source_unique s b.route.start a.source b.source (subst (λ (g : GateId). IsSource s g a.source) start ra.source) rb.source in
    let end : a.route.end ≡ b.route.end =
    end_point_unique s b.route.end_gate a.route.end b.route.end (subst (λ (g : GateId). IsEndPoint s g a.route.end) end_gate ra.end) rb.end in
    let (la, isa, area) = ra.stations in
    let (lb, isb, areb) = rb.stations in
    let last : la ≡ lb = last_unique s b.route.end la lb (subst (λ (e : EndPoint). IsLastStation s e la) end isa) isb in
    let stations : a.route.stations.items ≡ b.route.stations.items =
    area ∙ ap (λ hs. delaying s hs ++ la ∷ []) hops ∙ ap (λ l. delaying s b.route.hops.items ++ l ∷ []) last ∙ sym areb in
    let whole : row_of a.route.signal a.route.start a.route.hops.items a.route.end a.route.end_gate a.route.stations.items a.source
    ≡ row_of b.route.signal b.route.start b.route.hops.items b.route.end b.route.end_gate b.route.stations.items b.source = cc in
    sym (row_is a) ∙ whole ∙ row_is b

-- a walk that begins with these hops, behind which none joins, is these hops
walk_stops : (s : Structure) (x : SignalId) (h : Hop) (hops walk : List Hop) → IsWalk s x walk → ((k : Hop) → ¬ Joins s (last_hop h hops) k)
    → Begins (map hop_number (h ∷ hops)) (map hop_number walk) → walk ≡ h ∷ hops
walk_stops s x h hops [] is stop begins = absurd is
walk_stops s x h [] (r ∷ []) is stop begins = ap (λ (y : Hop). y ∷ []) (hop_from_number r h begins.0)
walk_stops s x h [] (r ∷ q ∷ rest) is stop begins =
    absurd (stop q (subst (λ (y : Hop). Joins s y q) (hop_from_number r h begins.0) is.1))
walk_stops s x h (j ∷ hops) (r ∷ []) is stop begins = absurd begins.1
walk_stops s x h (j ∷ hops) (r ∷ q ∷ rest) is stop begins =
    let more : q ∷ rest ≡ j ∷ hops = walk_stops s x j hops (q ∷ rest) is.2 stop begins.1 in
    let first : r ≡ h = hop_from_number r h begins.0 in
    cc

block_at : (s : Structure) (o o' : Option Path) (gate : GateId) → IsSomeAnd o (λ p. p.finish.gate ≡ gate)
    → IsSomeAnd o (λ p. IsSomeAnd o' (λ q. IsBlockGate s p.finish.gate × (q.start ≡ record { gate = p.finish.gate; side = other_side p.finish.side })))
    → IsBlockGate s gate
block_at s None p gate at joins = absurd at
block_at s (Some x) None gate at joins = absurd joins
block_at s (Some x) (Some y) gate at joins = subst (λ (g : GateId). IsBlockGate s g) at joins.0

abbrev IsBlockOwner : Owner → Type 0
IsBlockOwner o = elim o [ owner.Block b ↦ Unit {0} | _ ↦ ⊥ ]

ends_outside_at : (o : Option Gate) (a : Owner) → IsSomeAnd o (λ g. g.owner ≡ a) → IsSomeAnd o (λ g. IsBlockOwner g.owner) → IsBlockOwner a
ends_outside_at None a at block = absurd at
ends_outside_at (Some g) a at block = subst (λ (o : Owner). IsBlockOwner o) at block

ends_outside : (s : Structure) (gate : GateId) (e : EndPoint) → IsEndPoint s gate e → ¬ IsBlockGate s gate
ends_outside s gate (ends.Set t) at block = ends_outside_at (gate_at s gate) (owner.Set t) at block
ends_outside s gate (ends.Environment e) at block = ends_outside_at (gate_at s gate) owner.System at.1 block

hops_only : (s : Structure) (x : SignalId) (hops walk : List Hop) (gate : GateId) (e : EndPoint) → IsWalk s x walk → EndsAtGate s hops gate → IsEndPoint s gate e
    → Begins (map hop_number hops) (map hop_number walk) → walk ≡ hops
hops_only s x [] walk gate e is at end begins = absurd at
hops_only s x (h ∷ hops) walk gate e is at end begins =
    walk_stops s x h hops walk is
    (λ k joins. ends_outside s gate e end (block_at s (hop_path s (last_hop h hops)) (hop_path s k) gate at joins)) begins

-- the only route that begins as this one does
pub route_only : (s : Structure) (row : TableRow) → IsRoute s row → (other : TableRow) → IsRoute s other → Begins (row_place row) (row_place other) → other ≡ row
route_only s row route other is begins =
    let signal : other.route.signal ≡ row.route.signal = signal_from_number other.route.signal row.route.signal begins.0 in
    let hops : other.route.hops.items ≡ row.route.hops.items =
    hops_only s other.route.signal row.route.hops.items other.route.hops.items row.route.end_gate row.route.end is.walk route.end_gate route.end begins.1 in
    route_same s other row is route signal hops
