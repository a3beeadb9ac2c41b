use Rattle.std.proofs.Common.{true, false, ◌≡◌, ℕ, ◌+◌, ◌*◌, ◌<◌, ◌≤◌, List, [], ◌∷◌, ◌++◌, map, length, refl, ap, ◌∙◌, subst, arith}
use Rattle.sdl_routes.specs.declared.table.RouteFault.{RouteFault}
use Rattle.sdl_routes.specs.declared.table.RouteFault.TheVariants.{TooMany}
use Rattle.sdl_routes.specs.Routes.{HasTooMany, hop_number, place}
use Rattle.sdl_routes.specs.Found.{place_behind, HasFound}
use Rattle.sdl_routes.specs.Collected.{AddsRoute, HasCollected}
use Rattle.sdl_routes.proofs.Ranks.{short_walk}
use Rattle.sdl_routes.proofs.Found.{found_enter, found_leave}
use Rattle.sdl_routes.proofs.Walks.{room_for, numbers_below, step_taken, step_skipped}
use Rattle.sdl_routes.proofs.Collecting.{collected_moves, collected_push, collected_too_many, none_placed, on_ok, if_err}
use Rattle.sdl_routes.proofs.search.+extend.Goals as goal
use Rattle.sdl_routes.proofs.search.+extend.Goals.{then-last_joins+then-carries+in_ok-extend, else-last_joins, else-last_joins-via-then-last_joins+else-carries, else-last_joins-via-else-last_joins}

pub row_of-requires-clause-few : goal.row_of-requires-clause-few
row_of-requires-clause-few t c =
    (short_walk c.args.structure.now c.requires.structure c.requires.well_formed c.args.signal c.args.hops.now c.requires.walk).0

pub returns-in-Some-clause-found : goal.returns-in-Some-clause-found
returns-in-Some-clause-found t c =
    let s = c.args.structure.now in
    let (route, signal, hops) = c.in-Some.ensures.route in
    on_ok c.add.result (AddsRoute c.args.collected.now c.in-Some.row c.add.new.self × (c.args.collected.now.count < 4096))
    (HasCollected s (place_behind (place c.args.signal c.args.hops.now)) c.add.new.self)
    (λ h. collected_push s c.args.signal c.args.hops.now c.in-Some.row c.args.collected.now c.add.new.self route signal hops c.requires.found h.0 h.1)
    c.add.ensures.ok

pub returns-in-Some-clause-too_many : goal.returns-in-Some-clause-too_many
returns-in-Some-clause-too_many t c =
    let s = c.args.structure.now in
    let (route, signal, hops) = c.in-Some.ensures.route in
    if_err c.add.result (λ (fault : RouteFault). (fault ≡ TooMany) × (4096 ≤ c.args.collected.now.count)) (λ (fault : RouteFault). (fault ≡ TooMany) × HasTooMany s)
    (λ fault h. (h.0, collected_too_many s c.args.signal c.args.hops.now c.in-Some.row c.args.collected.now route signal hops c.requires.found h.1))
    c.add.ensures.full

pub loop-number-init : goal.loop-number-init
loop-number-init t c =
    let s = c.args.structure.now in
    let p : List ℕ = place c.args.signal c.args.hops.now in
    collected_moves s p (p ++ 0 ∷ []) c.args.collected.now
    (λ rows h. found_enter s p rows (none_placed s c.args.signal c.args.hops.now c.in_default.ensures.none) h) c.requires.found

pub with_hop-longer-requires : goal.with_hop-longer-requires
with_hop-longer-requires t c =
    room_for c.args.structure.now c.requires.structure c.requires.well_formed c.args.signal c.numbered-hop.result c.args.hops.now c.requires.walk
    (c.if-carries.ensures.0 refl) (c.if-last_joins.ensures.0 refl)

pub loop-number-preserved : goal.loop-number-preserved
loop-number-preserved t c =
    let s = c.args.structure.now in
    let x = c.args.signal in
    let hops = c.args.hops.now in
    let hop = c.numbered-hop.result in
    let n = c.loop-number.number in
    let number : hop_number hop ≡ n = c.numbered-hop.ensures in
    let p : List ℕ = place x hops in
    elim c.if-last_joins.branch [
      | then-last_joins+then-carries+in_ok-extend w ↦
          rw w.collected-is (collected_moves s (place_behind (place x w.as_slice.result.now)) (p ++ (n + 1) ∷ []) w.extend.new.collected
          (λ rows h. step_taken s x hops w.as_slice.result.now hop n rows (w.as_slice.ensures.value ∙ w.with_hop-longer.ensures) number h)
          w.in_ok-extend.ensures.found)
      | else-last_joins w ↦
          elim w.else-last_joins.branch [
            | else-last_joins-via-then-last_joins+else-carries w' ↦
                rw w.collected-is (collected_moves s (p ++ n ∷ []) (p ++ (n + 1) ∷ []) c.loop-number.collected
                (λ rows h. step_skipped s x hops hop n rows c.requires.walk (λ (carries, joins). let e : false ≡ true = w'.if-carries.ensures.1 carries in cc) number h)
                c.loop-number.invariant)
            | else-last_joins-via-else-last_joins w' ↦
                rw w.collected-is (collected_moves s (p ++ n ∷ []) (p ++ (n + 1) ∷ []) c.loop-number.collected
                (λ rows h. step_skipped s x hops hop n rows c.requires.walk (λ (carries, joins). let e : false ≡ true = w'.if-last_joins.ensures.1 joins in cc) number h)
                c.loop-number.invariant)
          ]
    ]

pub returns-clause-found : goal.returns-clause-found
returns-clause-found t c =
    let s = c.args.structure.now in
    let x = c.args.signal in
    let hops = c.args.hops.now in
    let ns : List ℕ = map hop_number hops in
    let e : length c.channels.result.now ≡ length s.channels = ap length c.channels.ensures in
    let end : c.loop-number.number ≡ 2 * length s.channels = omega arith in
    let p : List ℕ = place x hops in
    collected_moves s (p ++ c.loop-number.number ∷ []) (place_behind p) c.loop-number.collected
    (λ rows h. found_leave s x.0 ns (2 * length s.channels) rows (none_placed s x hops c.in_default.ensures.none)
    (λ row n rest route e. numbers_below s x.0 ns row n rest route e)
    (subst (λ (n : ℕ). HasFound s (p ++ n ∷ []) rows) end h))
    c.loop-number.invariant
