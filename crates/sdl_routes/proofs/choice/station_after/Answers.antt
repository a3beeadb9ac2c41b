use Rattle.std.proofs.Common.{true, false, ◌≡◌, ◌≢◌, ℕ, suc, ◌<◌, List, length, Option, Some, None, slice_get, get_or, refl, ap, sym, ◌∙◌, subst, arith, add-one, below_more}
use Rattle.sdl_routes.specs.declared.route.Station.{Station}
use Rattle.sdl_routes.specs.declared.route.Station.TheVariants as stations
use Rattle.sdl_routes.specs.Routes.{FollowsIn}
use Rattle.std.proofs.lemmas.Option.{slice_get-get_or, slice_get_within}
use Rattle.sdl_routes.proofs.Once.{follows, follows_none}
use Rattle.sdl_routes.proofs.choice.station_after.Goals as goal

-- what a read past the end of a list of stations gives in a goal
abbrev unread : Station
unread = stations.Line (record { channel = record { 0 = 0 }; back = false })

pub returns-then-is_same : goal.returns-then-is_same
returns-then-is_same c =
    let list : List Station = c.args.stations.now in
    let i : ℕ = c.loop-place.place in
    let each : Station = get_or list i unread in
    let at : slice_get list i ≡ Some each = slice_get-get_or list i unread c.loop-place-test.true in
    let same : each ≡ c.in-Some.station = c.if-is_same.ensures.0 refl in
    let next : c.station_at-then-is_same.result ≡ slice_get list (suc i) = c.station_at-then-is_same.ensures ∙ ap (λ n. slice_get list n) (add-one i) in
    subst (λ (o : Option Station). FollowsIn list o c.station_at-then-is_same.result) (sym c.in-Some.is)
    (follows list c.in-Some.station c.station_at-then-is_same.result i c.requires (at ∙ ap Some same) next)

pub loop-place-preserved : goal.loop-place-preserved
loop-place-preserved c =
    let list : List Station = c.args.stations.now in
    let i : ℕ = c.loop-place.place in
    let each : Station = get_or list i unread in
    let at : slice_get list i ≡ Some each = slice_get-get_or list i unread c.loop-place-test.true in
    below_more _ _ c.loop-place.invariant
    (λ there. let same : each ≡ c.in-Some.station = (let e : Some each ≡ Some c.in-Some.station = sym at ∙ there in cc) in
    let e : false ≡ true = c.if-is_same.ensures.1 same in cc)

pub returns : goal.returns
returns c =
    let none : (k : ℕ) → slice_get c.args.stations.now k ≢ Some c.in-Some.station =
    λ k at. let lt : k < length c.args.stations.now = slice_get_within c.args.stations.now k c.in-Some.station at in
    c.loop-place.invariant k (omega arith) at in
    subst (λ (o : Option Station). FollowsIn c.args.stations.now o None) (sym c.in-Some.is) (follows_none c.args.stations.now c.in-Some.station none)
