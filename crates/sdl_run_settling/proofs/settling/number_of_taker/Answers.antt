use Rattle.std.proofs.Common.{◌≡◌, ◌+◌, ◌≤◌, Some, true, length, slice_get, refl, ap, sym, ◌∙◌, subst, below_more, arith, rules}
use Rattle.std.proofs.lemmas.Bool.{false≢true}
use Rattle.std.proofs.lemmas.Option.{slice_get_read, same_Some}
use Rattle.sdl_forward_ends.specs.Stations.{same_hop}
use Rattle.sdl_forward_ends.proofs.Same.{same_hop_itself}
use Rattle.sdl_routes.specs.declared.route.Hop.{Hop}
use Rattle.sdl_routes.specs.declared.route.Station.{Station}
use Rattle.sdl_forward.specs.Forwards.{Forwarding}
use Rattle.sdl_forward_opening.specs.Workers.{Among, taker}
use Rattle.sdl_run_settling.specs.Takers.{workers_with}
use Rattle.sdl_run_settling.proofs.Takers.{hops_of, number_of_block, number_of_environment, number_of_forwarder, some_forwarder}
use Rattle.sdl_run_settling.proofs.settling.number_of_taker.Goals as goal

pub returns-then-eq-clause-taker : goal.returns-then-eq-clause-taker
returns-then-eq-clause-taker c =
    let fs = c.args.forwarders.now in
    let f = c.index-forwarders-place.result in
    let at : slice_get fs c.loop-place.place ≡ Some f = slice_get_read fs (length fs) c.loop-place.place f refl c.loop-place-test.true c.index-forwarders-place.is in
    let same : f.hop ≡ c.in-Line.hop = search rules in
    number_of_forwarder c.args.blocks fs c.loop-place.place f c.in-Line.hop (c.args.blocks + 1 + c.loop-place.place) at same (omega arith)
    ∙ ap (λ (t : Station). Some (taker t)) (sym c.in-Line.is)

pub loop-place-preserved : goal.loop-place-preserved
loop-place-preserved c =
    let fs = c.args.forwarders.now in
    let x = c.index-forwarders-place.result in
    λ k f less at same. below_more (λ j. (y : Forwarding) → slice_get fs j ≡ Some y → y.hop ≡ c.in-Line.hop → ⊥) c.loop-place.place
    (λ j before y found is. c.loop-place.invariant j y before found is)
    (λ y found is.
    let this : slice_get fs c.loop-place.place ≡ Some x = slice_get_read fs (length fs) c.loop-place.place x refl c.loop-place-test.true c.index-forwarders-place.is in
    let one : y ≡ x = same_Some y x (sym found ∙ this) in
    let hops : c.hop.result ≡ c.in-Line.hop = c.hop.ensures ∙ (ap (λ (z : Forwarding). z.hop) (sym one) ∙ is) in
    let yes : c.eq.result ≡ true = c.eq.ensures ∙ (ap (λ (h : Hop). same_hop h c.in-Line.hop) hops ∙ same_hop_itself c.in-Line.hop) in
    false≢true (sym c.if-eq.false ∙ yes))
    k less f at same

pub unreachable-requires : goal.unreachable-requires
unreachable-requires c =
    let fs = c.args.forwarders.now in
    let taken = subst (λ (t : Station). Among (taker t) (workers_with c.args.blocks (hops_of fs))) c.in-Line.is c.requires.taken in
    some_forwarder c.args.blocks fs c.in-Line.hop taken
    (λ k f less at same. c.loop-place.invariant k f (let past : length fs ≤ c.loop-place.place = c.loop-place-test.false in omega (arith, less, past)) at same)

pub returns-in-Inlet-clause-bound : goal.returns-in-Inlet-clause-bound
returns-in-Inlet-clause-bound c =
    let fs = c.args.forwarders.now in
    let taken = subst (λ (t : Station). Among (taker t) (workers_with c.args.blocks (hops_of fs))) c.in-Inlet.is c.requires.taken in
    let less = (number_of_block c.args.blocks (hops_of fs) c.in-Inlet.block taken).0 in
    omega (arith, less)

pub returns-in-Inlet-clause-taker : goal.returns-in-Inlet-clause-taker
returns-in-Inlet-clause-taker c =
    let fs = c.args.forwarders.now in
    let taken = subst (λ (t : Station). Among (taker t) (workers_with c.args.blocks (hops_of fs))) c.in-Inlet.is c.requires.taken in
    (number_of_block c.args.blocks (hops_of fs) c.in-Inlet.block taken).1 ∙ ap (λ (t : Station). Some (taker t)) (sym c.in-Inlet.is)

pub returns-in-Outlet-clause-taker : goal.returns-in-Outlet-clause-taker
returns-in-Outlet-clause-taker c =
    number_of_environment c.args.blocks (hops_of c.args.forwarders.now) ∙ ap (λ (t : Station). Some (taker t)) (sym c.in-Outlet.is)
