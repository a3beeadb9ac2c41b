use Rattle.std.proofs.Common.{◌+◌, List, ap, sym, ◌∙◌, subst, arith}
use Rattle.sdl_routes.specs.declared.route.Station.{Station}
use Rattle.sdl_routes.specs.Routes.{EachOnce}
use Rattle.sdl_queue.specs.declared.rest.Rest.{Rest}
use Rattle.sdl_queue.specs.Rest.{left_in}
use Rattle.sdl_forward.specs.Boards.{lists_of}
use Rattle.sdl_forward.specs.Serials.{IsFirstRuled}
use Rattle.sdl_forward.proofs.Adopted.{AreSerialBefore, one_made, all_made, lists_made, same_stations, same_length, refused_here, first_ruled}
use Rattle.sdl_forward.proofs.board.Board.adopt.Goals as goal

pub returns-in-Err-clause-lists : goal.returns-in-Err-clause-lists
returns-in-Err-clause-lists g c =
    let refused = c.in-Err.ensures in
    let inv = c.loop-place.invariant in
    (ap lists_of refused.3 ∙ inv.lists, refused_here c.args.rests.items c.loop-place.rests.items c.loop-place.place c.in-Err.station refused.0 inv.lists refused.2)

pub returns-in-Err-clause-refused : goal.returns-in-Err-clause-refused
returns-in-Err-clause-refused g c =
    let refused = c.in-Err.ensures in
    subst (λ (rests : List (Station × Rest)). IsFirstRuled rests c.in-Err.station) (sym refused.3)
    (first_ruled c.loop-place.rests.items c.loop-place.place c.in-Err.station refused.0 c.loop-place.invariant.serial refused.1 refused.2)

pub loop-place-preserved : goal.loop-place-preserved
loop-place-preserved g c =
    let made = c.in_default.ensures in
    let inv = c.loop-place.invariant in
    let rests = c.loop-place.rests.items in
    let place = c.loop-place.place in
    record {
      lists = ap lists_of made.2 ∙ (lists_made rests place made.0 made.1 ∙ inv.lists);
      serial = subst (AreSerialBefore (place + 1)) (sym made.2) (one_made rests place made.0 made.0.0 (left_in made.0.1) made.1 inv.serial);
    }

pub of-requires-clause-once : goal.of-requires-clause-once
of-requires-clause-once g c = subst EachOnce (sym (same_stations c.args.rests.items c.loop-place.rests.items c.loop-place.invariant.lists)) c.requires.once

pub of-requires-clause-serial : goal.of-requires-clause-serial
of-requires-clause-serial g c =
    let same = same_length c.args.rests.items c.loop-place.rests.items c.loop-place.invariant.lists in
    all_made c.loop-place.rests.items c.loop-place.place (omega (arith, same, c.loop-place-test.false, c.len-place-end.ensures, c.args.rests.ok.0)) c.loop-place.invariant.serial
