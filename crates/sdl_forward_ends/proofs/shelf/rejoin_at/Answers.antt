use Rattle.std.proofs.Common.{◌+◌, ◌<◌, ◌≤◌, length, drop, sym, ◌∙◌, arith}
use Rattle.std.proofs.lemmas.Option.{none-some}
use Rattle.sdl_forward_ends.specs.Ends.{column}
use Rattle.sdl_forward_ends.proofs.Shelves.{then_is, column_then, taps_then, room_then, all_then, tap_all, whole, rejoined}
use Rattle.sdl_forward_ends.proofs.shelf.rejoin_at.Goals as goal

pub collect-requires : goal.collect-requires
collect-requires g c =
    let less : c.loop-number.number < length c.args.ends.now.items = (let t = c.loop-number-test.true in let l = c.len-number-end.ensures in omega (arith, t, l, c.args.ends.now.ok.0)) in
    let both = room_then c.args.slot.station c.args.ends.now.items c.loop-number.ends.items c.loop-number.number c.loop-number.invariant.so less c.index_mut.result.now c.index_mut.ensures.value in
    let room = c.loop-number.invariant.room in
    omega (arith, both, room)

pub loop-number-preserved : goal.loop-number-preserved
loop-number-preserved g c =
    let less : c.loop-number.number < length c.args.ends.now.items = (let t = c.loop-number-test.true in let l = c.len-number-end.ensures in omega (arith, t, l, c.args.ends.now.ok.0)) in
    let inv = c.loop-number.invariant in
    let s = c.args.slot.station in
    let old = c.args.ends.now.items in
    let now = c.loop-number.ends.items in
    let k = c.loop-number.number in
    let x = c.index_mut.result.now in
    let both = room_then s old now k inv.so less x c.index_mut.ensures.value in
    record {
      so = then_is s old now k inv.so less x c.collect.new.one c.index_mut.ensures.value c.collect.ensures.rest;
      feeds = column_then s old now k inv.so less x c.loop-number.feeds.items c.collect.new.feeds.items c.index_mut.ensures.value inv.feeds c.collect.ensures.feeds;
      tap = taps_then s old now k inv.so less x c.loop-number.tap c.collect.new.tap c.index_mut.ensures.value inv.tap c.collect.ensures.tap;
      room = c.collect.ensures.room (length (column s (drop (k + 1) old))) (let room = inv.room in omega (arith, both, room));
    }

pub any_rejoin-requires : goal.any_rejoin-requires
any_rejoin-requires g c =
    let past : length c.args.ends.now.items ≤ c.loop-number.number = (let t = c.loop-number-test.false in let l = c.len-number-end.ensures in omega (arith, t, l, c.args.ends.now.ok.0)) in
    let inv = c.loop-number.invariant in
    let w = c.requires.whole in
    whole c.args.slot.station c.args.ends.now.items c.loop-number.number past c.loop-number.feeds.items w.0 c.in-Some.tap c.loop-number.tap inv.feeds inv.tap c.in-Some.is w.1 w.2

pub returns-clause-rejoined : goal.returns-clause-rejoined
returns-clause-rejoined g c =
    let past : length c.args.ends.now.items ≤ c.loop-number.number = (let t = c.loop-number-test.false in let l = c.len-number-end.ensures in omega (arith, t, l, c.args.ends.now.ok.0)) in
    let inv = c.loop-number.invariant in
    let w = c.requires.whole in
    rejoined c.args.slot.station c.args.ends.now.items c.loop-number.number past c.loop-number.feeds.items w.0 c.in-Some.tap c.loop-number.tap c.any_rejoin.result inv.feeds inv.tap c.in-Some.is w.1 c.any_rejoin.ensures

pub returns-clause-others : goal.returns-clause-others
returns-clause-others g c =
    let past : length c.args.ends.now.items ≤ c.loop-number.number = (let t = c.loop-number-test.false in let l = c.len-number-end.ensures in omega (arith, t, l, c.args.ends.now.ok.0)) in
    all_then c.args.slot.station c.args.ends.now.items c.loop-number.number past c.loop-number.ends.items c.loop-number.invariant.so

pub unreachable-requires : goal.unreachable-requires
unreachable-requires g c =
    let past : length c.args.ends.now.items ≤ c.loop-number.number = (let t = c.loop-number-test.false in let l = c.len-number-end.ensures in omega (arith, t, l, c.args.ends.now.ok.0)) in
    none-some c.requires.whole.0 (sym c.in_default.is ∙ tap_all c.args.slot.station c.args.ends.now.items c.loop-number.number past c.loop-number.tap c.requires.whole.0 c.loop-number.invariant.tap c.requires.whole.1)
