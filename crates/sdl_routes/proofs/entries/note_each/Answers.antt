use Rattle.std.proofs.Common.{◌+◌, ◌<◌, List, length, get_or, ap, sym, ◌∙◌, subst, arith}
use Rattle.std.proofs.lemmas.List.{with_items_is}
use Rattle.std.proofs.Math.Seq.{map-set_same}
use Rattle.sdl_routes.specs.declared.entries.Entry.{Entry}
use Rattle.sdl_routes.specs.Index.{IsEntry, AreEntries}
use Rattle.sdl_routes.proofs.Indexed.{written, unwritten, entry_noted, noted_each}
use Rattle.sdl_routes.proofs.entries.note_each.Goals as goal

pub loop-entry-preserved : goal.loop-entry-preserved
loop-entry-preserved c =
    let items : List Entry = c.loop-entry.entry-items in
    let old : List Entry = c.args.entries.now.items in
    let i = c.loop-entry.entry-index in
    let new : Entry = c.note.new.self in
    let item : Entry = get_or items i c.entry-item.result in
    let same = ap length c.deref_mut-entry-items.ensures.value in
    let long = c.loop-entry.auto.entry-items in
    let lt : i < length items = omega arith in
    let low : i < length old = omega arith in
    record {
      wishes = map-set_same (λ (e : Entry). e.wish) items i new c.entry-item.result c.in_ok-note.ensures.wish ∙ c.loop-entry.invariant.wishes;
      noted = λ rows p g at each.
          let was : IsEntry rows c.args.number p g item =
          subst (λ (e : Entry). IsEntry rows c.args.number p g e) (sym (c.loop-entry.invariant.rest i c.entry-item.result (omega arith))) (each i c.entry-item.result low) in
          written (IsEntry rows (c.args.number + 1) p g) items i new lt (entry_noted rows c.args.number p g item new c.in_ok-note.ensures.wish (c.in_ok-note.ensures.numbers rows at) was)
          (c.loop-entry.invariant.noted rows p g at each);
      rest = unwritten items old i new c.loop-entry.invariant.rest;
    }

pub returns : goal.returns
returns c rows p g at has are =
    let items : List Entry = c.loop-entry.entry-items in
    let same = ap length c.deref_mut-entry-items.ensures.value in
    let long = c.loop-entry.auto.entry-items in
    let len = c.args.entries.now.ok.0 in
    subst (λ (l : List Entry). AreEntries rows (c.args.number + 1) p g l) (sym (with_items_is c.args.entries.now items (omega (arith, same, long, len))))
    (noted_each rows c.args.number p g c.args.entries.now.items items c.args.row.now at c.loop-entry.invariant.wishes has
    (λ k d lt. c.loop-entry.invariant.noted rows p g at are.each k d (omega arith)) are)
