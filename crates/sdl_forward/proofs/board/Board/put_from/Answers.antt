use Rattle.std.proofs.Common.{◌≡◌, List, [], ◌∷◌, ◌++◌, Option, Some, MatchOption, Contains, slice_set, sym, subst, arith}
use Rattle.sdl_signal.specs.declared.values.Item.{Item}
use Rattle.sdl_routes.specs.declared.route.Station.{Station}
use Rattle.sdl_queue.specs.declared.rest.Rest.TheVariants.{Serial}
use Rattle.sdl_forward.specs.Boards.{stations_of, waiting, ChangesOnly, lists_of}
use Rattle.sdl_forward.proofs.Marks.{keeps_marks}
use Rattle.std.proofs.lemmas.Bool.{false≢true}
use Rattle.sdl_forward.proofs.Entries.{place_within, contained_here, found_in, not_in, not_ruled, not_ring, entry_here, puts, changes, once_same, serial_set}
use Rattle.sdl_forward.proofs.board.Board.put_from.Goals as goal

pub unreachable-requires : goal.unreachable-requires
unreachable-requires c =
    not_in c.self.inside.rests.items c.as_slice.result.now c.args.station c.as_slice.ensures.value c.in_default.ensures
    (contained_here c.self.inside.rests.items c.args.station (subst (λ (b : List (Station × List Item)). Contains (stations_of b) c.args.station) (sym c.self.view_is) c.requires))

pub index_mut-requires : goal.index_mut-requires
index_mut-requires c =
    let within = place_within c.self.inside.rests.items c.args.station c.in-Some.place (found_in c.self.inside.rests.items c.as_slice.result.now c.args.station c.in-Some.place c.as_slice.ensures.value c.in-Some.ensures) in
    omega (arith, c.self.inside.rests.ok.0)

pub unreachable-requires-in-Ruled : goal.unreachable-requires-in-Ruled
unreachable-requires-in-Ruled c =
    not_ruled c.self.inside.rests.items c.in-Some.place c.index_mut.result.now c.in-Ruled.field-0 c.self.invariant.1
    (entry_here c.self.inside.rests.items c.args.station c.in-Some.place c.index_mut.result.now (found_in c.self.inside.rests.items c.as_slice.result.now c.args.station c.in-Some.place c.as_slice.ensures.value c.in-Some.ensures) c.index_mut.ensures.value)
    c.in-Ruled.is

pub unreachable-requires-in-Ring : goal.unreachable-requires-in-Ring
unreachable-requires-in-Ring c =
    not_ring c.self.inside.rests.items c.in-Some.place c.index_mut.result.now c.in-Ring.field-0 c.self.invariant.1
    (entry_here c.self.inside.rests.items c.args.station c.in-Some.place c.index_mut.result.now (found_in c.self.inside.rests.items c.as_slice.result.now c.args.station c.in-Some.place c.as_slice.ensures.value c.in-Some.ensures) c.index_mut.ensures.value)
    c.in-Ring.is

pub invariant_of-self : goal.invariant_of-self
invariant_of-self c =
    let found = found_in c.self.inside.rests.items c.as_slice.result.now c.args.station c.in-Some.place c.as_slice.ensures.value c.in-Some.ensures in
    let here = entry_here c.self.inside.rests.items c.args.station c.in-Some.place c.index_mut.result.now found c.index_mut.ensures.value in (
      once_same c.self.inside.rests.items c.args.station c.in-Some.place c.index_mut.result.now c.self.invariant.0 found here c.put_slot.new.queue,
      serial_set c.self.inside.rests.items c.in-Some.place c.index_mut.result.now.0 c.put_slot.new.queue c.self.invariant.1,
      keeps_marks c.self.inside.busy c.note.new.self _ c.args.station (lists_of c.self.inside.rests.items) _ c.note.ensures
          (changes c.self.inside.rests.items c.args.station c.in-Some.place c.index_mut.result.now c.self.invariant.0 found here c.put_slot.new.queue) (λ e. absurd (false≢true (sym e))) c.self.invariant.2,
    )

pub returns-clause-put : goal.returns-clause-put
returns-clause-put c =
    let found = found_in c.self.inside.rests.items c.as_slice.result.now c.args.station c.in-Some.place c.as_slice.ensures.value c.in-Some.ensures in
    let here = entry_here c.self.inside.rests.items c.args.station c.in-Some.place c.index_mut.result.now found c.index_mut.ensures.value in
    let new : List (Station × List Item) = lists_of (slice_set c.self.inside.rests.items c.in-Some.place (c.index_mut.result.now.0, Serial c.put_slot.new.queue)) in
    let old : Option Item = c.args.slot.now in
    subst
    (λ (b : List (Station × List Item)).
    MatchOption c.put_slot.new.slot (MatchOption old (new ≡ b) (λ item. waiting new c.args.station ≡ waiting b c.args.station ++ item ∷ [])) (λ back. (old ≡ Some back) × (new ≡ b)))
    c.self.view_is
    (puts c.self.inside.rests.items c.args.station c.in-Some.place c.index_mut.result.now c.self.invariant.0 found here
    c.in-Serial.queue c.put_slot.new.queue c.in-Serial.is c.put_slot.new.slot old c.put_slot.ensures)

pub returns-clause-others : goal.returns-clause-others
returns-clause-others c =
    let found = found_in c.self.inside.rests.items c.as_slice.result.now c.args.station c.in-Some.place c.as_slice.ensures.value c.in-Some.ensures in
    let here = entry_here c.self.inside.rests.items c.args.station c.in-Some.place c.index_mut.result.now found c.index_mut.ensures.value in
    let new : List (Station × List Item) = lists_of (slice_set c.self.inside.rests.items c.in-Some.place (c.index_mut.result.now.0, Serial c.put_slot.new.queue)) in
    subst (λ (b : List (Station × List Item)). ChangesOnly b new c.args.station) c.self.view_is
    (changes c.self.inside.rests.items c.args.station c.in-Some.place c.index_mut.result.now c.self.invariant.0 found here c.put_slot.new.queue)
