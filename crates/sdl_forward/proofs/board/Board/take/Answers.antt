use Rattle.std.proofs.Common.{◌≡◌, List, [], ◌∷◌, Option, MatchOption, slice_set, refl, sym, ◌∙◌, subst, arith}
use Rattle.sdl_signal.specs.declared.values.Item.{Item}
use Rattle.sdl_routes.specs.declared.route.Station.{Station}
use Rattle.sdl_queue.specs.declared.rest.Rest.TheVariants.{Serial}
use Rattle.sdl_forward.specs.Boards.{waiting, ChangesOnly, lists_of}
use Rattle.sdl_forward.proofs.Marks.{keeps_marks, none_left}
use Rattle.sdl_forward.proofs.Entries.{place_within, not_contained, found_in, not_in, not_ruled, not_ring, entry_here, takes, changes, waits_now, once_same, serial_set}
use Rattle.sdl_forward.proofs.board.Board.take.Goals as goal

pub returns-in_err-place-clause-take : goal.returns-in_err-place-clause-take
returns-in_err-place-clause-take c =
    let board : List (Station × List Item) = c.args.self.now in
    let none : waiting board c.args.station ≡ [] =
    subst (λ (b : List (Station × List Item)). waiting b c.args.station ≡ []) c.self.view_is
    (not_contained c.self.inside.rests.items c.args.station (not_in c.self.inside.rests.items c.as_slice.result.now c.args.station c.as_slice.ensures.value c.in_err-place.ensures)) in
    subst (λ (o : Option Item). MatchOption o ((waiting board c.args.station ≡ []) × (board ≡ board)) (λ item. waiting board c.args.station ≡ item ∷ waiting board c.args.station))
    (sym c.from_residual.ensures) (none, refl)

pub index_mut-requires : goal.index_mut-requires
index_mut-requires c =
    let within = place_within c.self.inside.rests.items c.args.station c.in_ok-place.place (found_in c.self.inside.rests.items c.as_slice.result.now c.args.station c.in_ok-place.place c.as_slice.ensures.value c.in_ok-place.ensures) in
    omega (arith, c.self.inside.rests.ok.0)

pub unreachable-requires : goal.unreachable-requires
unreachable-requires c =
    not_ruled c.self.inside.rests.items c.in_ok-place.place c.index_mut.result.now c.in-Ruled.field-0 c.self.invariant.1
    (entry_here c.self.inside.rests.items c.args.station c.in_ok-place.place c.index_mut.result.now (found_in c.self.inside.rests.items c.as_slice.result.now c.args.station c.in_ok-place.place c.as_slice.ensures.value c.in_ok-place.ensures) c.index_mut.ensures.value)
    c.in-Ruled.is

pub unreachable-requires-in-Ring : goal.unreachable-requires-in-Ring
unreachable-requires-in-Ring c =
    not_ring c.self.inside.rests.items c.in_ok-place.place c.index_mut.result.now c.in-Ring.field-0 c.self.invariant.1
    (entry_here c.self.inside.rests.items c.args.station c.in_ok-place.place c.index_mut.result.now (found_in c.self.inside.rests.items c.as_slice.result.now c.args.station c.in_ok-place.place c.as_slice.ensures.value c.in_ok-place.ensures) c.index_mut.ensures.value)
    c.in-Ring.is

pub invariant_of-self : goal.invariant_of-self
invariant_of-self c =
    let found = found_in c.self.inside.rests.items c.as_slice.result.now c.args.station c.in_ok-place.place c.as_slice.ensures.value c.in_ok-place.ensures in
    let here = entry_here c.self.inside.rests.items c.args.station c.in_ok-place.place c.index_mut.result.now found c.index_mut.ensures.value in (
      once_same c.self.inside.rests.items c.args.station c.in_ok-place.place c.index_mut.result.now c.self.invariant.0 found here c.take-item.new.self,
      serial_set c.self.inside.rests.items c.in_ok-place.place c.index_mut.result.now.0 c.take-item.new.self c.self.invariant.1,
      keeps_marks c.self.inside.busy c.note.new.self _ c.args.station (lists_of c.self.inside.rests.items) _ c.note.ensures
          (changes c.self.inside.rests.items c.args.station c.in_ok-place.place c.index_mut.result.now c.self.invariant.0 found here c.take-item.new.self)
          (λ e.
          waits_now c.self.inside.rests.items c.args.station c.in_ok-place.place c.index_mut.result.now c.self.invariant.0 found here c.take-item.new.self
          ∙ none_left c.take-item.new.self c.len.result c.len.ensures e) c.self.invariant.2,
    )

pub returns-clause-take : goal.returns-clause-take
returns-clause-take c =
    let found = found_in c.self.inside.rests.items c.as_slice.result.now c.args.station c.in_ok-place.place c.as_slice.ensures.value c.in_ok-place.ensures in
    let here = entry_here c.self.inside.rests.items c.args.station c.in_ok-place.place c.index_mut.result.now found c.index_mut.ensures.value in
    let new : List (Station × List Item) = lists_of (slice_set c.self.inside.rests.items c.in_ok-place.place (c.index_mut.result.now.0, Serial c.take-item.new.self)) in
    subst (λ (b : List (Station × List Item)). MatchOption c.take-item.result ((waiting b c.args.station ≡ []) × (new ≡ b)) (λ item. waiting b c.args.station ≡ item ∷ waiting new c.args.station))
    c.self.view_is
    (takes c.self.inside.rests.items c.args.station c.in_ok-place.place c.index_mut.result.now c.self.invariant.0 found here
    c.in-Serial.queue c.take-item.new.self c.in-Serial.is c.take-item.result c.take-item.ensures)

pub returns-clause-others : goal.returns-clause-others
returns-clause-others c =
    let found = found_in c.self.inside.rests.items c.as_slice.result.now c.args.station c.in_ok-place.place c.as_slice.ensures.value c.in_ok-place.ensures in
    let here = entry_here c.self.inside.rests.items c.args.station c.in_ok-place.place c.index_mut.result.now found c.index_mut.ensures.value in
    let new : List (Station × List Item) = lists_of (slice_set c.self.inside.rests.items c.in_ok-place.place (c.index_mut.result.now.0, Serial c.take-item.new.self)) in
    subst (λ (b : List (Station × List Item)). ChangesOnly b new c.args.station) c.self.view_is
    (changes c.self.inside.rests.items c.args.station c.in_ok-place.place c.index_mut.result.now c.self.invariant.0 found here c.take-item.new.self)
