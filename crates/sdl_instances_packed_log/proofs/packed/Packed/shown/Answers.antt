use Rattle.std.proofs.Common.{◌≡◌, ◌<◌, ◌≤◌, List, Some, slice_get, length, refl, ap, sym, ◌∙◌, subst}
use Rattle.std.proofs.lemmas.Option.{slice_get_read}
use Rattle.sdl_instances_log.specs.declared.event.Event.TheVariants as event
use Rattle.sdl_instances_packed_log.specs.declared.packed.Note.{Note}
use Rattle.sdl_instances_packed_log.specs.declared.packed.Note.TheVariants as note
use Rattle.sdl_instances_packed_log.specs.Packed.{Log, turns_from}
use Rattle.sdl_instances_packed_log.proofs.Packing.{none_shown, arrival_shown, turn_shown}
use Rattle.sdl_instances_packed_log.proofs.packed.Packed.shown.Goals as goal

pub returns-in_default-clause-none : goal.returns-in_default-clause-none
returns-in_default-clause-none c =
    let p = c.self.inside in
    let past = subst (λ (ns : List Note). length ns ≤ c.args.number) c.deref.ensures.value c.in_default.ensures.lookup.3 in
    subst (λ (l : Log). length l.events ≤ c.args.number) c.self.view_is (none_shown p.notes.items p.heads.items p.actions.items p.done.items c.self.invariant.0 c.args.number past)

pub turn_at-requires-clause-within : goal.turn_at-requires-clause-within
turn_at-requires-clause-within c =
    let p = c.self.inside in
    let look = c.in-Some.ensures.lookup in
    let there = subst (λ (ns : List Note). slice_get ns c.args.number ≡ Some c.in-Some.note.now) c.deref.ensures.value (slice_get_read c.deref.result.now (length c.deref.result.now) c.args.number c.in-Some.note.now refl look.3.0 look.1) in
    let turn = turn_shown p.notes.items p.heads.items p.actions.items p.done.items c.self.invariant.0 c.args.number c.in-Turn.place (there ∙ ap Some c.in-Turn.is) in
    subst (λ hs. c.in-Turn.place < length hs) (sym c.as_slice.ensures.value) turn.0

pub returns-in-Entered-clause-some : goal.returns-in-Entered-clause-some
returns-in-Entered-clause-some c =
    let p = c.self.inside in
    let look = c.in-Some.ensures.lookup in
    let there = subst (λ (ns : List Note). slice_get ns c.args.number ≡ Some c.in-Some.note.now) c.deref.ensures.value (slice_get_read c.deref.result.now (length c.deref.result.now) c.args.number c.in-Some.note.now refl look.3.0 look.1) in
    ap (λ (l : Log). slice_get l.events c.args.number) (sym c.self.view_is)
    ∙ arrival_shown p.notes.items p.heads.items p.actions.items p.done.items c.self.invariant.0 c.args.number (note.Entered c.in-Entered.item c.in-Entered.pid) (event.Entered c.in-Entered.item c.in-Entered.pid) (there ∙ ap Some c.in-Entered.is) refl

pub returns-in-Discarded-clause-some : goal.returns-in-Discarded-clause-some
returns-in-Discarded-clause-some c =
    let p = c.self.inside in
    let look = c.in-Some.ensures.lookup in
    let there = subst (λ (ns : List Note). slice_get ns c.args.number ≡ Some c.in-Some.note.now) c.deref.ensures.value (slice_get_read c.deref.result.now (length c.deref.result.now) c.args.number c.in-Some.note.now refl look.3.0 look.1) in
    ap (λ (l : Log). slice_get l.events c.args.number) (sym c.self.view_is)
    ∙ arrival_shown p.notes.items p.heads.items p.actions.items p.done.items c.self.invariant.0 c.args.number (note.Discarded c.in-Discarded.item c.in-Discarded.cause) (event.Discarded c.in-Discarded.item c.in-Discarded.cause) (there ∙ ap Some c.in-Discarded.is) refl

pub returns-in-Turn-clause-some : goal.returns-in-Turn-clause-some
returns-in-Turn-clause-some c =
    let p = c.self.inside in
    let look = c.in-Some.ensures.lookup in
    let there = subst (λ (ns : List Note). slice_get ns c.args.number ≡ Some c.in-Some.note.now) c.deref.ensures.value (slice_get_read c.deref.result.now (length c.deref.result.now) c.args.number c.in-Some.note.now refl look.3.0 look.1) in
    let turn = turn_shown p.notes.items p.heads.items p.actions.items p.done.items c.self.invariant.0 c.args.number c.in-Turn.place (there ∙ ap Some c.in-Turn.is) in
    ap (λ (l : Log). slice_get l.events c.args.number) (sym c.self.view_is)
    ∙ (turn.1
    ∙ (ap (λ hs. slice_get (turns_from 0 0 hs p.actions.items p.done.items) c.in-Turn.place) (sym c.as_slice.ensures.value)
    ∙ (ap (λ xs. slice_get (turns_from 0 0 c.as_slice.result.now xs p.done.items) c.in-Turn.place) (sym c.as_slice-in-Turn.ensures.value)
    ∙ (ap (λ ds. slice_get (turns_from 0 0 c.as_slice.result.now c.as_slice-in-Turn.result.now ds) c.in-Turn.place) (sym c.as_slice-in-Turn-2.ensures.value)
    ∙ c.turn_at.ensures))))
