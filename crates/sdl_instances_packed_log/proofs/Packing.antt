-- What is kept of a log, after one more event.
use Rattle.std.proofs.Common.{◌≡◌, ℕ, zero, suc, ◌+◌, ◌-◌, ◌<◌, ◌≤◌, List, [], ◌∷◌, ◌++◌, length, take, drop, slice_range, length-append, slice_get, Option, Some, refl, ap, ap₂, sym, ◌∙◌, subst, arith}
use Rattle.std.proofs.Common.{take_all, drop_at}
use Rattle.std.specs.Prelude.{⊤}
use Rattle.std.proofs.lemmas.Option.{none-some, same_Some}
use Rattle.std.proofs.lemmas.List.{take-append-le, drop-append-le, length-drop}
use Rattle.sdl_transition_behaviour.specs.declared.step.Action.{Action}
use Rattle.sdl_instances_log.specs.declared.event.Event.{Event}
use Rattle.sdl_instances_log.specs.declared.event.Event.TheVariants as event
use Rattle.sdl_instances_log.specs.declared.event.Done.{Done}
use Rattle.sdl_instances_packed_log.specs.declared.packed.Note.{Note}
use Rattle.sdl_instances_packed_log.specs.declared.packed.Note.TheVariants as note
use Rattle.sdl_instances_packed_log.specs.declared.packed.Head.{Head}
use Rattle.sdl_instances_packed_log.specs.Packed.{turn_of, turns_from, AreHeads, begins, events_of, AreNotes, AreParts, events_in}

-- a part of a list is the same where the list is longer
same_part : {X : Type 0} (xs ys : List X) (from to : ℕ) → from ≤ to → to ≤ length xs → slice_range (xs ++ ys) from to ≡ slice_range xs from to
same_part xs ys from to ordered within =
    ap (take (to - from)) (drop-append-le from xs ys (omega (arith, ordered, within)))
    ∙ take-append-le (to - from) (drop from xs) ys (let n = length-drop from xs in omega (arith, n, ordered, within))

-- what was added to a list
added_part : {X : Type 0} (xs ys : List X) (from to : ℕ) → from ≡ length xs → to ≡ length xs + length ys → slice_range (xs ++ ys) from to ≡ ys
added_part xs ys from to e f = ap (take (to - from)) (drop_at xs ys from (sym e)) ∙ take_all (to - from) ys (omega (arith, e, f))

heads_within : (a d : ℕ) (hs : List Head) (actions done : ℕ) → AreHeads a d hs actions done → (a ≤ actions) × (d ≤ done)
heads_within a d [] actions done h = (omega (arith, h.0), omega (arith, h.1))
heads_within a d (head ∷ hs) actions done h = let rest = heads_within head.actions_end head.done_end hs actions done h.2 in (omega (arith, h.0, rest.0), omega (arith, h.1, rest.1))

-- the turns are the same where the lists of all turns are longer
same_turns : (a d : ℕ) (hs : List Head) (actions more : List Action) (done added : List Done) → AreHeads a d hs (length actions) (length done)
    → turns_from a d hs (actions ++ more) (done ++ added) ≡ turns_from a d hs actions done
same_turns a d [] actions more done added h = refl
same_turns a d (head ∷ hs) actions more done added h =
    let rest = heads_within head.actions_end head.done_end hs (length actions) (length done) h.2 in
    ap₂ (λ (t : Event) (ts : List Event). t ∷ ts)
    (ap₂ (turn_of head) (same_part actions more a head.actions_end h.0 rest.0) (same_part done added d head.done_end h.1 rest.1))
    (same_turns head.actions_end head.done_end hs actions more done added h.2)

-- the turns with one more, whose lists were added to those of all turns
pub turns_more : (a d : ℕ) (hs : List Head) (h : Head) (actions more : List Action) (done added : List Done) → AreHeads a d hs (length actions) (length done)
    → h.actions_end ≡ length actions + length more → h.done_end ≡ length done + length added
    → turns_from a d (hs ++ h ∷ []) (actions ++ more) (done ++ added) ≡ turns_from a d hs actions done ++ turn_of h more added ∷ []
turns_more a d [] h actions more done added are e f =
    ap₂ (λ xs ys. turn_of h xs ys ∷ []) (added_part actions more a h.actions_end are.0 e) (added_part done added d h.done_end are.1 f)
turns_more a d (head ∷ hs) h actions more done added are e f =
    let rest = heads_within head.actions_end head.done_end hs (length actions) (length done) are.2 in
    ap₂ (λ (t : Event) (ts : List Event). t ∷ ts)
    (ap₂ (turn_of head) (same_part actions more a head.actions_end are.0 rest.0) (same_part done added d head.done_end are.1 rest.1))
    (turns_more head.actions_end head.done_end hs h actions more done added are.2 e f)

pub heads_more : (a d : ℕ) (hs : List Head) (h : Head) (actions done : ℕ) → AreHeads a d hs actions done → actions ≤ h.actions_end → done ≤ h.done_end
    → AreHeads a d (hs ++ h ∷ []) h.actions_end h.done_end
heads_more a d [] h actions done are e f = (omega (arith, are.0, e), omega (arith, are.1, f), (refl, refl))
heads_more a d (head ∷ hs) h actions done are e f = (are.0, are.1, heads_more head.actions_end head.done_end hs h actions done are.2 e f)

pub turns_length : (a d : ℕ) (hs : List Head) (actions : List Action) (done : List Done) → length (turns_from a d hs actions done) ≡ length hs
turns_length a d [] actions done = refl
turns_length a d (head ∷ hs) actions done = ap suc (turns_length head.actions_end head.done_end hs actions done)

notes_within : (from : ℕ) (ns : List Note) (end : ℕ) → AreNotes from ns end → from ≤ end
notes_within from [] end h = omega (arith, h)
notes_within from (note.Entered i p ∷ ns) end h = notes_within from ns end h
notes_within from (note.Discarded i c ∷ ns) end h = notes_within from ns end h
notes_within from (note.Turn place ∷ ns) end h = let rest = notes_within (from + 1) ns end h.1 in omega (arith, rest)

-- a note that names no turn
abbrev NamesNone : Note → Type 0
NamesNone (note.Entered i p) = ⊤
NamesNone (note.Discarded i c) = ⊤
NamesNone (note.Turn place) = ⊥

no_turn : (n : Note) (place : ℕ) → NamesNone n → n ≡ note.Turn place → ⊥
no_turn n place none e = subst NamesNone e none

place_in : ℕ → Note → ℕ
place_in other (note.Entered i p) = other
place_in other (note.Discarded i c) = other
place_in other (note.Turn place) = place

same_place : (a b : ℕ) → note.Turn a ≡ note.Turn b → a ≡ b
unfolding place_in
same_place a b e = ap (place_in a) e

next : (t : Event) (turns : List Event) (n : ℕ) → slice_get turns n ≡ slice_get (t ∷ turns) (n + 1)
next t turns n = let e : suc n ≡ n + 1 = omega arith in ap (slice_get (t ∷ turns)) e

-- a note that names no turn, and the event that it keeps
abbrev pub IsArrival : Note → Event → Type 0
IsArrival (note.Entered i p) e = e ≡ event.Entered i p
IsArrival (note.Discarded i c) e = e ≡ event.Discarded i c
IsArrival (note.Turn place) e = ⊥

pub notes_arrival : (from : ℕ) (ns : List Note) (n : Note) (e : Event) (end : ℕ) → IsArrival n e → AreNotes from ns end → AreNotes from (ns ++ n ∷ []) end
notes_arrival from [] (note.Entered i p) e end is h = h
notes_arrival from [] (note.Discarded i c) e end is h = h
notes_arrival from [] (note.Turn place) e end is h = absurd is
notes_arrival from (note.Entered i p ∷ ns) n e end is h = notes_arrival from ns n e end is h
notes_arrival from (note.Discarded i c ∷ ns) n e end is h = notes_arrival from ns n e end is h
notes_arrival from (note.Turn place ∷ ns) n e end is h = (h.0, notes_arrival (from + 1) ns n e end is h.1)

pub notes_turn : (from : ℕ) (ns : List Note) (place end : ℕ) → place ≡ end → AreNotes from ns end → AreNotes from (ns ++ note.Turn place ∷ []) (end + 1)
notes_turn from [] place end e h = (omega (arith, e, h), omega (arith, h))
notes_turn from (note.Entered i p ∷ ns) place end e h = notes_turn from ns place end e h
notes_turn from (note.Discarded i c ∷ ns) place end e h = notes_turn from ns place end e h
notes_turn from (note.Turn at ∷ ns) place end e h = (h.0, notes_turn (from + 1) ns place end e h.1)

pub events_arrival : (from : ℕ) (ns : List Note) (turns : List Event) (n : Note) (e : Event) → IsArrival n e → AreNotes from ns (from + length turns)
    → events_of (ns ++ n ∷ []) turns ≡ events_of ns turns ++ e ∷ []
events_arrival from [] turns (note.Entered i p) e is h = ap (λ (x : Event). x ∷ []) (sym is)
events_arrival from [] turns (note.Discarded i c) e is h = ap (λ (x : Event). x ∷ []) (sym is)
events_arrival from [] turns (note.Turn place) e is h = absurd is
events_arrival from (note.Entered i p ∷ ns) turns n e is h = ap (λ (es : List Event). event.Entered i p ∷ es) (events_arrival from ns turns n e is h)
events_arrival from (note.Discarded i c ∷ ns) turns n e is h = ap (λ (es : List Event). event.Discarded i c ∷ es) (events_arrival from ns turns n e is h)
events_arrival from (note.Turn place ∷ ns) [] n e is h = let w = notes_within (from + 1) ns (from + 0) h.1 in absurd (omega (arith, w))
events_arrival from (note.Turn place ∷ ns) (t ∷ turns) n e is h =
    ap (λ (es : List Event). t ∷ es) (events_arrival (from + 1) ns turns n e is (subst (AreNotes (from + 1) ns) (omega arith) h.1))

pub events_turn : (from : ℕ) (ns : List Note) (turns : List Event) (place : ℕ) (t : Event) → AreNotes from ns (from + length turns)
    → events_of (ns ++ note.Turn place ∷ []) (turns ++ t ∷ []) ≡ events_of ns turns ++ t ∷ []
events_turn from [] [] place t h = refl
events_turn from [] (u ∷ turns) place t h = absurd (omega (arith, h))
events_turn from (note.Entered i p ∷ ns) turns place t h = ap (λ (es : List Event). event.Entered i p ∷ es) (events_turn from ns turns place t h)
events_turn from (note.Discarded i c ∷ ns) turns place t h = ap (λ (es : List Event). event.Discarded i c ∷ es) (events_turn from ns turns place t h)
events_turn from (note.Turn at ∷ ns) [] place t h = let w = notes_within (from + 1) ns (from + 0) h.1 in absurd (omega (arith, w))
events_turn from (note.Turn at ∷ ns) (u ∷ turns) place t h =
    ap (λ (es : List Event). u ∷ es) (events_turn (from + 1) ns turns place t (subst (AreNotes (from + 1) ns) (omega arith) h.1))

pub events_length : (from : ℕ) (ns : List Note) (turns : List Event) → AreNotes from ns (from + length turns) → length (events_of ns turns) ≡ length ns
events_length from [] turns h = refl
events_length from (note.Entered i p ∷ ns) turns h = ap suc (events_length from ns turns h)
events_length from (note.Discarded i c ∷ ns) turns h = ap suc (events_length from ns turns h)
events_length from (note.Turn at ∷ ns) [] h = let w = notes_within (from + 1) ns (from + 0) h.1 in absurd (omega (arith, w))
events_length from (note.Turn at ∷ ns) (t ∷ turns) h = ap suc (events_length (from + 1) ns turns (subst (AreNotes (from + 1) ns) (omega arith) h.1))

-- the number of notes as that of turns says
named : (notes : List Note) (heads : List Head) (actions : List Action) (done : List Done) → AreParts notes heads actions done → AreNotes 0 notes (length (turns_from 0 0 heads actions done))
named notes heads actions done are = subst (AreNotes 0 notes) (sym (turns_length 0 0 heads actions done)) are.notes

from_zero : (ns : List Note) (turns : List Event) → AreNotes 0 ns (length turns) → AreNotes 0 ns (0 + length turns)
from_zero ns turns h = subst (AreNotes 0 ns) (omega arith) h

pub events_counted : (notes : List Note) (heads : List Head) (actions : List Action) (done : List Done) → AreParts notes heads actions done → length (events_in notes heads actions done) ≡ length notes
events_counted notes heads actions done are = events_length 0 notes (turns_from 0 0 heads actions done) (from_zero notes (turns_from 0 0 heads actions done) (named notes heads actions done are))

-- with an arrival more
module _ (notes after : List Note) (heads : List Head) (actions : List Action) (done : List Done) (n : Note) (e : Event) (is : IsArrival n e) (more : after ≡ notes ++ n ∷ []) (are : AreParts notes heads actions done) where
  pub parts_arrived : AreParts after heads actions done
  parts_arrived = record { notes = subst (λ ns. AreNotes 0 ns (length heads)) (sym more) (notes_arrival 0 notes n e (length heads) is are.notes); heads = are.heads }

  pub events_arrived : events_in after heads actions done ≡ events_in notes heads actions done ++ e ∷ []
  events_arrived =
      ap (λ ns. events_in ns heads actions done) more ∙ events_arrival 0 notes (turns_from 0 0 heads actions done) n e is (from_zero notes (turns_from 0 0 heads actions done) (named notes heads actions done are))

-- with a turn more
module _ (notes after : List Note) (heads now : List Head) (actions more longer : List Action) (done added with_added : List Done) (h : Head)
    (notes_are : after ≡ notes ++ note.Turn (length heads) ∷ []) (heads_are : now ≡ heads ++ h ∷ []) (actions_are : longer ≡ actions ++ more) (done_are : with_added ≡ done ++ added)
    (actions_end : h.actions_end ≡ length longer) (done_end : h.done_end ≡ length with_added) (are : AreParts notes heads actions done) where
  acted : h.actions_end ≡ length actions + length more
  acted = actions_end ∙ (ap length actions_are ∙ length-append actions more)

  did : h.done_end ≡ length done + length added
  did = done_end ∙ (ap length done_are ∙ length-append done added)

  pub parts_turned : AreParts after now longer with_added
  parts_turned =
      record {
        notes =
            subst (λ ns. AreNotes 0 ns (length now)) (sym notes_are)
            (subst (AreNotes 0 (notes ++ note.Turn (length heads) ∷ [])) (sym (ap length heads_are ∙ length-append heads (h ∷ []))) (notes_turn 0 notes (length heads) (length heads) refl are.notes));
        heads =
            subst (λ (hs : List Head). AreHeads 0 0 hs (length longer) (length with_added)) (sym heads_are)
            (subst (AreHeads 0 0 (heads ++ h ∷ []) (length longer)) done_end
            (subst (λ (n : ℕ). AreHeads 0 0 (heads ++ h ∷ []) n h.done_end) actions_end
            (heads_more 0 0 heads h (length actions) (length done) are.heads (omega (arith, acted)) (omega (arith, did)))));
      }

  pub events_turned : events_in after now longer with_added ≡ events_in notes heads actions done ++ turn_of h more added ∷ []
  events_turned =
      ap₂ events_of notes_are (ap (λ (hs : List Head). turns_from 0 0 hs longer with_added) heads_are
      ∙ (ap₂ (turns_from 0 0 (heads ++ h ∷ [])) actions_are done_are ∙ turns_more 0 0 heads h actions more done added are.heads acted did))
      ∙ events_turn 0 notes (turns_from 0 0 heads actions done) (length heads) (turn_of h more added) (from_zero notes (turns_from 0 0 heads actions done) (named notes heads actions done are))

-- where the lists of a turn begin, and that they end within those of all turns
pub begins_after : (a d : ℕ) (hs : List Head) (n : ℕ) (h : Head) → slice_get hs n ≡ Some h → begins a d hs (suc n) ≡ (h.actions_end, h.done_end)
begins_after a d [] n h e = absurd (none-some h e)
begins_after a d (x ∷ hs) zero h e = ap (λ (y : Head). (y.actions_end, y.done_end)) (same_Some x h e)
begins_after a d (x ∷ hs) (suc n) h e = begins_after x.actions_end x.done_end hs n h e

pub record IsWithin (from : ℕ × ℕ) (h : Head) (actions done : ℕ) : Type 0 where
  pub actions_begin : from.0 ≤ h.actions_end
  pub actions_end : h.actions_end ≤ actions
  pub done_begin : from.1 ≤ h.done_end
  pub done_end : h.done_end ≤ done

pub turn_within : (a d : ℕ) (hs : List Head) (actions done n : ℕ) (h : Head) → AreHeads a d hs actions done → slice_get hs n ≡ Some h → IsWithin (begins a d hs n) h actions done
turn_within a d [] actions done n h are e = absurd (none-some h e)
turn_within a d (x ∷ hs) actions done zero h are e =
    let rest = heads_within x.actions_end x.done_end hs actions done are.2 in
    subst (λ (y : Head). IsWithin (a, d) y actions done) (same_Some x h e) (record { actions_begin = are.0; actions_end = rest.0; done_begin = are.1; done_end = rest.1 })
turn_within a d (x ∷ hs) actions done (suc n) h are e = turn_within x.actions_end x.done_end hs actions done n h are.2 e

pub turn_there : (a d : ℕ) (hs : List Head) (actions : List Action) (done : List Done) (n : ℕ) (h : Head) → slice_get hs n ≡ Some h
    → slice_get (turns_from a d hs actions done) n ≡ Some (turn_of h (slice_range actions (begins a d hs n).0 h.actions_end) (slice_range done (begins a d hs n).1 h.done_end))
turn_there a d [] actions done n h e = absurd (none-some h e)
turn_there a d (x ∷ hs) actions done zero h e = ap (λ (y : Head). Some (turn_of y (slice_range actions a y.actions_end) (slice_range done d y.done_end))) (same_Some x h e)
turn_there a d (x ∷ hs) actions done (suc n) h e = turn_there x.actions_end x.done_end hs actions done n h e

-- what stands at a place of the notes, and of the events
pub no_event : (from : ℕ) (ns : List Note) (turns : List Event) (n : ℕ) → AreNotes from ns (from + length turns) → length ns ≤ n → length (events_of ns turns) ≤ n
no_event from ns turns n are h = let l = events_length from ns turns are in omega (arith, l, h)

pub event_arrival : (from : ℕ) (ns : List Note) (turns : List Event) (n : ℕ) (x : Note) (e : Event) → AreNotes from ns (from + length turns) → slice_get ns n ≡ Some x → IsArrival x e
    → slice_get (events_of ns turns) n ≡ Some e
event_arrival from [] turns n x e are h is = absurd (none-some x h)
event_arrival from (note.Entered i p ∷ ns) turns zero x e are h is = ap Some (sym (subst (λ (y : Note). IsArrival y e) (sym (same_Some (note.Entered i p) x h)) is))
event_arrival from (note.Discarded i c ∷ ns) turns zero x e are h is = ap Some (sym (subst (λ (y : Note). IsArrival y e) (sym (same_Some (note.Discarded i c) x h)) is))
event_arrival from (note.Turn place ∷ ns) turns zero x e are h is = absurd (subst (λ (y : Note). IsArrival y e) (sym (same_Some (note.Turn place) x h)) is)
event_arrival from (note.Entered i p ∷ ns) turns (suc n) x e are h is = event_arrival from ns turns n x e are h is
event_arrival from (note.Discarded i c ∷ ns) turns (suc n) x e are h is = event_arrival from ns turns n x e are h is
event_arrival from (note.Turn place ∷ ns) [] (suc n) x e are h is = let w = notes_within (from + 1) ns (from + 0) are.1 in absurd (omega (arith, w))
event_arrival from (note.Turn place ∷ ns) (t ∷ turns) (suc n) x e are h is = event_arrival (from + 1) ns turns n x e (subst (AreNotes (from + 1) ns) (omega arith) are.1) h is

-- the turn that a note names: its place among those from the first on
abbrev pub IsTurn : ℕ → List Event → ℕ → Option Event → Type 0
IsTurn from turns place e = (k : ℕ) × (place ≡ from + k) × (k < length turns) × (e ≡ slice_get turns k)

pub event_turn : (from : ℕ) (ns : List Note) (turns : List Event) (n place : ℕ) → AreNotes from ns (from + length turns) → slice_get ns n ≡ Some (note.Turn place)
    → IsTurn from turns place (slice_get (events_of ns turns) n)
event_turn from [] turns n place are h = absurd (none-some (note.Turn place) h)
event_turn from (note.Entered i p ∷ ns) turns zero place are h = absurd (no_turn (note.Entered i p) place tt (same_Some (note.Entered i p) (note.Turn place) h))
event_turn from (note.Discarded i c ∷ ns) turns zero place are h = absurd (no_turn (note.Discarded i c) place tt (same_Some (note.Discarded i c) (note.Turn place) h))
event_turn from (note.Turn at ∷ ns) [] n place are h = let w = notes_within (from + 1) ns (from + 0) are.1 in absurd (omega (arith, w))
event_turn from (note.Turn at ∷ ns) (t ∷ turns) zero place are h = (0, let e = same_place at place (same_Some (note.Turn at) (note.Turn place) h) in omega (arith, e, are.0), omega arith, refl)
event_turn from (note.Entered i p ∷ ns) turns (suc n) place are h = event_turn from ns turns n place are h
event_turn from (note.Discarded i c ∷ ns) turns (suc n) place are h = event_turn from ns turns n place are h
event_turn from (note.Turn at ∷ ns) (t ∷ turns) (suc n) place are h =
    let rest = event_turn (from + 1) ns turns n place (subst (AreNotes (from + 1) ns) (omega arith) are.1) h in
    (rest.0 + 1, omega (arith, rest.1), omega (arith, rest.2), rest.3 ∙ next t turns rest.0)

module _ (notes : List Note) (heads : List Head) (actions : List Action) (done : List Done) (are : AreParts notes heads actions done) (n : ℕ) where
  pub none_shown : length notes ≤ n → length (events_in notes heads actions done) ≤ n
  none_shown h = let l = events_counted notes heads actions done are in omega (arith, l, h)

  pub arrival_shown : (x : Note) (e : Event) → slice_get notes n ≡ Some x → IsArrival x e → slice_get (events_in notes heads actions done) n ≡ Some e
  arrival_shown x e h is = event_arrival 0 notes (turns_from 0 0 heads actions done) n x e (from_zero notes (turns_from 0 0 heads actions done) (named notes heads actions done are)) h is

  pub turn_shown : (place : ℕ) → slice_get notes n ≡ Some (note.Turn place)
      → (place < length heads) × (slice_get (events_in notes heads actions done) n ≡ slice_get (turns_from 0 0 heads actions done) place)
  turn_shown place h =
      let r = event_turn 0 notes (turns_from 0 0 heads actions done) n place (from_zero notes (turns_from 0 0 heads actions done) (named notes heads actions done are)) h in
      let l = turns_length 0 0 heads actions done in
      let same : r.0 ≡ place = omega (arith, r.1) in
      (omega (arith, r.1, r.2, l), r.3 ∙ ap (slice_get (turns_from 0 0 heads actions done)) same)
