use Rattle.std.proofs.Common.{◌≡◌, [], ◌∷◌, ◌++◌, sym, ap, ◌∙◌, arith}
use Rattle.std.proofs.lemmas.List.{nil_from_length}
use Rattle.rtrb.specs.Ring.{received, known_items}
use Rattle.sdl_queue_ring.specs.Batches.{items_of, without}
use Rattle.sdl_queue_ring.proofs.Batches.{one_more, of_none, without_is, ends_so, split, behind, counted, longer}
use Rattle.sdl_queue_ring.proofs.ring.RingTap.take_into.Goals as goal

pub invariant_of-self : goal.invariant_of-self
invariant_of-self c =
    let all = items_of (received c.self.inside.consumer) in
    let before = without all c.self.inside.rest.items in
    let left = c.pop_front.new.self.items in
    let x = c.in-Some.item in
    let e = split all c.self.inside.rest.items left x c.self.invariant.0 c.in-Some.ensures.items in (
      ends_so all (before ++ x ∷ []) left e,
      counted c.self.inside.count _ _ _ c.self.invariant.1 (longer before _ x (without_is all (before ++ x ∷ []) left e)) c.saturating_add-self-inside.ensures,
    )

all_more : (c : goal.After-self-in-Ok-1) → (without (items_of (received c.self.inside.consumer)) c.self.inside.rest.items ++ c.in-Ok.field-0.first ∷ []) ++ c.in-Ok.field-0.rest.items ≡ items_of (received c.pop.new.self)
all_more c =
    let none = nil_from_length c.self.inside.rest.items (omega (arith, c.in_default.ensures.cases.0, c.self.inside.rest.ok.0)) in
    behind (items_of (received c.self.inside.consumer)) (items_of (received c.pop.new.self)) c.self.inside.rest.items c.in-Ok.field-0.rest.items c.in-Ok.field-0.first c.self.invariant.0 none
    (ap items_of c.in-Ok.ensures.ok.0 ∙ one_more (received c.self.inside.consumer) c.in-Ok.field-0)

pub invariant_of-self-in-Ok : goal.invariant_of-self-in-Ok
invariant_of-self-in-Ok c =
    let before = without (items_of (received c.self.inside.consumer)) c.self.inside.rest.items in
    let new = items_of (received c.pop.new.self) in
    let left = c.in-Ok.field-0.rest.items in
    let x = c.in-Ok.field-0.first in (
      ends_so new (before ++ x ∷ []) left (all_more c),
      counted c.self.inside.count _ _ _ c.self.invariant.1 (longer before _ x (without_is new (before ++ x ∷ []) left (all_more c))) c.saturating_add-self-inside-in-Ok.ensures,
    )

pub returns-in-Ok-clause-taken : goal.returns-in-Ok-clause-taken
returns-in-Ok-clause-taken c =
    let before = without (items_of (received c.self.inside.consumer)) c.self.inside.rest.items in
    without_is (items_of (received c.pop.new.self)) (before ++ c.in-Ok.field-0.first ∷ []) c.in-Ok.field-0.rest.items (all_more c) ∙ ap (λ v. v.taken ++ c.in-Ok.field-0.first ∷ []) c.self.view_is

pub returns-in_default-pop-clause-taken : goal.returns-in_default-pop-clause-taken
returns-in_default-pop-clause-taken c =
    let old = c.self.inside.rest.items in
    let new = c.pop_front.new.self.items in
    let none = nil_from_length old (omega (arith, c.in_default.ensures.cases.0, c.self.inside.rest.ok.0)) in
    let none' = nil_from_length new (omega (arith, c.in_default.ensures.cases.1, c.pop_front.new.self.ok.0)) in
    rw (c.requires.none) (
      ap (λ r. without (items_of r) new) c.in_default-pop.ensures.empty.0 ∙ ap (λ t. without (items_of (received c.self.inside.consumer)) t) (none' ∙ sym none) ∙ ap (λ v. v.taken) c.self.view_is,
      ap (λ t. t ++ items_of (known_items c.pop.new.self)) none' ∙ of_none (known_items c.pop.new.self) c.in_default-pop.ensures.empty.1,
    )
