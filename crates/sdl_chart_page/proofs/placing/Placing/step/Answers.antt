use Rattle.std.proofs.Common.{◌≡◌, ◌∙◌, ℕ, ◌<◌, ◌≤◌, List, Some, length, get_or, refl, ap, sym, subst}
use Rattle.sdl_chart_page.specs.declared.page.Row.{Row}
use Rattle.sdl_chart_page.specs.declared.page.Standing.{Standing}
use Rattle.sdl_chart_page.specs.Entries.{Entry, entries_of, entry_at, entry_seen}
use Rattle.sdl_chart_page.specs.Pages.{IsUnderWay, IsDue}
use Rattle.sdl_chart_page.proofs.Going.{list_inside, number_few, waited}
use Rattle.sdl_chart_page.proofs.Texts.{on_ok, same_items}
use Rattle.sdl_chart_page.proofs.placing.Placing.step.Goals as goal

pub returns-else-due : goal.returns-else-due
returns-else-due g c =
    let old = c.args.self.now in
    let new = c.is_due.new.self in
    waited (entries_of g.K.LogStore.events c.args.lists.now) old.rows.items new.rows.items old.next.items new.next.items old.places new.places
    (same_items new.rows old.rows c.is_due.ensures.rows) (same_items new.next old.next c.is_due.ensures.next) c.is_due.ensures.same c.requires

pub put_on-requires-clause-list : goal.put_on-requires-clause-list
put_on-requires-clause-list g c =
    let old = c.args.self.now in
    subst (λ (l : List ℕ). c.args.list < length l) (sym (same_items c.is_due.new.self.next old.next c.is_due.ensures.next))
    (list_inside (entries_of g.K.LogStore.events c.args.lists.now) old.rows.items old.next.items old.places c.args.list c.placed.result (entry_seen c.in-Some.seen) c.requires c.in-Some.ensures.some)

pub put_on-requires-clause-few : goal.put_on-requires-clause-few
put_on-requires-clause-few g c =
    let old = c.args.self.now in
    subst (λ (x : List ℕ × List Row). get_or x.0 c.args.list 0 ≤ length x.1)
    (λ i. (sym (same_items c.is_due.new.self.next old.next c.is_due.ensures.next) i, sym (same_items c.is_due.new.self.rows old.rows c.is_due.ensures.rows) i))
    (number_few (entries_of g.K.LogStore.events c.args.lists.now) old.rows.items old.next.items old.places c.args.list (get_or old.next.items c.args.list 0) c.requires refl)

pub put_on-requires-clause-due : goal.put_on-requires-clause-due
put_on-requires-clause-due g c =
    let due = c.in_ok-due.ensures.due c.if-due.true in
    subst (λ (ps : List (List Standing)). IsDue c.in-Some.seen ps) (sym due.0) due.1

pub returns-then-due : goal.returns-then-due
returns-then-due g c =
    let lists = entries_of g.K.LogStore.events c.args.lists.now in
    let old = c.args.self.now in
    let mid = c.is_due.new.self in
    let new = c.put_on.new.self in
    let next = same_items mid.next old.next c.is_due.ensures.next in
    on_ok c.put_on.result
    ((lists : List (List Entry)) → IsUnderWay lists mid.rows.items mid.next.items mid.places
    → entry_at lists c.args.list (get_or mid.next.items c.args.list 0) ≡ Some (entry_seen c.in-Some.seen) → IsUnderWay lists new.rows.items new.next.items new.places)
    (IsUnderWay lists new.rows.items new.next.items new.places)
    (λ on. on lists
    (waited lists old.rows.items mid.rows.items old.next.items mid.next.items old.places mid.places (same_items mid.rows old.rows c.is_due.ensures.rows) next c.is_due.ensures.same c.requires)
    (ap (λ (l : List ℕ). entry_at lists c.args.list (get_or l c.args.list 0)) next ∙ (ap (entry_at lists c.args.list) (sym c.placed.ensures) ∙ c.in-Some.ensures.some)))
    c.put_on.ensures.way
