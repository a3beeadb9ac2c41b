use Rattle.std.proofs.Common.{◌≡◌, ◌∙◌, ℕ, ◌+◌, ◌≤◌, List, [], ◌∷◌, ◌++◌, Some, length, get_or, set, ap, sym, subst}
use Rattle.sdl_chart_page.specs.declared.page.Row.{Row}
use Rattle.sdl_chart_page.specs.declared.page.Standing.{Standing}
use Rattle.sdl_chart_page.specs.Entries.{Entry, entry_at, entry_seen}
use Rattle.sdl_chart_page.specs.Pages.{IsUnderWay, AreNoted}
use Rattle.sdl_chart_page.proofs.Going.{seen_on}
use Rattle.sdl_chart_page.proofs.Texts.{on_ok, ok_of, same_items}
use Rattle.sdl_chart_page.proofs.placing.Placing.put_on.Goals as goal

pub go_on-requires-clause-few : goal.go_on-requires-clause-few
go_on-requires-clause-few c = subst (λ (n : ℕ). n ≤ length c.args.self.now.rows.items) (sym c.placed-number.ensures) c.requires.few

pub returns-clause-way : goal.returns-clause-way
returns-clause-way c =
    let old = c.args.self.now in
    let went = c.go_on.new.self in
    let new = c.note_seen.new.self in
    let e = c.args.seen.now in
    let number = c.placed-number.result in
    let r : Row = record { list = c.args.list; number = number } in
    let rows : new.rows.items ≡ old.rows.items ++ r ∷ [] = same_items new.rows went.rows c.note_seen.ensures.rows ∙ c.in_ok-row.ensures.rows in
    let next : new.next.items ≡ set old.next.items c.args.list (number + 1) = same_items new.next went.next c.note_seen.ensures.next ∙ c.in_ok-row.ensures.next in
    on_ok c.note_seen.result (AreNoted c.in_ok-row.row 0 (entry_seen e).sent went.places new.places)
    ((lists : List (List Entry)) → IsUnderWay lists old.rows.items old.next.items old.places
    → entry_at lists c.args.list (get_or old.next.items c.args.list 0) ≡ Some (entry_seen e) → IsUnderWay lists new.rows.items new.next.items new.places)
    (λ noted. λ lists way at.
    seen_on lists old.rows.items new.rows.items old.next.items new.next.items old.places new.places c.args.list number e rows next c.requires.due
    (subst (λ (n : ℕ). AreNoted n 0 (entry_seen e).sent old.places new.places) c.in_ok-row.ensures.row
    (subst (λ (ps : List (List Standing)). AreNoted c.in_ok-row.row 0 (entry_seen e).sent ps new.places) c.go_on.ensures.places noted))
    way c.placed-number.ensures (ap (entry_at lists c.args.list) c.placed-number.ensures ∙ at))
    c.note_seen.ensures.noted

pub returns-clause-next : goal.returns-clause-next
returns-clause-next c =
    let old = c.args.self.now in
    ok_of c.note_seen.result (c.note_seen.new.self.next.items ≡ set old.next.items c.args.list (get_or old.next.items c.args.list 0 + 1))
    (same_items c.note_seen.new.self.next c.go_on.new.self.next c.note_seen.ensures.next
    ∙ (c.in_ok-row.ensures.next ∙ ap (λ (n : ℕ). set old.next.items c.args.list (n + 1)) c.placed-number.ensures))
