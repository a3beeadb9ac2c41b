use Rattle.std.proofs.Common.{◌≡◌, ◌∙◌, Some, ap, sym, subst}
use Rattle.std.proofs.lemmas.Option.{same_Some}
use Rattle.sdl_chart_page.specs.Entries.{Entry, entries_of, entry_at, entry_seen}
use Rattle.sdl_chart_page.specs.Pages.{HasCome}
use Rattle.sdl_chart_page.proofs.Going.{due_come, not_past}
use Rattle.sdl_chart_page.proofs.placing.Placing.due_in.Goals as goal

pub returns-in-None-clause-stuck : goal.returns-in-None-clause-stuck
returns-in-None-clause-stuck g c = λ stored. λ e at come.
    let lists = entries_of g.K.LogStore.events c.args.lists.now in
    not_past lists c.args.list c.placed.result e (c.in-None.ensures.none stored) (ap (entry_at lists c.args.list) c.placed.ensures ∙ at)

pub returns-then-is_output-clause-next : goal.returns-then-is_output-clause-next
returns-then-is_output-clause-next g c = ap (entry_at (entries_of g.K.LogStore.events c.args.lists.now) c.args.list) (sym c.placed.ensures) ∙ c.in-Some.ensures.some

pub returns-else-is_output-clause-stuck : goal.returns-else-is_output-clause-stuck
returns-else-is_output-clause-stuck g c = λ stored. λ e at come.
    let lists = entries_of g.K.LogStore.events c.args.lists.now in
    let places = c.args.self.now.places in
    let seen = entry_seen c.in-Some.seen in
    let here : entry_at lists c.args.list c.placed.result ≡ Some e = ap (entry_at lists c.args.list) c.placed.ensures ∙ at in
    let same = same_Some seen e (◌∙◌ {b = entry_at lists c.args.list c.placed.result} (sym c.in-Some.ensures.some) here) in
    c.is_output.ensures.no c.if-is_output.false (due_come c.in-Some.seen places (subst (λ (x : Entry). HasCome x places) (sym same) come))
