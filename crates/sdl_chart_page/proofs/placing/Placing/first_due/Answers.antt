use Rattle.std.proofs.Common.{◌≡◌, ℕ, ◌<◌, length, vec_len, get_or, sym, subst, arith}
use Rattle.sdl_chart_page.specs.Entries.{entries_of}
use Rattle.sdl_chart_page.proofs.Going.{list_within}
use Rattle.sdl_chart_page.proofs.placing.Placing.first_due.Goals as goal

pub returns-clause-stuck : goal.returns-clause-stuck
returns-clause-stuck g c = λ stored. λ l e at.
    let lists = entries_of g.K.LogStore.events c.args.lists.now in
    let next = c.args.self.now.next.items in
    let within : l < length next = subst (λ (n : ℕ). l < n) (sym c.requires) (list_within lists l (get_or next l 0) e at) in
    let end : c.len-list-end.result ≡ vec_len c.args.self.now.next = c.len-list-end.ensures in
    let own = c.args.self.now.next.ok.0 in
    c.loop-list.invariant stored l (omega (arith, within, end, own, c.loop-list-test.false)) e at
