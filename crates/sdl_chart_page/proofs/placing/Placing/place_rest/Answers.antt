use Rattle.std.proofs.Common.{ℕ, ◌<◌, List, get_or, refl, sym, subst}
use Rattle.sdl_chart_page.specs.Entries.{entries_of, entry_seen}
use Rattle.sdl_chart_page.proofs.Going.{list_inside, number_few}
use Rattle.sdl_chart_page.proofs.Whole.{ahead, ahead_less}
use Rattle.sdl_chart_page.proofs.placing.Placing.place_rest.Goals as goal

pub put_on-requires-clause-list : goal.put_on-requires-clause-list
put_on-requires-clause-list g c =
    let here = c.loop-list.self in
    list_inside (entries_of g.K.LogStore.events c.args.lists.now) here.rows.items here.next.items here.places c.in-Some.list (get_or here.next.items c.in-Some.list 0) (entry_seen c.in-Some.seen)
    c.loop-list.invariant c.in-Some.ensures.next

pub put_on-requires-clause-few : goal.put_on-requires-clause-few
put_on-requires-clause-few g c =
    let here = c.loop-list.self in
    number_few (entries_of g.K.LogStore.events c.args.lists.now) here.rows.items here.next.items here.places c.in-Some.list (get_or here.next.items c.in-Some.list 0) c.loop-list.invariant refl

pub loop-list-preserved : goal.loop-list-preserved
loop-list-preserved g c = c.in_ok-put_on.ensures.way (entries_of g.K.LogStore.events c.args.lists.now) c.loop-list.invariant c.in-Some.ensures.next

pub loop-list-smaller : goal.loop-list-smaller
loop-list-smaller g c =
    let lists = entries_of g.K.LogStore.events c.args.lists.now in
    let here = c.loop-list.self in
    let l = c.in-Some.list in
    subst (λ (next : List ℕ). ahead lists next < ahead lists here.next.items) (sym c.in_ok-put_on.ensures.next)
    (ahead_less lists here.next.items l (entry_seen c.in-Some.seen) c.in-Some.ensures.next
    (list_inside lists here.rows.items here.next.items here.places l (get_or here.next.items l 0) (entry_seen c.in-Some.seen) c.loop-list.invariant c.in-Some.ensures.next))
