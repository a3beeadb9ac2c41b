use Rattle.std.proofs.Common.{List, subst, sym, ◌∙◌}
use Rattle.sdl_chart_page.specs.declared.page.Row.{Row}
use Rattle.sdl_chart_page.specs.declared.page.Standing.{Standing}
use Rattle.sdl_chart_page.specs.Entries.{entries_of}
use Rattle.sdl_chart_page.specs.Pages.{IsUnderWay}
use Rattle.sdl_chart_page.proofs.Going.{page_empty}
use Rattle.sdl_chart_page.proofs.placing.Placing.new.Goals as goal

pub returns : goal.returns
returns g c =
    let lists = entries_of g.K.LogStore.events c.args.lists.now in
    subst (λ (x : List Row × List (List Standing)). IsUnderWay lists x.0 c.in_ok-next.next.items x.1) (λ i. (sym c.in_ok-rows.ensures.items i, sym c.new.ensures i))
    (page_empty lists c.in_ok-next.next.items (c.in_ok-next.ensures.length ∙ c.in-Some.ensures) c.in_ok-next.ensures.noughts)
