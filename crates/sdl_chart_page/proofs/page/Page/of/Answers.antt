use Rattle.std.proofs.Common.{List, refl, sym, subst}
use Rattle.sdl_chart_page.specs.declared.page.Row.{Row}
use Rattle.sdl_chart_page.specs.declared.page.Standing.{Standing}
use Rattle.sdl_chart_page.specs.Entries.{entries_of}
use Rattle.sdl_chart_page.specs.Pages.{IsPageOf}
use Rattle.sdl_chart_page.proofs.Going.{page_made}
use Rattle.sdl_chart_page.proofs.Whole.{none_more}
use Rattle.sdl_chart_page.proofs.Texts.{same_items}
use Rattle.sdl_chart_page.proofs.page.Page.of.Goals as goal

pub returns-clause-page : goal.returns-clause-page
returns-clause-page g c =
    let lists = entries_of g.K.LogStore.events c.args.lists.now in
    let made = c.in-Ok.placing in
    let rows = same_items c.into_parts-rows.result.0 made.rows c.into_parts-rows.ensures.rows in
    subst (λ (x : List Row × List (List Standing)). IsPageOf lists (record { rows = x.0; places = x.1 })) (λ i. (sym rows i, sym c.into_parts-rows.ensures.places i))
    (page_made lists made.rows.items made.next.items made.places c.in-Ok.ensures.way)

pub returns-then-not-is_whole-clause-fault : goal.returns-then-not-is_whole-clause-fault
returns-then-not-is_whole-clause-fault g c = λ is stored orderly.
    let made = c.in-Ok.placing in
    none_more (entries_of g.K.LogStore.events c.args.lists.now) made.rows.items made.next.items made.places c.in-Ok.ensures.way (c.in-Ok.ensures.stuck stored) orderly (c.if-not-is_whole.ensures.more refl)
