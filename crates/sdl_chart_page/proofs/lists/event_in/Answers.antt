use Rattle.sdl_chart_page.specs.Entries.{entry_of_event}
use Rattle.sdl_chart_page.proofs.Listed.{seen_through}
use Rattle.sdl_chart_page.proofs.lists.event_in.Goals as goal

pub returns-in-Some-clause-some : goal.returns-in-Some-clause-some
returns-in-Some-clause-some g c = seen_through entry_of_event (g.K.LogStore.events c.args.log.now) c.args.number _ _ c.in-Some.ensures.some c.seen_of.ensures
