use Rattle.std.proofs.Common.{◌<◌, List, length, slice_get, ap, sym, ◌∙◌, arith}
use Rattle.sdl_instances_log.specs.declared.event.Event.{Event}
use Rattle.sdl_chart_page.proofs.Listed.{stored_at}
use Rattle.sdl_chart_msc.proofs.Shown.{shown_is, log_at, none_at}
use Rattle.sdl_chart_msc.proofs.rows.event_of.Goals as goal

pub returns-then-list-logs : goal.returns-then-list-logs
returns-then-list-logs g c =
    let log = c.index-logs-list.result in
    let less : c.args.list < length c.args.logs.now = omega (arith, c.if-list-logs.true) in
    let stored = stored_at g.K.Shows.stores c.args.logs.now c.args.list log less c.index-logs-list.is c.requires in
    shown_is (g.K.LogStore.events log) c.args.number c.event.result c.event.ensures.some (c.event.ensures.none stored)
    ∙ ap (λ (es : List Event). slice_get es c.args.number) (sym (log_at g.K.LogStore.events c.args.logs.now c.args.list c.args.number log less c.index-logs-list.is))

pub returns-else-list-logs : goal.returns-else-list-logs
returns-else-list-logs g c = sym (none_at g.K.LogStore.events c.args.logs.now c.args.list c.args.number (omega (arith, c.if-list-logs.false)))
