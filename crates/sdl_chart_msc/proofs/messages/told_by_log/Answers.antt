use Rattle.std.proofs.Common.{option_and_then, ap, ◌∙◌}
use Rattle.sdl_chart_msc.specs.Messages.{told_by_event}
use Rattle.sdl_chart_msc.proofs.messages.told_by_log.Goals as goal

pub returns-in-Some : goal.returns-in-Some
returns-in-Some g c = c.told_by_event.ensures ∙ ap (option_and_then told_by_event) c.in-Some.ensures

pub returns-in-None : goal.returns-in-None
returns-in-None g c = ap (option_and_then told_by_event) c.in-None.ensures
