use Rattle.std.proofs.Common.{[], ◌++◌, Option, option_map, unwrap_or, ap, sym, ◌∙◌, append-nil}
use Rattle.sdl_instances_log.specs.declared.event.Event.{Event}
use Rattle.sdl_chart_msc.specs.Places.{places_of_event}
use Rattle.sdl_chart_msc.proofs.Written.{on_ok}
use Rattle.sdl_chart_msc.proofs.places.add_row.Goals as goal

pub returns-in-Some : goal.returns-in-Some
returns-in-Some g c =
    on_ok c.add_event.result _ _
    (λ e. e ∙ ap (λ (o : Option Event). c.args.places.now.items ++ unwrap_or (option_map (places_of_event c.args.number) o) []) c.in-Some.ensures) c.add_event.ensures

pub returns-in-None : goal.returns-in-None
returns-in-None g c =
    sym (append-nil _) ∙ ap (λ (o : Option Event). c.args.places.now.items ++ unwrap_or (option_map (places_of_event c.args.number) o) []) c.in-None.ensures
