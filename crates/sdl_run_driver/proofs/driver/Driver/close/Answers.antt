use Rattle.std.proofs.Common.{◌<◌, List, length, map, MatchOption, ap, sym, ◌∙◌, subst}
use Rattle.sdl_signal.specs.declared.values.Item.{Item}
use Rattle.sdl_routes.specs.declared.route.Station.{Station}
use Rattle.sdl_block.specs.Workers.{worker_of}
use Rattle.sdl_run_outcome.specs.Plan.{workers_of}
use Rattle.sdl_run_order.specs.Driver.{IsIdle, outcome_of}
use Rattle.sdl_run_driver.specs.Drivers.{IsBetweenSteps}
use Rattle.sdl_run_driver.specs.Systems.{plan_of}
use Rattle.sdl_run_driver.proofs.driver.Driver.close.Goals as goal

pub close-requires-clause-driving : goal.close-requires-clause-driving
close-requires-clause-driving g c =
    let d = c.args.self in
    subst (λ (b : List (Station × List Item)). IsBetweenSteps g.S.Agents.may (plan_of d.system) (record { blocks = map worker_of d.system.blocks.items; environment = d.environment; forwarders = d.forwarders.items; board = b }) d.system.blocks.items)
    (sym c.into_rests.ensures) c.requires.driving

pub close-requires-clause-refused : goal.close-requires-clause-refused
close-requires-clause-refused g c =
    let d = c.args.self in
    subst (λ (b : List (Station × List Item)). MatchOption c.args.refused (IsIdle (record { blocks = map worker_of d.system.blocks.items; environment = d.environment; forwarders = d.forwarders.items; board = b })) (λ w. w < length (workers_of (plan_of d.system))))
    (sym c.into_rests.ensures) c.requires.refused

pub returns-clause-left : goal.returns-clause-left
returns-clause-left g c =
    let d = c.args.self in
    c.close.ensures.left
    ∙ ap (λ (b : List (Station × List Item)). outcome_of (record { blocks = map worker_of d.system.blocks.items; environment = d.environment; forwarders = d.forwarders.items; board = b })) c.into_rests.ensures
