use Rattle.std.proofs.Common.{None, Some, refl, subst}
use Rattle.sdl_routes.specs.declared.route.Goal.{Goal}
use Rattle.sdl_routes.specs.declared.route.Source.TheVariants as source
use Rattle.sdl_routes.specs.declared.route.Via.TheVariants as via
use Rattle.sdl_routes.specs.Routes.{IsChoice}
use Rattle.sdl_instances.proofs.Choosing.{none_fits}
use Rattle.sdl_instances.proofs.Takes.{at_pick_fits}
use Rattle.sdl_run_outcome.specs.EnvironmentWork.{wish_for}
use Rattle.sdl_run_environment.proofs.outputs.output_of.Goals as goal

pub returns-in-Some-clause-output : goal.returns-in-Some-clause-output
returns-in-Some-clause-output c =
    let P : Goal → Type 0 = λ to. IsChoice c.args.routes.now (record { source = source.Gate c.args.line.gate; signal = c.args.line.signal.id; goal = to; via = via.Any }) c.args.pick (Some c.in-Some.route) in
    (refl, at_pick_fits c.args.routes.now c.args.pick (wish_for c.args.line) c.in-Some.route (subst P c.goal_to.ensures c.in-Some.ensures.choice))

pub returns-in-None-clause-output : goal.returns-in-None-clause-output
returns-in-None-clause-output c =
    let P : Goal → Type 0 = λ to. IsChoice c.args.routes.now (record { source = source.Gate c.args.line.gate; signal = c.args.line.signal.id; goal = to; via = via.Any }) c.args.pick None in
    (refl, refl, none_fits c.args.routes.now (wish_for c.args.line) c.args.pick (subst P c.goal_to.ensures c.in-None.ensures.choice))

pub returns-in-Some-clause-routed : goal.returns-in-Some-clause-routed
returns-in-Some-clause-routed c =
    let P : Goal → Type 0 = λ to. IsChoice c.args.routes.now (record { source = source.Gate c.args.line.gate; signal = c.args.line.signal.id; goal = to; via = via.Any }) c.args.pick (Some c.in-Some.route) in
    subst P c.goal_to.ensures c.in-Some.ensures.choice

pub returns-in-None-clause-routed : goal.returns-in-None-clause-routed
returns-in-None-clause-routed c =
    let P : Goal → Type 0 = λ to. IsChoice c.args.routes.now (record { source = source.Gate c.args.line.gate; signal = c.args.line.signal.id; goal = to; via = via.Any }) c.args.pick None in
    subst P c.goal_to.ensures c.in-None.ensures.choice
