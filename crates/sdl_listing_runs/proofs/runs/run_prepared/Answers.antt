use Rattle.std.proofs.Common.{◌≡◌, ◌⊎◌, inl, inr, map, sym, subst, List, Option}
use Rattle.sdl_structure_parts.specs.Structure.{Structure}
use Rattle.sdl_routes.specs.declared.route.TableRow.{TableRow}
use Rattle.sdl_transition.specs.Bound.{blocks_of}
use Rattle.sdl_transition.specs.Rules.{block_rules}
use Rattle.sdl_app_file_commands.specs.Running.{CanRun, HasBudget}
use Rattle.sdl_app_file_runs.specs.Outcomes.{plan_with}
use Rattle.sdl_graph_program.specs.Outcomes.{HasMadeAsked}
use Rattle.sdl_chart_words.specs.declared.sets.Charting.{Charting}
use Rattle.sdl_listing_runs.specs.Rules.{FollowListing}
use Rattle.sdl_graph_program.proofs.Moved.{moved}
use Rattle.sdl_listing_runs.proofs.Following.{following}
use Rattle.sdl_listing_runs.proofs.runs.run_prepared.Goals as goal

pub run_as_told-requires-clause-budget : goal.run_as_told-requires-clause-budget
unfolding CanRun
run_as_told-requires-clause-budget g c κs outlives = subst HasBudget (sym c.in-Ok.ensures.structure) c.requires.runs.0

pub returns-in-Ok-clause-made : goal.returns-in-Ok-clause-made
returns-in-Ok-clause-made g c = λ sets stored heads.
    let p = c.args.prepared in
    let bound = c.in-Ok.bound in
    let rules = map block_rules (blocks_of bound) in
    let follow : FollowListing p.checked sets rules =
    subst (λ (s : Structure). FollowListing s sets rules) c.in-Ok.ensures.structure (following bound sets (c.in-Ok.ensures.behaviours sets heads stored)) in
    let ran : Option Charting → Structure → List TableRow → Type 0 =
    λ chart s routes. (c.run_as_told.result ≡ 1) ⊎ HasMadeAsked g.S.Agents.may (plan_with s routes rules) chart p.options p.audit (g.R.Read.remaining c.args.input.now) (g.R.Read.remaining c.run_as_told.new.input)
    (g.W.Write.contents c.args.output.now) (g.W.Write.contents c.run_as_told.new.output) c.run_as_told.result in
    let all : ran p.chart p.checked p.routes =
    moved ran _ _ _ _ _ _ c.to_chart_with-to_chart.ensures c.in-Ok.ensures.structure c.in-Ok.ensures.routes c.run_as_told.ensures.made in
    elim all [
      | inl refused ↦ inl refused
      | inr made ↦ inr (rules, follow, made)
    ]
