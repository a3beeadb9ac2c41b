use Rattle.std.proofs.Common.{sym, subst, inl, inr, map, List}
use Rattle.std.proofs.lemmas.List.Elements.{All-from_recursion}
use Rattle.sdl_structure_parts.specs.Structure.{Structure}
use Rattle.sdl_routes.specs.declared.route.TableRow.{TableRow}
use Rattle.sdl_transition.specs.Bound.{structure_of, blocks_of}
use Rattle.sdl_transition.specs.Rules.{block_rules}
use Rattle.sdl_app_file_commands.specs.Running.{CanRun, HasBudget}
use Rattle.sdl_app_file_runs.specs.Outcomes.{HasRunBy}
use Rattle.sdl_app_program.proofs.built_in.run_behaviours.Goals as goal

pub bind-requires-clause-allowed : goal.bind-requires-clause-allowed
bind-requires-clause-allowed g c = All-from_recursion _ _ c.requires.allowed

pub run_bound_in_threads-requires-clause-budget : goal.run_bound_in_threads-requires-clause-budget
unfolding CanRun
run_bound_in_threads-requires-clause-budget g c κs outlives = subst HasBudget (sym c.in-Ok.ensures.structure) c.requires.runs.0

pub returns-in-Ok-clause-made : goal.returns-in-Ok-clause-made
returns-in-Ok-clause-made g c =
    let ran : Structure → List TableRow → Type 0 =
    λ s routes. HasRunBy g.S.Agents.may s routes c.args.job.settings.options (g.R.Read.remaining c.args.input.now) (g.R.Read.remaining c.run_bound_in_threads.new.input)
    (g.W.Write.contents c.args.output.now) (g.W.Write.contents c.run_bound_in_threads.new.output) c.run_bound_in_threads.result in
    elim c.run_bound_in_threads.ensures.made [
      | inl refused ↦ inl refused
      | inr made ↦ inr (
          subst (λ (s : Structure). ran s c.args.job.routes) c.in-Ok.ensures.structure
          (subst (λ (routes : List TableRow). ran (structure_of c.in-Ok.bound) routes) c.in-Ok.ensures.routes (map block_rules (blocks_of c.in-Ok.bound), made)))
    ]
