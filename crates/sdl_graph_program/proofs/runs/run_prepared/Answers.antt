use Rattle.std.proofs.Common.{sym, subst, List, Option}
use Rattle.sdl_structure_parts.specs.Structure.{Structure}
use Rattle.sdl_routes.specs.declared.route.TableRow.{TableRow}
use Rattle.sdl_app_file_commands.specs.Running.{CanRun, HasBudget}
use Rattle.sdl_graph_program.specs.Outcomes.{HasRunGraphOrNot}
use Rattle.sdl_chart_words.specs.declared.sets.Charting.{Charting}
use Rattle.sdl_graph_program.proofs.Moved.{moved}
use Rattle.sdl_graph_program.proofs.runs.run_prepared.Goals as goal

pub run_marked-requires-clause-budget : goal.run_marked-requires-clause-budget
unfolding CanRun
run_marked-requires-clause-budget g c κs outlives = subst HasBudget (sym c.in-Ok-bind_graph.ensures.structure) c.requires.0

pub returns-in-Ok-bind_graph-clause-run : goal.returns-in-Ok-bind_graph-clause-run
returns-in-Ok-bind_graph-clause-run g c =
    let p = c.args.prepared in
    let ran : Option Charting → Structure → List TableRow → Type 0 =
    λ chart s routes. HasRunGraphOrNot chart p.options p.audit (g.R.Read.remaining c.args.input.now) (g.R.Read.remaining c.run_marked.new.input) (g.W.Write.contents c.args.output.now) (g.W.Write.contents c.run_marked.new.output) s routes c.run_marked.result in
    moved ran _ _ _ _ _ _ c.in-Ok-to_chart_of.ensures c.in-Ok-bind_graph.ensures.structure c.in-Ok-bind_graph.ensures.routes c.run_marked.ensures.run
