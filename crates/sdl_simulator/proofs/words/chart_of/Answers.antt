use Rattle.std.proofs.Common.{sym, ◌∙◌}
use Rattle.sdl_simulator.proofs.Behind.{chart_split}
use Rattle.sdl_simulator.proofs.words.chart_of.Goals as goal

pub returns : goal.returns
returns c =
    c.charted.ensures
    ∙ sym (chart_split c.args.words.now c.in_ok-agents.front.now c.in_ok-file.chosen.now c.in_ok-file.file.now c.in_ok-agents.agents.now c.in_ok-agents.ensures.cases.0 c.in_ok-file.ensures.cases.0)
