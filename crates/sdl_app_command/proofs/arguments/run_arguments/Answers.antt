use Rattle.std.proofs.Common.{sym, ◌∙◌}
use Rattle.sdl_app_command.proofs.Words.{run_arguments-split}
use Rattle.sdl_app_command.proofs.arguments.run_arguments.Goals as goal

pub returns : goal.returns
returns c = c.chosen_arguments.ensures ∙ sym (run_arguments-split c.args.words.now c.in_ok-file.chosen.now c.in_ok-file.file.now c.in_ok-file.ensures.cases.0)
