use Rattle.sdl_app_file_commands.specs.Running.{CanRun}
use Rattle.sdl_app_program.proofs.systems.start_command.Goals as goal

pub run_command-requires-after_bounds : goal.run_command-requires-after_bounds
unfolding CanRun
run_command-requires-after_bounds g c κs outlives = (c.requires, c.in-Some.ensures.routes)
