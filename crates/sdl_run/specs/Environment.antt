-- What the steps of the environment in a run in threads keep. (This project's own.)
use Rattle.std.specs.Prelude.{ℕ, List, Option, length}
use Rattle.sdl_signal.specs.declared.values.Item.{Item}
use Rattle.sdl_structure_parts.specs.Structure.{Structure, IsStructure}
use Rattle.sdl_routes.specs.declared.route.TableRow.{TableRow}
use Rattle.sdl_routes.specs.Routes.{AreRoutesOf}
use Rattle.sdl_forward_ends.specs.Ends.{WorkerEnds}
use Rattle.sdl_run_outcome.specs.EnvironmentWork.{EnvWorking, HasReadSoFar, HasWrittenSoFar}
use Rattle.sdl_run_environment.specs.EnvApart.{IsEnvPuttingOut}

-- it has put out what it sent, and read and written so much since the run started
pub record KeepsEnvironment (s : Structure) (rows : List TableRow) (w : EnvWorking) (astray : Option Item) (ends : WorkerEnds) (read_from read_to written_from written_to : Option (List ℕ)) : Type 0 where
  pub structure : IsStructure s
  pub routes : AreRoutesOf s rows
  pub putting : IsEnvPuttingOut s rows (length s.blocks) w astray ends
  pub reading : HasReadSoFar s rows (length s.blocks) read_from read_to w
  pub writing : HasWrittenSoFar s rows (length s.blocks) written_from written_to w
