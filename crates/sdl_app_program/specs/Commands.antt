-- What the program does of its commands, and its exit statuses. (This project's own.)
use Rattle.std.specs.Prelude.{◌≡◌, ◌≢◌, ℕ, ◌⊎◌, List, Option, None, Some, IsSomeAnd}
use Rattle.std.specs.Io.KnownBytes.{Keeps}
use Rattle.sdl_structure_parts.specs.Structure.{Structure}
use Rattle.sdl_routes.specs.declared.route.TableRow.{TableRow}
use Rattle.sdl_transition_behaviour.specs.declared.step.Frame.{Frame}
use Rattle.sdl_transition_behaviour.specs.declared.step.Step.{Step}
use Rattle.sdl_agents.specs.declared.systems.System.{System}
use Rattle.sdl_agents.specs.declared.systems.System.TheVariants as system
use Rattle.sdl_agents.specs.Systems.{system_of}
use Rattle.sdl_agents.specs.Tables.{EchoMay, RelayMay, SpawnMay, RingMay, HoldMay}
use Rattle.sdl_app_command.specs.declared.arguments.Arguments.{Arguments}
use Rattle.sdl_app_command.specs.declared.arguments.Arguments.TheVariants as arguments
use Rattle.sdl_app_command.specs.declared.arguments.Options.{Options}
use Rattle.sdl_app_command.specs.declared.arguments.Command.TheVariants as command
use Rattle.sdl_app_command.specs.Arguments.{arguments_of}
use Rattle.sdl_app_command.specs.Pipe.{IsPipedAs}
use Rattle.sdl_app_file_commands.specs.Commands.{IsDone}
use Rattle.sdl_app_file_runs.specs.Outcomes.{HasRunBy}
use Rattle.sdl_app_program.specs.declared.running.Job.{Job}

-- what the transitions of a built-in system may answer
abbrev pub may_of : System → ℕ → Frame → Step → Type 0
may_of system.Echo = EchoMay
may_of system.Relay = RelayMay
may_of system.Spawn = SpawnMay
may_of system.Ring = RingMay
may_of system.Hold = HoldMay

-- the run was refused before it began, or made by agents that answer as they may
abbrev pub HasRunJob : (ℕ → Frame → Step → Type 0) → Option (List ℕ) → Option (List ℕ) → Option (List ℕ) → Option (List ℕ) → Job → ℕ → Type 0
HasRunJob may unread rest old new job status = (status ≡ 1) ⊎ HasRunBy may job.checked job.routes job.settings.options unread rest old new status

-- the built-in system of the structure's name was run, by its own agents
abbrev pub HasRunBuiltIn : Options → Option (List ℕ) → Option (List ℕ) → Option (List ℕ) → Option (List ℕ) → Structure → List TableRow → ℕ → Type 0
HasRunBuiltIn options unread rest old new s routes status =
    IsSomeAnd (system_of s.system) (λ system. HasRunBy (may_of system) s routes options unread rest old new status)

-- nothing was read and nothing written
abbrev pub IsUntouched : Option (List ℕ) → Option (List ℕ) → Option (List ℕ) → Option (List ℕ) → Type 0
IsUntouched unread rest old new = Keeps unread rest × Keeps old new

-- What the program does of its arguments. Which file a path names is not said here: some file's bytes are what the command is done
-- on. A command on a file that is refused reads and writes nothing.
abbrev pub Answers : Option Arguments → Option (List ℕ) → Option (List ℕ) → Option (List ℕ) → Option (List ℕ) → ℕ → Type 0
Answers None unread rest old new status = (status ≡ 2) × Keeps unread rest × Keeps old new
Answers (Some arguments.Pipe) unread rest old new status = IsPipedAs unread rest old new status
Answers (Some (arguments.File options place)) unread rest old new status =
    ((file : List ℕ) × IsDone (HasRunBuiltIn options unread rest old new) old new options.command file status)
    × (options.command ≢ command.Run → Keeps unread rest)
    × (status ≡ 1 → IsUntouched unread rest old new)

-- The program: what it was asked for by its words; or memory was refused before it had them, or one of them was not UTF-8.
abbrev pub IsAnswered : Option (List ℕ) → Option (List ℕ) → Option (List ℕ) → Option (List ℕ) → ℕ → Type 0
IsAnswered unread rest old new status =
    ((words : List (List ℕ)) × Answers (arguments_of words) unread rest old new status)
    ⊎ (((status ≡ 1) ⊎ (status ≡ 2)) × IsUntouched unread rest old new)
