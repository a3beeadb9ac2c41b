-- What a graph's program comes to, and its exit statuses. (This project's own.)
use Rattle.std.specs.Prelude.{◌≡◌, ℕ, ◌⊎◌, Bool, false, true, List, Option, Some, None, codes}
use Rattle.std.specs.Io.KnownBytes.{Keeps, Appends}
use Rattle.sdl_structure_parts.specs.Structure.{Structure}
use Rattle.sdl_routes.specs.declared.route.TableRow.{TableRow}
use Rattle.sdl_transition_behaviour.specs.declared.step.Frame.{Frame}
use Rattle.sdl_transition_behaviour.specs.declared.step.Step.{Step}
use Rattle.sdl_transition.specs.Rules.{Rules}
use Rattle.sdl_run_outcome.specs.Plan.{Plan}
use Rattle.sdl_app_command.specs.declared.arguments.Options.{Options}
use Rattle.sdl_app_file_commands.specs.Commands.{HasPrinted, HasListed}
use Rattle.sdl_app_file_commands.specs.Files.{Declares}
use Rattle.sdl_app_file_runs.specs.Outcomes.{HasMade, plan_with}
use Rattle.sdl_app_file_commands.specs.Texts.{check_text}
use Rattle.sdl_drawing_text.specs.declared.commands.Form.{Form}
use Rattle.sdl_drawing_text.specs.Commands.{IsShown}
use Rattle.sdl_chart_words.specs.declared.sets.Charting.{Charting}
use Rattle.sdl_chart_runs.specs.Charts.{HasCharted}

-- the line of an audit that finds nothing wrong
abbrev pub audit_text : List ℕ
audit_text = codes "audit ok\n"

-- What comes after a run and its books whose status this would be: nothing where no audit was asked for. Else the line that nothing
-- is wrong, and the same status; or the audit found a fault, or was refused memory, or the output had a fault.
abbrev pub HasAudited : Bool → Option (List ℕ) → Option (List ℕ) → ℕ → ℕ → Type 0
HasAudited false old new told status = (new ≡ old) × (status ≡ told)
HasAudited true old new told status = ((status ≡ told) × Appends old new audit_text) ⊎ (status ≡ 3)

-- A run was made by this plan, by agents that answer as they may. Its books were written, and what was left was audited where that was
-- asked for.
abbrev pub HasMadeAudited : (ℕ → Frame → Step → Type 0) → Plan → Options → Bool → Option (List ℕ) → Option (List ℕ) → Option (List ℕ) → Option (List ℕ) → ℕ → Type 0
HasMadeAudited may plan options audit unread rest old new status =
    (told : ℕ) × (books : Option (List ℕ)) × HasMade may plan options unread rest old books told × HasAudited audit books new told status

-- The same, where no chart is asked for. Else its chart was told in place of what it wrote, and nothing was audited.
abbrev pub HasMadeAsked : (ℕ → Frame → Step → Type 0) → Plan → Option Charting → Options → Bool → Option (List ℕ) → Option (List ℕ) → Option (List ℕ) → Option (List ℕ) → ℕ → Type 0
HasMadeAsked may plan None options audit unread rest old new status = HasMadeAudited may plan options audit unread rest old new status
HasMadeAsked may plan (Some c) options audit unread rest old new status = (states : List (List (List ℕ))) × HasCharted may plan states c unread rest old new status

-- The same of a structure, with its own budget. Which rules the behaviours of these agents give its blocks is not said here.
abbrev pub HasRunAsked : (ℕ → Frame → Step → Type 0) → Structure → List TableRow → Option Charting → Options → Bool → Option (List ℕ) → Option (List ℕ) → Option (List ℕ) → Option (List ℕ) → ℕ → Type 0
HasRunAsked may s routes chart options audit unread rest old new status =
    (rules : List (List Rules)) × HasMadeAsked may (plan_with s routes rules) chart options audit unread rest old new status

-- The structure was run to an end, and the status tells how; or it tells that an answer of the run broke its offer. What a graph's
-- transitions answer is not limited by who runs them, but by their offers.
abbrev pub HasRunGraph : Option Charting → Options → Bool → Option (List ℕ) → Option (List ℕ) → Option (List ℕ) → Option (List ℕ) → Structure → List TableRow → ℕ → Type 0
HasRunGraph chart options audit unread rest old new s routes status =
    (told : ℕ) × HasRunAsked (λ _ _ _. Unit {0}) s routes chart options audit unread rest old new told × ((status ≡ told) ⊎ (status ≡ 4))

-- a run was refused before it began, or made to an end
abbrev pub HasRunGraphOrNot : Option Charting → Options → Bool → Option (List ℕ) → Option (List ℕ) → Option (List ℕ) → Option (List ℕ) → Structure → List TableRow → ℕ → Type 0
HasRunGraphOrNot chart options audit unread rest old new s routes status = (status ≡ 1) ⊎ HasRunGraph chart options audit unread rest old new s routes status

-- a command on a file was refused, or the line of `check` or those of `routes` were written of the structure that the file declares
abbrev pub IsToldOf : Option (List ℕ) → Option (List ℕ) → List ℕ → ℕ → Type 0
IsToldOf old new file status =
    (status ≡ 1) ⊎ ((s : Structure) × Declares file s × (HasPrinted old new (check_text s) status ⊎ HasListed s old new status))

-- the block diagram of a file was refused, or shown in some form
abbrev pub IsPictureOf : Option (List ℕ) → Option (List ℕ) → List ℕ → ℕ → Type 0
IsPictureOf old new file status = (form : Form) × IsShown form file old new status

-- what the program comes to where nothing is run: its arguments were wrong, or a file was told of, or shown
abbrev pub IsDoneAtOnce : Option (List ℕ) → Option (List ℕ) → ℕ → Type 0
IsDoneAtOnce old new status =
    ((status ≡ 2) × Keeps old new) ⊎ ((file : List ℕ) × (IsToldOf old new file status ⊎ IsPictureOf old new file status))
