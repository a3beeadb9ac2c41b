-- What the simulator does of its words, and its exit statuses. (This project's own.)
use Rattle.std.specs.Prelude.{◌≡◌, ℕ, ◌⊎◌, Bool, false, List, Option, Some, None, IsSomeAnd}
use Rattle.std.specs.Io.KnownBytes.{Keeps}
use Rattle.sdl_structure_parts.specs.Structure.{Structure}
use Rattle.sdl_routes.specs.declared.route.TableRow.{TableRow}
use Rattle.sdl_routes.specs.Routes.{AreRoutesOf}
use Rattle.sdl_listing_body.specs.declared.listing.ListedSet.{ListedSet}
use Rattle.sdl_app_command.specs.declared.arguments.Options.{Options}
use Rattle.sdl_chart_words.specs.declared.asked.Request.{Request}
use Rattle.sdl_chart_words.specs.declared.sets.Charting.{Charting}
use Rattle.sdl_chart_words.specs.Sets.{AreNamed}
use Rattle.sdl_app_file_commands.specs.Files.{Declares}
use Rattle.sdl_app_file_commands.specs.Commands.{HasPrinted}
use Rattle.sdl_app_file_commands.specs.Texts.{check_text}
use Rattle.sdl_listing_binding.specs.Answers.{rows_of, IsAnswerIn}
use Rattle.sdl_graph_program.specs.Outcomes.{IsToldOf}
use Rattle.sdl_listing_runs.specs.Outcomes.{HasRunListed}
use Rattle.sdl_drawing_text.specs.Commands.{IsShown}
use Rattle.sdl_simulator.specs.declared.words.Asked.{Asked}
use Rattle.sdl_simulator.specs.declared.words.Asked.TheVariants as asked
use Rattle.sdl_simulator.specs.Words.{asked_of, chart_options}
use Rattle.sdl_simulator.specs.Files.{Describes}

-- a command on both files was refused, or it was done on the structure that the first declares, and on what the second says of its sets
abbrev pub IsDoneOf : (Structure → List ListedSet → ℕ → Type 0) → ℕ → Type 0
IsDoneOf done status =
    (status ≡ 1)
    ⊎ ((file agents : List ℕ) × (s : Structure) × (listing : List ListedSet) × Declares file s × Describes agents s listing × done s listing status)

-- The structure was run to an end. Its blocks have the rules that the listing says of their sets: which transition is made in which state
-- for which signal, and what is saved. Each answer is what the row of its number says for the frame. The status tells how the run
-- ended, or that in one of these answers a value was bent.
abbrev pub HasRunListing : Option Charting → Options → Bool → Option (List ℕ) → Option (List ℕ) → Option (List ℕ) → Option (List ℕ) → Structure → List ListedSet → ℕ → Type 0
HasRunListing chart options audit unread rest old new s listing status =
    (routes : List TableRow) × AreRoutesOf s routes
    × ((told : ℕ) × HasRunListed (IsAnswerIn (rows_of listing)) listing s routes chart options audit unread rest old new told × ((status ≡ told) ⊎ (status ≡ 4)))

-- The same with what the words ask for of its chart: the sets that they name are sets of the structure.
abbrev pub IsCharting : List (List ℕ) → Request → Structure → Charting → Type 0
IsCharting words r s c = (c.request ≡ r) × AreNamed s words c.only.items

abbrev pub HasRunAsked : List (List ℕ) → Option Request → Options → Bool → Option (List ℕ) → Option (List ℕ) → Option (List ℕ) → Option (List ℕ) → Structure → List ListedSet → ℕ → Type 0
HasRunAsked words None options audit unread rest old new s listing status = HasRunListing None options audit unread rest old new s listing status
HasRunAsked words (Some r) options audit unread rest old new s listing status =
    (c : Charting) × IsCharting words r s c × HasRunListing (Some c) options audit unread rest old new s listing status

-- what is prepared of a chart is what is asked for
abbrev pub IsChartAsked : List (List ℕ) → Option Request → Structure → Option Charting → Type 0
IsChartAsked words None s chart = chart ≡ None
IsChartAsked words (Some r) s chart = IsSomeAnd chart (IsCharting words r s)

-- nothing was read and nothing written
abbrev pub IsUntouched : Option (List ℕ) → Option (List ℕ) → Option (List ℕ) → Option (List ℕ) → Type 0
IsUntouched unread rest old new = Keeps unread rest × Keeps old new

-- What the program does of what it is asked for. Which files its paths name is not said here: some files' bytes are what it is done
-- on. What is refused reads and writes nothing.
abbrev pub Answers : List (List ℕ) → Option Asked → Option (List ℕ) → Option (List ℕ) → Option (List ℕ) → Option (List ℕ) → ℕ → Type 0
Answers words None unread rest old new status = (status ≡ 2) × IsUntouched unread rest old new
Answers words (Some (asked.File command)) unread rest old new status =
    ((file : List ℕ) × IsToldOf old new file status) × Keeps unread rest × (status ≡ 1 → Keeps old new)
Answers words (Some (asked.Structure form)) unread rest old new status =
    ((file : List ℕ) × IsShown form file old new status) × Keeps unread rest × (status ≡ 1 → Keeps old new)
Answers words (Some asked.Check) unread rest old new status =
    IsDoneOf (λ s listing told. HasPrinted old new (check_text s) told) status × Keeps unread rest × (status ≡ 1 → Keeps old new)
Answers words (Some (asked.Run options audit)) unread rest old new status =
    IsDoneOf (HasRunAsked words None options audit unread rest old new) status × (status ≡ 1 → IsUntouched unread rest old new)
Answers words (Some (asked.Chart request)) unread rest old new status =
    IsDoneOf (HasRunAsked words (Some request) (chart_options request) false unread rest old new) status × (status ≡ 1 → IsUntouched unread rest old new)

-- the program: what it was asked for by its words; or memory was refused before it had them, or one of them was not UTF-8
abbrev pub IsAnswered : Option (List ℕ) → Option (List ℕ) → Option (List ℕ) → Option (List ℕ) → ℕ → Type 0
IsAnswered unread rest old new status =
    ((words : List (List ℕ)) × Answers words (asked_of words) unread rest old new status)
    ⊎ (((status ≡ 1) ⊎ (status ≡ 2)) × IsUntouched unread rest old new)
