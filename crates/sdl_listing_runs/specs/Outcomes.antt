-- What a run of a listing comes to, and its exit statuses. (This project's own.)
use Rattle.std.specs.Prelude.{◌≡◌, ℕ, ◌⊎◌, Bool, List, Option}
use Rattle.sdl_structure_parts.specs.Structure.{Structure}
use Rattle.sdl_routes.specs.declared.route.TableRow.{TableRow}
use Rattle.sdl_transition_behaviour.specs.declared.step.Frame.{Frame}
use Rattle.sdl_transition_behaviour.specs.declared.step.Step.{Step}
use Rattle.sdl_transition.specs.Rules.{Rules}
use Rattle.sdl_listing_body.specs.declared.listing.ListedSet.{ListedSet}
use Rattle.sdl_app_command.specs.declared.arguments.Options.{Options}
use Rattle.sdl_app_file_runs.specs.Outcomes.{plan_with}
use Rattle.sdl_graph_program.specs.declared.commands.Prepared.{Prepared}
use Rattle.sdl_graph_program.specs.Outcomes.{HasMadeAsked}
use Rattle.sdl_chart_words.specs.declared.sets.Charting.{Charting}
use Rattle.sdl_listing_runs.specs.Rules.{FollowListing}

-- The structure was run to an end along its routes, with its own budget. Its blocks have the rules that the listing says of their sets,
-- and their agents answer as they may. The books were written, and what was left was audited where that was asked for; or its chart was
-- told.
abbrev pub HasRunListed : (ℕ → Frame → Step → Type 0) → List ListedSet → Structure → List TableRow → Option Charting → Options → Bool → Option (List ℕ) → Option (List ℕ) → Option (List ℕ) → Option (List ℕ) → ℕ → Type 0
HasRunListed may listing s routes chart options audit unread rest old new status =
    (rules : List (List Rules)) × FollowListing s listing rules × HasMadeAsked may (plan_with s routes rules) chart options audit unread rest old new status

-- the run of what was prepared was refused before it began, or made so
abbrev pub HasRunPrepared : (ℕ → Frame → Step → Type 0) → List ListedSet → Option (List ℕ) → Option (List ℕ) → Option (List ℕ) → Option (List ℕ) → Prepared → ℕ → Type 0
HasRunPrepared may listing unread rest old new p status =
    (status ≡ 1) ⊎ HasRunListed may listing p.checked p.routes p.chart p.options p.audit unread rest old new status

-- The same, and the status tells how the run ended; or it tells that in an answer of the run a value was bent.
abbrev pub HasRunMarked : (ℕ → Frame → Step → Type 0) → List ListedSet → Option (List ℕ) → Option (List ℕ) → Option (List ℕ) → Option (List ℕ) → Prepared → ℕ → Type 0
HasRunMarked may listing unread rest old new p status =
    (status ≡ 1)
    ⊎ ((told : ℕ) × HasRunListed may listing p.checked p.routes p.chart p.options p.audit unread rest old new told × ((status ≡ told) ⊎ (status ≡ 4)))
