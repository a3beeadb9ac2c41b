-- What a run of both files comes to.
use Rattle.std.proofs.Common.{◌≡◌, ℕ, Bool, List, Option, Some, None, inl, inr, subst}
use Rattle.sdl_structure_parts.specs.Structure.{Structure}
use Rattle.sdl_listing_body.specs.declared.listing.ListedSet.{ListedSet}
use Rattle.sdl_chart_words.specs.declared.asked.Request.{Request}
use Rattle.sdl_chart_words.specs.declared.sets.Charting.{Charting}
use Rattle.sdl_app_command.specs.declared.arguments.Options.{Options}
use Rattle.sdl_listing_binding.specs.Answers.{rows_of, IsAnswerIn}
use Rattle.sdl_app_file_commands.specs.Files.{Declares}
use Rattle.sdl_app_file_commands.specs.Running.{CanRun}
use Rattle.sdl_graph_program.specs.declared.commands.Prepared.{Prepared}
use Rattle.sdl_listing_runs.specs.Outcomes.{HasRunListed, HasRunMarked}
use Rattle.sdl_simulator.specs.Files.{Describes}
use Rattle.sdl_simulator.specs.Answers.{HasRunListing, HasRunAsked, IsChartAsked, IsDoneOf}

-- a run with the chart that was prepared is one with the chart that was asked for
as_asked : (words : List (List ℕ)) (chart : Option Request) (prepared : Option Charting) (options : Options) (audit : Bool) (unread rest old new : Option (List ℕ)) (s : Structure) (listing : List ListedSet) (status : ℕ)
    → IsChartAsked words chart s prepared → HasRunListing prepared options audit unread rest old new s listing status → HasRunAsked words chart options audit unread rest old new s listing status
as_asked words None prepared options audit unread rest old new s listing status is run =
    subst (λ (c : Option Charting). HasRunListing c options audit unread rest old new s listing status) is run
as_asked words (Some r) None options audit unread rest old new s listing status is run = absurd is
as_asked words (Some r) (Some c) options audit unread rest old new s listing status is run = (c, is, run)

-- a run of what was prepared from the files is one of what was asked for
pub done_of : (words : List (List ℕ)) (chart : Option Request) (options : Options) (audit : Bool) (unread rest old begun new : Option (List ℕ)) (p : Prepared) (listing : List ListedSet) (status : ℕ)
    → CanRun p.checked p.routes → (file : List ℕ) × Declares file p.checked → (agents : List ℕ) × Describes agents p.checked listing
    → p.options ≡ options → p.audit ≡ audit → IsChartAsked words chart p.checked p.chart → begun ≡ old → HasRunMarked (IsAnswerIn (rows_of listing)) listing unread rest begun new p status
    → IsDoneOf (HasRunAsked words chart options audit unread rest old new) status
unfolding CanRun
done_of words chart options audit unread rest old begun new p listing status can declared described asked audited charted unwritten (inl refused) = inl refused
done_of words chart options audit unread rest old begun new p listing status can declared described asked audited charted unwritten (inr ran) =
    let run : HasRunListed (IsAnswerIn (rows_of listing)) listing p.checked p.routes p.chart options audit unread rest old new ran.0 =
    subst (λ (b : Option (List ℕ)). HasRunListed (IsAnswerIn (rows_of listing)) listing p.checked p.routes p.chart options audit unread rest b new ran.0) unwritten
    (subst (λ (o : Options). HasRunListed (IsAnswerIn (rows_of listing)) listing p.checked p.routes p.chart o audit unread rest begun new ran.0) asked
    (subst (λ (a : Bool). HasRunListed (IsAnswerIn (rows_of listing)) listing p.checked p.routes p.chart p.options a unread rest begun new ran.0) audited ran.1)) in
    inr (
      declared.0,
      described.0,
      p.checked,
      listing,
      declared.1,
      described.1,
      as_asked words chart p.chart options audit unread rest old new p.checked listing status charted (p.routes, can.1, (ran.0, run, ran.2)),
    )
