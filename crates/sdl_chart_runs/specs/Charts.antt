-- What a run comes to whose chart is written, and its exit statuses. (This project's own.)
use Rattle.std.specs.Prelude.{◌≡◌, ℕ, ◌+◌, ◌-◌, ◌≤◌, ◌⊎◌, ⊤, List, map, Option, None, Some, unwrap_or, length, min, max, nat_lt, slice_range}
use Rattle.std.specs.Io.KnownBytes.{Appends, Keeps}
use Rattle.sdl_signal.specs.declared.values.Origin.{Origin}
use Rattle.sdl_signal.specs.declared.ids.SetId.{SetId}
use Rattle.sdl_signal.specs.declared.values.Item.{Item}
use Rattle.sdl_signal.specs.declared.ends.InputEnd.{InputEnd}
use Rattle.sdl_signal.specs.declared.ends.OutputEnd.TheVariants as output
use Rattle.sdl_structure_parts.specs.Structure.{Structure}
use Rattle.sdl_routes.specs.declared.route.TableRow.{TableRow}
use Rattle.sdl_transition_behaviour.specs.declared.step.Frame.{Frame}
use Rattle.sdl_transition_behaviour.specs.declared.step.Step.{Step}
use Rattle.sdl_instances_log.specs.declared.event.Event.{Event}
use Rattle.sdl_run_outcome.specs.declared.end.RunEnd.{RunEnd}
use Rattle.sdl_run_outcome.specs.declared.environment_output.EnvOut.{EnvOut}
use Rattle.sdl_run_outcome.specs.Outcome.{Outcome}
use Rattle.sdl_run_outcome.specs.Plan.{Plan, blocks_in}
use Rattle.sdl_run_outcome.specs.EnvironmentWork.{HasReadAll}
use Rattle.sdl_run_ledger.specs.declared.ledger.Ledger.{Ledger}
use Rattle.sdl_run_driver.specs.Ended.{HasEnded}
use Rattle.sdl_run_driver.specs.Closings.{StopsByMemory}
use Rattle.sdl_app_file_runs.specs.Outcomes.{IsToldBy}
use Rattle.sdl_chart_page.specs.Entries.{Entry, entries}
use Rattle.sdl_chart_page.specs.Pages.{Sheet, IsPageOf, AreWhole, spot_at}
use Rattle.sdl_chart_words.specs.declared.asked.ChartForm.{ChartForm}
use Rattle.sdl_chart_words.specs.declared.asked.ChartForm.TheVariants as form
use Rattle.sdl_chart_words.specs.declared.asked.Request.{Request}
use Rattle.sdl_chart_words.specs.declared.sets.Charting.{Charting}
use Rattle.sdl_chart_page.specs.Origins.{value_at}
use Rattle.sdl_chart_text.specs.declared.left.Left.{Left}
use Rattle.sdl_chart_text.specs.declared.left.Left.TheVariants as lefts
use Rattle.sdl_chart_text.specs.declared.chart.Chart.{Chart}
use Rattle.sdl_chart_text.specs.Legends.{legend_with, place_text}
use Rattle.sdl_chart_text.specs.Rows.{chart_text}
use Rattle.sdl_chart_drawing.specs.declared.shapes.Drawing.{Drawing}
use Rattle.sdl_chart_drawing.specs.Traffic.{arrivals_from, outputs_from}
use Rattle.sdl_chart_drawing.specs.Charts.{Part, IsChartOf as IsDrawingOf}
use Rattle.sdl_chart_svg.specs.declared.svg.Heading.{Heading}
use Rattle.sdl_chart_svg.specs.Svg.{chart_svg}
use Rattle.sdl_chart_msc.specs.Lines.{IsMscOf}
use Rattle.sdl_chart_runs.specs.declared.drawn.ChartFault.{ChartFault}
use Rattle.sdl_chart_runs.specs.declared.drawn.ChartFault.TheVariants as fault

-- The rows that are written, of so many: from this one on, and to before that one. Rows count from 0, and the events that are asked for
-- from 1. Where no last one is asked for, a drawing has 500 at most.
abbrev pub first_of : Option ℕ → ℕ
first_of from = unwrap_or from 1 - 1

abbrev pub last_of : Option ChartForm → ℕ → ℕ → ℕ
last_of (Some form.Svg) first rows = first + 500
last_of _ first rows = rows

abbrev pub before_of : Request → ℕ → ℕ → ℕ
before_of r first rows = max (min rows (unwrap_or r.to (last_of r.form first rows))) first

abbrev pub past_of : Request → ℕ → ℕ
past_of r rows = before_of r (first_of r.from) rows

-- there is no such first row among so many
abbrev pub IsOver : Option ℕ → ℕ → Type 0
IsOver None rows = ⊥
IsOver (Some n) rows = rows ≤ n - 1

-- the events that a run left, by lists
abbrev pub entries_left : Outcome → List (List Entry)
entries_left o = entries o.logs o.env_received o.env_put

-- what a chart is made of, beside the names of its parts
pub record Drawn : Type 0 where
  pub page : Sheet
  pub left : Origin → Left
  pub first : ℕ
  pub past : ℕ

abbrev pub drawn_of : {K : Type 0} → Chart K → ℕ → ℕ → Drawn
drawn_of c first past = record { page = c.page.now; left = λ o. unwrap_or (value_at c.left.now o) lefts.Nowhere; first = first; past = past }

-- the heading of a drawing, and the part of the page that it has to show
abbrev pub IsHeadingOf : Structure → Drawn → Heading → Type 0
IsHeadingOf s x h = (h.system.now ≡ s.system) × (h.events ≡ length x.page.rows) × (h.first ≡ x.first) × (h.past ≡ x.past)

abbrev pub part_with : List (List Event) → List Item → List EnvOut → Drawn → List SetId → Part
part_with logs received put x only =
    let rows = slice_range x.page.rows x.first x.past in
    record {
      spot = spot_at x.page;
      first = x.first;
      past = x.past;
      arrivals = arrivals_from logs received 0 x.page.rows;
      outputs = outputs_from logs put x.first rows;
      rows = rows;
      hides = nat_lt 0 (length only);
    }

-- The text of these rows in the form that is asked for: lines, a drawing, or the textual form of Z.120, which has all rows. Lines and a
-- drawing say the same of each output whose item never arrived: where the item was left.
abbrev pub IsInForm : Option ChartForm → List (List (List ℕ)) → Charting → Drawn → List ℕ → Structure → List TableRow → List (List Event) → List Item → List EnvOut → Type 0
IsInForm (Some form.Svg) states c x text s routes logs received put =
    (h : Heading) × (d : Drawing) × IsHeadingOf s x h × IsDrawingOf (part_with logs received put x c.only.items) d
    × (text ≡ chart_svg h (λ o. place_text s (x.left o)) d)
IsInForm (Some form.Msc) states c x text s routes logs received put = IsMscOf s routes states logs received put x.page text
IsInForm _ states c x text s routes logs received put =
    text ≡ chart_text (legend_with s routes states (entries logs received put) x.page x.left) logs received put x.first x.past x.page.rows

-- All events that the run left stand on a page: each once, in the order of its list, and each item is output above its arrival. The text
-- shows each row that is asked for. Lines and a drawing say the same of where signals were left; what they say of it is not tied to the run
-- here.
pub record IsChartOf (s : Structure) (routes : List TableRow) (states : List (List (List ℕ))) (c : Charting) (o : Outcome) (text : List ℕ) : Type 0 where
  pub drawn : Drawn
  pub is_page : IsPageOf (entries_left o) drawn.page
  pub whole : AreWhole (entries_left o) drawn.page.rows
  pub first : drawn.first ≡ first_of c.request.from
  pub past : drawn.past ≡ past_of c.request (length drawn.page.rows)
  pub is : IsInForm c.request.form states c drawn text s routes o.logs o.env_received o.env_put

-- the chart was written, whole
abbrev pub HasWrittenChart : Structure → List TableRow → List (List (List ℕ)) → Charting → Outcome → Option (List ℕ) → Option (List ℕ) → Type 0
HasWrittenChart s routes states c o old new = (text : List ℕ) × IsChartOf s routes states c o text × Appends old new text

-- the same of what a chart is made of
abbrev pub IsTextOf : {K : Type 0} → (K → List Event) → Option ChartForm → Charting → Chart K → ℕ → ℕ → List ℕ → Type 0
IsTextOf events form c chart first past text =
    IsInForm form chart.states.now c (drawn_of chart first past) text chart.structure.now chart.routes.now
    (map events chart.lists.now.logs.now) chart.lists.now.received.now chart.lists.now.put.now

-- Why there is no text in a form: a drawing would have too many lifelines, or it would not show its part as it has to; or memory was
-- refused, of which nothing more is said.
abbrev pub IsWhyNoText : Option ChartForm → ChartFault → Type 0
IsWhyNoText asked (fault.Over rows) = ⊥
IsWhyNoText asked fault.Lifelines = asked ≡ Some form.Svg
IsWhyNoText asked fault.NotWhole = asked ≡ Some form.Svg
IsWhyNoText asked fault.Memory = ⊤

-- Why there is no chart: the run has fewer events than were asked for, or there is no text.
abbrev pub IsWhyNone : Charting → Outcome → ChartFault → Type 0
IsWhyNone c o (fault.Over rows) =
    (page : Sheet) × IsPageOf (entries_left o) page × AreWhole (entries_left o) page.rows × (rows ≡ length page.rows) × IsOver c.request.from rows
IsWhyNone c o f = IsWhyNoText c.request.form f

-- the chart is refused: nothing was written, and the status is 3
pub record IsRefused (c : Charting) (o : Outcome) (old new : Option (List ℕ)) (status : ℕ) : Type 0 where
  pub fault : ChartFault
  pub why : IsWhyNone c o fault
  pub unwritten : Keeps old new
  pub is : status ≡ 3

-- The chart was written, and the status tells how the run ended. Or the output had a fault, and the status tells of that; or there is no
-- chart.
abbrev pub HasToldChart : Structure → List TableRow → List (List (List ℕ)) → Charting → Outcome → InputEnd → RunEnd → Option (List ℕ) → Option (List ℕ) → ℕ → Type 0
HasToldChart s routes states c o read end old new status =
    (IsToldBy read output.Whole end status × HasWrittenChart s routes states c o old new)
    ⊎ (IsToldBy read output.WriteFault end status ⊎ IsRefused c o old new status)

-- A run was made by this plan: all that holds of every run that has ended holds of it, it read so, and its chart was told.
pub record HasCharted (may : ℕ → Frame → Step → Type 0) (plan : Plan) (states : List (List (List ℕ))) (c : Charting) (unread rest old new : Option (List ℕ)) (status : ℕ) : Type 0 where
  pub outcome : Outcome
  pub end : RunEnd
  pub ledger : Ledger
  pub read : InputEnd
  pub ended : HasEnded may plan outcome end ledger
  pub reading : HasReadAll plan.structure plan.routes (blocks_in plan) unread rest outcome.env_put read
  pub stopped : StopsByMemory read end
  pub told : HasToldChart plan.structure plan.routes states c outcome read end old new status
