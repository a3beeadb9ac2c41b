-- The text that was written is that of a chart.
use Rattle.std.proofs.Common.{◌≡◌, ℕ, List, Option, Some, None, Result, Ok, Err, OnOk, IsOk, map, length, sym, subst}
use Rattle.std.proofs.lemmas.Bool.{false≢true}
use Rattle.sdl_signal.specs.declared.values.Item.{Item}
use Rattle.sdl_structure_parts.specs.Structure.{Structure}
use Rattle.sdl_routes.specs.declared.route.TableRow.{TableRow}
use Rattle.sdl_instances_log.specs.declared.event.Event.{Event}
use Rattle.sdl_run_outcome.specs.declared.environment_output.EnvOut.{EnvOut}
use Rattle.sdl_run_outcome.specs.Outcome.{Outcome}
use Rattle.sdl_chart_page.specs.declared.lists.Lists.{Lists}
use Rattle.sdl_chart_page.specs.Entries.{entries, entries_of}
use Rattle.sdl_chart_page.specs.Pages.{IsPageOf, AreWhole, AreOrderly}
use Rattle.sdl_chart_page.specs.Pages.{Sheet}
use Rattle.sdl_chart_words.specs.declared.asked.ChartForm.{ChartForm}
use Rattle.sdl_chart_words.specs.declared.sets.Charting.{Charting}
use Rattle.sdl_chart_runs.specs.declared.drawn.ChartFault.{ChartFault}
use Rattle.sdl_chart_runs.specs.declared.drawn.ChartFault.TheVariants as fault
use Rattle.sdl_chart_runs.specs.Charts.{Drawn, IsInForm, IsChartOf, IsWhyNoText, IsWhyNone, entries_left, first_of, past_of}

-- what holds of the lists of a page holds of those that a run left
moved : (P : List (List Event) → List Item → List EnvOut → Type 0) (logs logged : List (List Event)) (received taken : List Item) (put given : List EnvOut)
    → logs ≡ logged → received ≡ taken → put ≡ given → P logs received put → P logged taken given
moved P logs logged received taken put given a b d h =
    subst (λ (x : List EnvOut). P logged taken x) d (subst (λ (x : List Item). P logged x put) b (subst (λ (x : List (List Event)). P x received put) a h))

module _ {K : Type 0} (events : K → List Event) (states : List (List (List ℕ))) (c : Charting) (o : Outcome) (l : Lists K) where
  abbrev AreOf : Type 0
  AreOf = (map events l.logs.now ≡ o.logs) × (l.received.now ≡ o.env_received) × (l.put.now ≡ o.env_put)

  abbrev IsPage : Sheet → List (List Event) → List Item → List EnvOut → Type 0
  IsPage page logs received put = IsPageOf (entries logs received put) page × AreWhole (entries logs received put) page.rows

  -- the page of what a run left
  pub is_page : (page : Sheet) → AreOf → IsPageOf (entries_of events l) page → AreWhole (entries_of events l) page.rows
      → IsPageOf (entries_left o) page × AreWhole (entries_left o) page.rows
  is_page page are is whole = moved (IsPage page) _ _ _ _ _ _ are.0 are.1 are.2 (is, whole)

  -- the lists are as orderly as what a run left
  pub are_orderly : AreOf → AreOrderly (entries_left o) → AreOrderly (entries_of events l)
  are_orderly are h = moved (λ logs received put. AreOrderly (entries logs received put)) _ _ _ _ _ _ (sym are.0) (sym are.1) (sym are.2) h

  -- the chart of lists that a run left, by what it is written with
  pub is_chart : (x : Drawn) (text : List ℕ) (s t : Structure) (routes rows : List TableRow) → t ≡ s → rows ≡ routes → AreOf
      → IsPageOf (entries_of events l) x.page → AreWhole (entries_of events l) x.page.rows
      → x.first ≡ first_of c.request.from → x.past ≡ past_of c.request (length x.page.rows)
      → IsInForm c.request.form states c x text t rows (map events l.logs.now) l.received.now l.put.now
      → IsChartOf s routes states c o text
  is_chart x text s t routes rows named routed are is whole begins ends shown =
      let there : IsPageOf (entries_left o) x.page × AreWhole (entries_left o) x.page.rows = is_page x.page are is whole in
      let here : IsInForm c.request.form states c x text s routes (map events l.logs.now) l.received.now l.put.now =
      subst (λ (y : Structure). IsInForm c.request.form states c x text y routes (map events l.logs.now) l.received.now l.put.now) named
      (subst (λ (y : List TableRow). IsInForm c.request.form states c x text t y (map events l.logs.now) l.received.now l.put.now) routed shown) in
      record {
        drawn = x;
        is_page = there.0;
        whole = there.1;
        first = begins;
        past = ends;
        is = moved (IsInForm c.request.form states c x text s routes) _ _ _ _ _ _ are.0 are.1 are.2 here;
      }

-- a text that was written, where that ended whole
pub on_whole : {E : Type 0} (r : Result (Unit {0}) E) (P : Type 0) → OnOk r P → IsOk r → P
on_whole (Ok x) P wrote whole = wrote
on_whole (Err e) P wrote whole = absurd (false≢true whole)

-- why there is no text in a form is why there is no chart
pub no_chart : (c : Charting) (o : Outcome) (f : ChartFault) → IsWhyNoText c.request.form f → IsWhyNone c o f
no_chart c o (fault.Over rows) why = absurd why
no_chart c o fault.Lifelines why = why
no_chart c o fault.NotWhole why = why
no_chart c o fault.Memory why = why

abbrev is_none : {X : Type 0} → Option X → Type 0
is_none None = Unit {0}
is_none (Some x) = ⊥

-- what is refused of any form is refused of this one
pub any_form : (form : Option ChartForm) (f : ChartFault) → IsWhyNoText None f → IsWhyNoText form f
any_form form (fault.Over rows) why = why
any_form form fault.Lifelines why = absurd (subst is_none why tt)
any_form form fault.NotWhole why = absurd (subst is_none why tt)
any_form form fault.Memory why = why
