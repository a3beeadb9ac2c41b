-- A part is told by what it has.
use Rattle.std.proofs.Common.{◌≡◌, Bool, List, subst}
use Rattle.sdl_chart_page.specs.declared.page.Row.{Row}
use Rattle.sdl_chart_drawing.specs.declared.traffic.Output.{Output}
use Rattle.sdl_chart_drawing.specs.declared.traffic.Arrival.{Arrival}
use Rattle.sdl_chart_drawing.specs.declared.shapes.Drawing.{Drawing}
use Rattle.sdl_chart_drawing.specs.Charts.{Part, IsChartOf}

pub same_part : (p : Part) (a : List Arrival) (o : List Output) (r : List Row) (h : Bool) (d : Drawing)
    → a ≡ p.arrivals → o ≡ p.outputs → r ≡ p.rows → h ≡ p.hides
    → IsChartOf (record { spot = p.spot; first = p.first; past = p.past; arrivals = a; outputs = o; rows = r; hides = h }) d
    → IsChartOf p d
same_part p a o r h d by_arrivals by_outputs by_rows by_hides chart =
    subst (λ (x : Bool). IsChartOf (record { spot = p.spot; first = p.first; past = p.past; arrivals = p.arrivals; outputs = p.outputs; rows = p.rows; hides = x }) d) by_hides
    (subst (λ (x : List Row). IsChartOf (record { spot = p.spot; first = p.first; past = p.past; arrivals = p.arrivals; outputs = p.outputs; rows = x; hides = h }) d) by_rows
    (subst (λ (x : List Output). IsChartOf (record { spot = p.spot; first = p.first; past = p.past; arrivals = p.arrivals; outputs = x; rows = r; hides = h }) d) by_outputs
    (subst (λ (x : List Arrival). IsChartOf (record { spot = p.spot; first = p.first; past = p.past; arrivals = x; outputs = o; rows = r; hides = h }) d) by_arrivals chart)))
