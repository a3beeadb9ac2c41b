-- What the lines of a chart are written by, beside their events. (This project's own.)
use Rattle.std.specs.Prelude.{ℕ, ◌+◌, nat_lt, Bool, false, List, [], ◌++◌, length, Option, None, Some, if◌then◌else◌, option_and_then, option_map, unwrap_or, slice_get, codes, decimal}
use Rattle.sdl_signal.specs.declared.ids.RouteId.{RouteId}
use Rattle.sdl_signal.specs.declared.ids.SetId.{SetId}
use Rattle.sdl_signal.specs.declared.ids.StateId.{StateId}
use Rattle.sdl_signal.specs.declared.values.Origin.{Origin}
use Rattle.sdl_signal.specs.declared.values.Pid.{Pid}
use Rattle.sdl_signal.specs.declared.values.Pid.TheVariants as pid
use Rattle.sdl_structure_parts.specs.Structure.{Structure}
use Rattle.sdl_routes.specs.declared.route.Route.{Route}
use Rattle.sdl_routes.specs.declared.route.Hop.{Hop}
use Rattle.sdl_routes.specs.declared.route.EndPoint.{EndPoint}
use Rattle.sdl_routes.specs.declared.route.EndPoint.TheVariants as ends
use Rattle.sdl_routes.specs.declared.route.Station.{Station}
use Rattle.sdl_routes.specs.declared.route.Station.TheVariants as station
use Rattle.sdl_routes.specs.declared.route.TableRow.{TableRow}
use Rattle.sdl_forward_opening.specs.declared.worker.Worker.{Worker}
use Rattle.sdl_forward_opening.specs.declared.worker.Worker.TheVariants as worker
use Rattle.sdl_instances_log.specs.declared.event.Event.{Event}
use Rattle.sdl_app_file_commands.specs.Texts.{set_text, block_text, channel_text, gate_text}
use Rattle.sdl_chart_page.specs.declared.page.Row.{Row}
use Rattle.sdl_chart_page.specs.declared.page.Spot.{Spot}
use Rattle.sdl_chart_page.specs.Entries.{Entry, entry_at, entries_of}
use Rattle.sdl_chart_page.specs.Origins.{value_at}
use Rattle.sdl_chart_page.specs.Pages.{Sheet, spot_at}
use Rattle.sdl_chart_text.specs.declared.left.Left.{Left}
use Rattle.sdl_chart_text.specs.declared.left.Left.TheVariants as lefts
use Rattle.sdl_chart_text.specs.declared.chart.Chart.{Chart}

-- The structure and its routes; the names of the states of each set; where each output stands on the page; in which rows several items
-- are sent; and where the items are that did not arrive.
pub record Legend : Type 0 where
  pub structure : Structure
  pub routes : List TableRow
  pub states : List (List (List ℕ))
  pub spot : Origin → Option Spot
  pub several : ℕ → Bool
  pub left : Origin → Left

-- several items are sent in an event, and in the row
abbrev pub has_several : Option Entry → Bool
has_several None = false
has_several (Some e) = nat_lt 1 (length e.sent)

abbrev pub sends_several : List (List Entry) → List Row → ℕ → Bool
sends_several lists rows n = has_several (option_and_then (λ (r : Row). entry_at lists r.list r.number) (slice_get rows n))

-- what the lines of a page are written by
abbrev pub legend_with : Structure → List TableRow → List (List (List ℕ)) → List (List Entry) → Sheet → (Origin → Left) → Legend
legend_with s routes states lists page left =
    record { structure = s; routes = routes; states = states; spot = spot_at page; several = sends_several lists page.rows; left = left }

-- the same of a chart
abbrev pub legend_of : {K : Type 0} → (K → List Event) → Chart K → Legend
legend_of events c =
    legend_with c.structure.now c.routes.now c.states.now (entries_of events c.lists.now) c.page.now (λ o. unwrap_or (value_at c.left.now o) lefts.Nowhere)

-- the route of a number
abbrev pub route_at : List TableRow → RouteId → Option Route
route_at routes r = option_map (λ row. row.route) (slice_get routes r.0)

-- the names of the gates at which it starts and ends, and of the set at which it ends, or `env`
abbrev pub start_text : Structure → List TableRow → RouteId → List ℕ
start_text s routes r = unwrap_or (option_map (λ (route : Route). gate_text s route.start) (route_at routes r)) []

abbrev pub end_gate_text : Structure → List TableRow → RouteId → List ℕ
end_gate_text s routes r = unwrap_or (option_map (λ (route : Route). gate_text s route.end_gate) (route_at routes r)) []

abbrev pub end_point_text : Structure → EndPoint → List ℕ
end_point_text s (ends.Set set) = set_text s set
end_point_text s (ends.Environment gate) = codes "env"

abbrev pub finish_text : Structure → List TableRow → RouteId → List ℕ
finish_text s routes r = unwrap_or (option_map (λ (route : Route). end_point_text s route.end) (route_at routes r)) []

-- the name of a state of a set, and of an instance
abbrev pub state_text : List (List (List ℕ)) → SetId → StateId → List ℕ
state_text states set state = unwrap_or (option_and_then (λ names. slice_get names state.0) (slice_get states set.0)) []

abbrev pub state_of : List (List (List ℕ)) → Pid → StateId → List ℕ
state_of states pid.Null state = []
state_of states pid.Env state = []
state_of states (pid.Inst set serial) state = state_text states set state

-- where the item of an output was output: its line, and its place in it where several were sent there
abbrev pub among_text : Bool → ℕ → List ℕ
among_text several place = if several then codes "." ++ decimal (place + 1) else []

abbrev pub spot_text : Legend → Origin → List ℕ
spot_text g o = elim (g.spot o) [ None ↦ [] | Some s ↦ codes " @" ++ decimal (s.row + 1) ++ among_text (g.several s.row) s.among ]

-- a path of a channel, a worker, and a station
abbrev pub hop_text : Structure → Hop → List ℕ
hop_text s hop = channel_text s hop.channel ++ (if hop.back then codes "-" else codes "+")

abbrev pub worker_text : Structure → Worker → List ℕ
worker_text s (worker.Block block) = block_text s block
worker_text s worker.Environment = codes "env"
worker_text s (worker.Forwarder hop) = hop_text s hop

abbrev pub station_text : Structure → Station → List ℕ
station_text s (station.Line hop) = hop_text s hop
station_text s (station.Inlet block) = codes "inlet of " ++ block_text s block
station_text s station.Outlet = codes "outlet"

-- where an item is that did not arrive, and the same behind its output
abbrev pub place_text : Structure → Left → List ℕ
place_text s lefts.Nowhere = []
place_text s (lefts.At at) = codes "left in " ++ station_text s at
place_text s (lefts.InHand w) = codes "left in hand of " ++ worker_text s w
place_text s (lefts.KeptBy w) = codes "kept by " ++ worker_text s w

abbrev pub comma_text : Left → List ℕ
comma_text lefts.Nowhere = []
comma_text _ = codes ", "

abbrev pub left_text : Structure → Left → List ℕ
left_text s left = comma_text left ++ place_text s left

-- the same of the item of an output, by the places of all items
abbrev pub left_at : List (List Left) → Origin → Left
left_at places o = unwrap_or (value_at places o) lefts.Nowhere

abbrev pub reason_of : Structure → List (List Left) → Origin → List ℕ
reason_of s places o = place_text s (left_at places o)
