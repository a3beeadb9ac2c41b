-- What a step of a forwarder does, over any queues. (This project's own.)
use Rattle.std.specs.Prelude.{◌≡◌, ◌⊎◌, List, Some, None}
use Rattle.sdl_signal.specs.declared.values.Item.{Item}
use Rattle.sdl_routes.specs.declared.route.Hop.{Hop}
use Rattle.sdl_routes.specs.declared.route.TableRow.{TableRow}
use Rattle.sdl_routes.specs.declared.route.Station.{Station}
use Rattle.sdl_routes.specs.declared.route.Station.TheVariants.{Line}
use Rattle.sdl_routes.specs.Table.{IsTable}
use Rattle.sdl_forward.specs.declared.forwarder.Forwarded.{Forwarded}
use Rattle.sdl_forward.specs.declared.forwarder.Forwarded.TheVariants.{Moved, Idle, Held}
use Rattle.sdl_forward.specs.Forwards.{Forwarding, next_station}
use Rattle.sdl_forward.specs.Queues.{Relations, Fills, nothing, one_at}

-- an item can be put wherever its route can lead on from this path
abbrev pub CanPutOn : {B : Type 0} → Relations B → List TableRow → Hop → B → Type 0
CanPutOn q rows hop queues = (i : Item) (s : Station) → next_station rows (Line hop) i ≡ Some s → q.CanPut queues s

-- By its answer: the item is put at its next station; it is held; or there is none.
abbrev pub StepsBy : {B : Type 0} → Relations B → List TableRow → Forwarding → B → Forwarded → Forwarding → B → Type 0
StepsBy {B} q rows was old Moved is new =
    (item : Item) × (to : Station) × (mid : B) × Fills q (Line was.hop) was.held old item mid × (next_station rows (Line was.hop) item ≡ Some to) × IsTable rows × q.Puts (one_at to item) mid new
    × (is ≡ record { hop = was.hop; held = None })
StepsBy {B} q rows was old Held is new =
    (item : Item) × (mid : B) × Fills q (Line was.hop) was.held old item mid × ((new ≡ mid) ⊎ q.Puts nothing mid new) × (is ≡ record { hop = was.hop; held = Some item })
StepsBy q rows was old Idle is new = (was.held ≡ None) × q.Still old new × q.Empty old (Line was.hop) × (is ≡ record { hop = was.hop; held = None })
