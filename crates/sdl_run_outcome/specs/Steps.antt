-- What one serial step does to the books.
use Rattle.std.specs.Prelude.{Bool, false, List, [], ◌∷◌, ◌++◌, ◌≡◌, ◌≢◌, ◌⊎◌, Option, Some, None}
use Rattle.std.specs.List.{filter, AllByRecursion}
use Rattle.sdl_signal.specs.declared.values.Item.{Item}
use Rattle.sdl_routes.specs.declared.route.Hop.{Hop}
use Rattle.sdl_routes.specs.declared.route.Station.{Station}
use Rattle.sdl_routes.specs.declared.route.Station.TheVariants.{Line}
use Rattle.sdl_forward_opening.specs.declared.worker.Worker.{Worker}
use Rattle.sdl_forward_opening.specs.declared.worker.Worker.TheVariants.{Forwarder}
use Rattle.sdl_block_hand.specs.Work.{is_station}
use Rattle.sdl_run_outcome.specs.Stations.{Ways, IsAgent, next, place}
use Rattle.sdl_run_outcome.specs.Books.{Books, standing}

-- the items that w brings to s
abbrev pub bound_for : Ways → Worker → Station → List Item → List Item
bound_for t w s xs = filter (λ (i : Item). is_station s (next t w i.route.0)) xs

-- nothing happened at agent w
pub record IsUnchangedAt (w : Worker) (b c : Books) : Type 0 where
  pub sent : c.sent w ≡ b.sent w
  pub arrived : c.arrived w ≡ b.arrived w
  pub outgoing : c.outgoing w ≡ b.outgoing w

-- nothing moved from one place to another: an idle step, a forwarder that took an item and holds it, a queue made serial
pub record IsStill (b c : Books) : Type 0 where
  pub stations : (s : Station) → standing c s ≡ standing b s
  pub agents : (w : Worker) → IsAgent w → IsUnchangedAt w b c

-- the forwarder of h brings what stands first at its station to the back of the next
pub record BringsOn (t : Ways) (h : Hop) (b c : Books) : Type 0 where
  pub item : Item
  pub to : Station
  pub goes : next t (Forwarder h) item.route.0 ≡ Some to
  pub takes : standing b (Line h) ≡ item ∷ standing c (Line h)
  pub puts : standing c to ≡ standing b to ++ item ∷ []
  pub others : (s : Station) → s ≢ Line h → s ≢ to → standing c s ≡ standing b s
  pub agents : (w : Worker) → IsAgent w → IsUnchangedAt w b c

-- agent w sends, puts out what it sent, and lets in what stands first at its station
pub record Acts (t : Ways) (w : Worker) (b c : Books) : Type 0 where
  pub agent : IsAgent w
  pub new : List Item
  pub put : List Item
  pub sends : c.sent w ≡ b.sent w ++ new
  pub starts : AllByRecursion (λ (i : Item). t.start i.route.0 ≡ w) new
  pub hand : put ++ c.outgoing w ≡ b.outgoing w ++ new
  pub lets_in : c.arrived w ++ standing c (place w) ≡ (b.arrived w ++ standing b (place w)) ++ bound_for t w (place w) put
  pub others : (s : Station) → s ≢ place w → standing c s ≡ standing b s ++ bound_for t w s put
  pub agents : (v : Worker) → IsAgent v → v ≢ w → IsUnchangedAt v b c

-- one step of the serial driver
abbrev pub Steps : Ways → Books → Books → Type 0
Steps t b c = IsStill b c ⊎ (((h : Hop) × BringsOn t h b c) ⊎ ((w : Worker) × Acts t w b c))
