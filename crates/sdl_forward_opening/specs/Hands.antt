-- The ends that are handed out, station by station.
use Rattle.std.specs.Prelude.{◌≡◌, ℕ, zero, suc, ◌≤◌, Bool, true, false, List, [], ◌∷◌, ◌++◌, Option, Some, None, slice_get}
use Rattle.sdl_routes.specs.declared.route.Station.{Station}
use Rattle.sdl_queue.specs.Ends.{Opening, FeedEnd, TapEnd, fresh_feeds}
use Rattle.sdl_forward_ends.specs.Ends.{WorkerEnds, no_ends}
use Rattle.sdl_forward_opening.specs.declared.worker.Worker.{Worker}
use Rattle.sdl_forward_opening.specs.Workers.{taker}
use Rattle.sdl_forward_opening.specs.Puts.{count_true}
use Rattle.sdl_forward_opening.specs.Opens.{fresh_tap, IsOpenedAs}

-- the ends with one feed more, behind the others
abbrev pub with_feed : Station → FeedEnd → WorkerEnds → WorkerEnds
with_feed s f e = record { tap = e.tap; feeds = e.feeds ++ (s, f) ∷ [] }

-- the ends with this tap
abbrev pub with_tap : Station → TapEnd → WorkerEnds → WorkerEnds
with_tap s t e = record { tap = Some (s, t); feeds = e.feeds }

-- the feeds of a station are distributed in order to those that are marked
abbrev pub distributed : Station → List Bool → List FeedEnd → List WorkerEnds → List WorkerEnds
distributed s [] feeds all = all
distributed s (m ∷ marks) feeds [] = []
distributed s (true ∷ marks) [] (e ∷ all) = e ∷ distributed s marks [] all
distributed s (true ∷ marks) (f ∷ feeds) (e ∷ all) = with_feed s f e ∷ distributed s marks feeds all
distributed s (false ∷ marks) feeds (e ∷ all) = e ∷ distributed s marks feeds all

-- the list with the element at a place changed
abbrev pub changed_at : {X : Type 0} → (X → X) → ℕ → List X → List X
changed_at f k [] = []
changed_at f zero (x ∷ xs) = f x ∷ xs
changed_at f (suc k) (x ∷ xs) = x ∷ changed_at f k xs

-- so many workers without ends
abbrev pub all_empty : ℕ → List WorkerEnds
all_empty zero = []
all_empty (suc n) = no_ends ∷ all_empty n

-- the queue of one more station is opened: its feeds go to those that are marked, its tap to the taker, and there is room for it
pub record AddsQueue (workers : List Worker) (marks : List Bool) (s : Station) (old new : List WorkerEnds) (shelf later : List (Station × ℕ)) : Type 0 where
  pub opening : Opening
  pub place : ℕ
  pub there : slice_get workers place ≡ Some (taker s)
  pub kind : IsOpenedAs opening s (count_true marks)
  pub ends : new ≡ changed_at (with_tap s (fresh_tap opening (count_true marks))) place (distributed s marks (fresh_feeds opening (count_true marks)) old)
  pub room : ℕ
  pub enough : count_true marks ≤ room
  pub behind : later ≡ shelf ++ (s, room) ∷ []
