-- The queues that a worker works at, by what puts and takes do there. (This project's own.)
use Rattle.std.specs.Prelude.{◌≡◌, ◌⊎◌, if◌then◌else◌, List, [], ◌∷◌, ◌++◌, Option, Some, None}
use Rattle.sdl_signal.specs.declared.values.Item.{Item}
use Rattle.sdl_routes.specs.declared.route.Station.{Station}
use Rattle.sdl_forward_ends.specs.Stations.{same_station}

-- Items that are put are told by station, each station's in order. Here none are put.
abbrev pub nothing : Station → List Item
nothing s = []

-- one is, at this station
abbrev pub one_at : Station → Item → Station → List Item
one_at s item t = if same_station s t then item ∷ [] else []

-- some are, and then more
abbrev pub with_more : (Station → List Item) → (Station → List Item) → Station → List Item
with_more put more s = put s ++ more s

-- How the queues stand, and how they stand after a put or a take by how they stood before. Each kind of queues has its own.
pub record Relations (B : Type 0) : Type 1 where
  -- an item can be put at the station
  pub CanPut : B → Station → Type 0
  -- no item is there to be taken at the station
  pub Empty : B → Station → Type 0
  -- these were put, and nothing else happened
  pub Puts : (Station → List Item) → B → B → Type 0
  -- these were put, and these taken at the worker's own station, and nothing else happened
  pub Moves : Station → (Station → List Item) → List Item → B → B → Type 0
  -- nothing was put or taken
  pub Still : B → B → Type 0
  pub puts_none : (b : B) → Puts nothing b b
  pub puts_then : (put more : Station → List Item) (a b c : B) → Puts put a b → Puts more b c → Puts (with_more put more) a c
  pub puts_move : (own : Station) (put : Station → List Item) (a b : B) → Puts put a b → Moves own put [] a b
  pub moves_then : (own : Station) (put : Station → List Item) (taken : List Item) (more : Station → List Item) (further : List Item) (a b c : B)
      → Moves own put taken a b → Moves own more further b c → Moves own (with_more put more) (taken ++ further) a c
  pub still_same : (b : B) → Still b b
  pub still_then : (a b c : B) → Still a b → Still b c → Still a c
  pub still_moves : (own : Station) (a b : B) → Still a b → Moves own nothing [] a b
  pub empty_before : (a b : B) (s : Station) → Still a b → Empty b s → Empty a s
  pub can_still : (own : Station) (put : Station → List Item) (taken : List Item) (a b : B) (s : Station) → Moves own put taken a b → CanPut a s → CanPut b s

-- An item to go on with: the one that was held, or else it was taken.
abbrev pub Fills : {B : Type 0} → Relations B → Station → Option Item → B → Item → B → Type 0
Fills q own held old item new = ((held ≡ Some item) × (new ≡ old)) ⊎ ((held ≡ None) × q.Moves own nothing (item ∷ []) old new)
