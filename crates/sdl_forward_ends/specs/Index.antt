-- Where the entry of each station stands in a list.
use Rattle.std.specs.Prelude.{◌≡◌, ℕ, List, Option, Some, None, slice_get, unwrap_or}
use Rattle.sdl_routes.specs.declared.route.Station.{Station}
use Rattle.sdl_routes.specs.declared.route.Station.TheVariants.{Line, Inlet, Outlet}
use Rattle.sdl_routes.specs.Routes.{hop_number}
use Rattle.sdl_forward_ends.specs.declared.index.Index.{Index}

-- the place that a list of places has for a number
abbrev pub place_at : List (Option ℕ) → ℕ → Option ℕ
place_at places number = unwrap_or (slice_get places number) None

-- the place that the index has for a station
abbrev pub place_of : Index → Station → Option ℕ
place_of index (Line h) = place_at index.lines.items (hop_number h)
place_of index (Inlet b) = place_at index.inlets.items b.0
place_of index Outlet = index.outlet

-- the index has a place for exactly the stations of the list, and it is theirs
pub record IsIndexOf (index : Index) (stations : List Station) : Type 0 where
  pub every : (s : Station) (k : ℕ) → slice_get stations k ≡ Some s → place_of index s ≡ Some k
  pub only : (s : Station) (k : ℕ) → place_of index s ≡ Some k → slice_get stations k ≡ Some s
