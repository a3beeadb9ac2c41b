-- The feeds that a worker still holds.
use Rattle.std.specs.Prelude.{List, [], ◌∷◌, Option, Some, None}
use Rattle.sdl_routes.specs.declared.route.Station.{Station}
use Rattle.sdl_queue.specs.Ends.{FeedEnd}

-- the place of a feed, with the feed where it was not given back
abbrev pub Place : Type 0
Place = Station × Option FeedEnd

abbrev pub with_feed : Station → Option FeedEnd → List (Station × FeedEnd) → List (Station × FeedEnd)
with_feed s None feeds = feeds
with_feed s (Some f) feeds = (s, f) ∷ feeds

-- the feeds that were not given back
abbrev pub feeds_held : List Place → List (Station × FeedEnd)
feeds_held [] = []
feeds_held (p ∷ places) = with_feed p.0 p.1 (feeds_held places)

-- none was given back
abbrev pub filled : Station × FeedEnd → Place
filled f = (f.0, Some f.1)
