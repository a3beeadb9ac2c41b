use Rattle.std.proofs.Common.{List, ap, sym, ◌∙◌, subst}
use Rattle.sdl_routes.specs.declared.route.Station.{Station}
use Rattle.sdl_queue.specs.Ends.{FeedEnd}
use Rattle.sdl_forward_ends.specs.Stations.{stations_of}
use Rattle.sdl_forward_ends.specs.Index.{IsIndexOf}
use Rattle.sdl_forward_ends.specs.FeedsLeft.{feeds_held}
use Rattle.sdl_forward_ends.proofs.FeedsLeft.{filled_held, filled_stations}
use Rattle.sdl_forward_ends.proofs.ends.Ends.new.Goals as goal

pub invariant_of-result : goal.invariant_of-result
invariant_of-result c =
    subst (IsIndexOf c.in_ok-index.index) (ap stations_of c.as_slice.ensures.value ∙ (sym (filled_stations c.args.feeds.items) ∙ sym (ap stations_of c.in_ok-feeds.ensures))) c.in_ok-index.ensures

pub returns : goal.returns
returns c =
    ap (λ (fs : List (Station × FeedEnd)). record { tap = c.args.tap; feeds = fs }) (ap feeds_held c.in_ok-feeds.ensures ∙ filled_held c.args.feeds.items)
