use Rattle.std.proofs.Common.{◌∙◌, ◌<◌, map, length, set, ap}
use Rattle.std.specs.Prelude.{IsSome}
use Rattle.sdl_chart_page.specs.Origins.{value_at}
use Rattle.sdl_chart_page.proofs.Values.{room_there, grown_there, grown_after}
use Rattle.sdl_chart_page.proofs.Texts.{on_ok}
use Rattle.sdl_chart_page.proofs.by_origin.ByOrigin.reach.Goals as goal

pub returns-clause-room : goal.returns-clause-room
returns-clause-room g c =
    let o = c.args.origin in
    let lists = c.reach_worker.new.lists.items in
    on_ok c.reach_place.result (o.number < length c.reach_place.new.list.items) (IsSome (value_at (map (λ v. v.items) (set lists o.worker c.reach_place.new.list)) o))
    (λ inside. room_there lists o c.index_mut.result.now c.reach_place.new.list c.in_ok-reach_worker.ensures.room c.index_mut.ensures.value inside)
    c.reach_place.ensures.room

pub returns-clause-grown : goal.returns-clause-grown
returns-clause-grown g c =
    let o = c.args.origin in
    let lists = c.reach_worker.new.lists.items in
    grown_after c.args.value c.args.self.now (map (λ v. v.items) lists) _ (λ p. c.reach_worker.ensures.same p ∙ ap (λ b. value_at b p) c.self.view_is)
    (grown_there lists o c.index_mut.result.now c.reach_place.new.list c.in_ok-reach_worker.ensures.room c.index_mut.ensures.value c.args.value c.reach_place.ensures.longer)
