use Rattle.std.proofs.Common.{true, List, ◌++◌, flat_map, ap, ◌∙◌, append_assoc}
use Rattle.sdl_chart_msc.specs.declared.places.Place.{Place}
use Rattle.sdl_chart_msc.specs.Places.{place_of, made_in}
use Rattle.sdl_chart_msc.proofs.Written.{on_ok}
use Rattle.sdl_chart_msc.proofs.places.add_turn.Goals as goal

pub returns : goal.returns
returns c =
    on_ok c.add_all_made.result _ _
    (λ e. e ∙ (ap (λ (ps : List Place). ps ++ flat_map (made_in c.args.row) c.args.done.now) c.in_ok-add.ensures ∙ append_assoc c.args.places.now.items (place_of true c.args.row c.args.pid) (flat_map (made_in c.args.row) c.args.done.now))) c.add_all_made.ensures
