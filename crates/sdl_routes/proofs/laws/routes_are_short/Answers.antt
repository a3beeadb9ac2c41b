use Rattle.sdl_routes.proofs.Ranks.{routes_short}
use Rattle.sdl_routes.proofs.ShownRoutes.{shown_route}
use Rattle.sdl_routes.proofs.laws.routes_are_short.Goals as goal

pub returns : goal.returns
returns c =
    let s = c.args.checked.now in
    record {
      short = routes_short s c.structure-structure.ensures.is_structure c.structure-structure.ensures.well_formed;
      shown = shown_route s c.structure-structure.ensures.is_structure c.structure-structure.ensures.well_formed;
    }
