use Rattle.std.proofs.Common.{List, subst}
use Rattle.sdl_structure_parts.specs.Structure.{Structure}
use Rattle.sdl_routes.specs.declared.route.TableRow.{TableRow}
use Rattle.sdl_routes.specs.Routes.{AreRoutesOf}
use Rattle.sdl_routes.specs.Index.{IsIndexOf}
use Rattle.sdl_routes.proofs.ShownRoutes.{table_of}
use Rattle.sdl_routes.proofs.table.Routes.build.Goals as goal

pub invariant_of-result : goal.invariant_of-result
invariant_of-result c =
    let s = c.args.checked.now in
    let (are, few) = c.in_ok-rows.ensures.ok in
    let routes : AreRoutesOf s c.in_ok-rows.rows.items = subst (λ (t : Structure). AreRoutesOf t c.in_ok-rows.rows.items) c.structure.ensures.structure are in
    let index : IsIndexOf c.in_ok-rows.rows.items c.in-Ok.index = subst (λ (rows : List TableRow). IsIndexOf rows c.in-Ok.index) c.as_slice.ensures.value c.in-Ok.ensures in
    (table_of s c.structure.ensures.is_structure c.structure.ensures.well_formed c.in_ok-rows.rows.items routes few, index)

pub returns-in-Ok-clause-table : goal.returns-in-Ok-clause-table
returns-in-Ok-clause-table c =
    let s = c.args.checked.now in
    let (are, few) = c.in_ok-rows.ensures.ok in
    let routes : AreRoutesOf s c.in_ok-rows.rows.items = subst (λ (t : Structure). AreRoutesOf t c.in_ok-rows.rows.items) c.structure.ensures.structure are in
    table_of s c.structure.ensures.is_structure c.structure.ensures.well_formed c.in_ok-rows.rows.items routes few
