use Rattle.std.proofs.Common.{ℕ, List, [], refl, subst}
use Rattle.sdl_routes.specs.declared.route.TableRow.{TableRow}
use Rattle.sdl_routes.specs.Routes.{AreFitting}
use Rattle.sdl_routes.proofs.Groups.{chosen, none_chosen}
use Rattle.sdl_routes.proofs.table.Routes.choose.Goals as goal

pub returns-in-Some-clause-choice : goal.returns-in-Some-clause-choice
returns-in-Some-clause-choice c =
    let w = c.args.wish.now in
    let numbers : List ℕ = c.in-Some.entry.now.numbers.items in
    let found = c.in-Some.ensures.found in
    let are : AreFitting w 0 c.self.inside.rows.items numbers =
    chosen c.self.inside.rows.items c.self.inside.index w c.in-Some.entry.now c.self.invariant.1 found.0 found.1 in
    (numbers, subst (λ (rows : List TableRow). AreFitting w 0 rows numbers) c.self.view_is are, c.at.ensures)

pub returns-in-None-clause-choice : goal.returns-in-None-clause-choice
returns-in-None-clause-choice c =
    let w = c.args.wish.now in
    let are : AreFitting w 0 c.self.inside.rows.items [] =
    none_chosen c.self.inside.rows.items c.self.inside.index w c.self.invariant.1 c.in-None.ensures.none in
    ([], subst (λ (rows : List TableRow). AreFitting w 0 rows []) c.self.view_is are, refl)
