use Rattle.std.proofs.Common.{◌≡◌, ℕ, List, length, Some, slice_get, ap, sym, ◌∙◌, subst, arith}
use Rattle.std.proofs.lemmas.Option.{slice_get-get_or}
use Rattle.sdl_routes.specs.declared.route.TableRow.{TableRow}
use Rattle.sdl_routes.specs.Index.{AreEntries, list_at}
use Rattle.sdl_routes.proofs.index.Index.of.Goals as goal

pub loop-number-preserved : goal.loop-number-preserved
loop-number-preserved c =
    let rows : List TableRow = c.args.rows.now in
    let i = c.loop-number.number in
    let row : TableRow = c.index-rows-number.result in
    let at : slice_get rows i ≡ Some row = slice_get-get_or rows i row c.loop-number-test.true ∙ ap Some (sym c.index-rows-number.is) in
    c.in_ok-add.ensures rows at c.loop-number.invariant

pub returns : goal.returns
returns c = λ p g.
    let all : c.loop-number.number ≡ length c.args.rows.now = omega arith in
    subst (λ (n : ℕ). AreEntries c.args.rows.now n p g (list_at (list_at c.loop-number.index.groups.items p) g)) all (c.loop-number.invariant p g)
