use Rattle.std.proofs.Common.{◌≡◌, ℕ, ◌+◌, true, false, List, take, sym, subst, refl}
use Rattle.sdl_routes.specs.Routes.{AreFitting}
use Rattle.sdl_routes.proofs.Indexed.{noted, skipped}
use Rattle.sdl_routes.proofs.entries.Entry.note.Goals as goal

pub returns-in_ok-push-clause-numbers : goal.returns-in_ok-push-clause-numbers
returns-in_ok-push-clause-numbers c rows at are =
    let w = c.args.self.now.wish in
    subst (λ (l : List ℕ). AreFitting w 0 (take (c.args.number + 1) rows) l) (sym c.in_ok-push.ensures.items)
    (noted w rows c.args.number c.args.row.now c.args.self.now.numbers.items at (c.if-fits.ensures.0 refl) are)

pub returns-else-fits-clause-numbers : goal.returns-else-fits-clause-numbers
returns-else-fits-clause-numbers c rows at are =
    skipped c.args.self.now.wish rows c.args.number c.args.row.now c.args.self.now.numbers.items at
    (λ fits. let e : false ≡ true = c.if-fits.ensures.1 fits in cc) are
