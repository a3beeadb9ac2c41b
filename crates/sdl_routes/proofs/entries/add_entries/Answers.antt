use Rattle.std.proofs.Common.{subst}
use Rattle.sdl_routes.specs.declared.route.Wish.{Wish}
use Rattle.sdl_routes.specs.Index.{HasEntry}
use Rattle.sdl_routes.proofs.Indexed.{wish_is, on_ok}
use Rattle.sdl_routes.proofs.entries.add_entries.Goals as goal

pub returns : goal.returns
returns c =
    on_ok c.note_each.result
    (λ more rows p g at stands are. more rows p g at
    (λ w fits there. subst (λ (x : Wish). HasEntry c.open_entries.new.entries.items x) (wish_is c.args.row.now c.args.goal p g w fits there stands.goal)
    (c.in_ok-open_entries.ensures.there w.via fits.via))
    (c.in_ok-open_entries.ensures.kept rows c.args.number p g (λ v. record { group = stands.group; goal = stands.goal }) are))
    c.note_each.ensures
