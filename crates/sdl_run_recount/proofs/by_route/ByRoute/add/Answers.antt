use Rattle.std.proofs.Common.{[], ◌∷◌, ◌++◌, ap, ◌∙◌}
use Rattle.sdl_signal.specs.declared.values.Item.{Item}
use Rattle.sdl_run_recount.proofs.Sorting.{put_at}
use Rattle.sdl_run_recount.proofs.by_route.ByRoute.add.Goals as goal

pub returns : goal.returns
returns c =
    let i = c.args.item.now in
    let old = c.args.self.now.lists.items in
    put_at (λ v. v.items) old i c.index_mut.result.now c.push.new.self c.requires c.index_mut.ensures.value (c.in_ok-push.ensures.items ∙ ap (λ (j : Item). c.index_mut.result.now.items ++ j ∷ []) c.copied_item.ensures)
