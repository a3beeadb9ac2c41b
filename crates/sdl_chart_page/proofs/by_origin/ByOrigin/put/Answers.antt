use Rattle.std.proofs.Common.{◌<◌, ◌∙◌, ap, length, arith}
use Rattle.sdl_chart_page.specs.Origins.{with_value}
use Rattle.sdl_chart_page.proofs.Values.{vec_written}
use Rattle.sdl_chart_page.proofs.by_origin.ByOrigin.put.Goals as goal

pub returns-then-worker-len : goal.returns-then-worker-len
returns-then-worker-len g c =
    let less : c.args.origin.worker < length c.self.inside.lists.items = omega arith in
    vec_written c.self.inside.lists.items c.args.origin c.args.value c.index_mut.result.now c.write.new.list less c.index_mut.ensures.value c.write.ensures
    ∙ ap (λ b. with_value b c.args.origin c.args.value) c.self.view_is
