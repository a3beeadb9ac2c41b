use Rattle.std.proofs.Common.{◌∙◌, List, Vec, map, ap}
use Rattle.sdl_chart_page.specs.Origins.{value_at}
use Rattle.sdl_chart_page.proofs.Values.{worker_pushed}
use Rattle.sdl_chart_page.proofs.by_origin.reach_worker.Goals as goal

pub loop-alloc-preserved : goal.loop-alloc-preserved
loop-alloc-preserved g c = λ o.
    ap (λ (vs : List (Vec _ _)). value_at (map (λ v. v.items) vs) o) c.in_ok-push.ensures.items
    ∙ (worker_pushed c.loop-alloc.lists.items c.new.result o c.new.ensures.items ∙ c.loop-alloc.invariant o)
