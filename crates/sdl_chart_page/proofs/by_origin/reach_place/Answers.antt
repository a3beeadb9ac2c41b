use Rattle.std.proofs.Common.{sym, subst}
use Rattle.sdl_chart_page.specs.Origins.{IsLonger}
use Rattle.sdl_chart_page.proofs.Values.{as_long, longer_pushed}
use Rattle.sdl_chart_page.proofs.by_origin.reach_place.Goals as goal

pub loop-value-init : goal.loop-value-init
loop-value-init g c = as_long c.args.value c.args.list.now.items

pub loop-value-preserved : goal.loop-value-preserved
loop-value-preserved g c = subst (IsLonger c.args.value c.args.list.now.items) (sym c.in_ok-push.ensures.items) (longer_pushed c.args.value c.args.list.now.items c.loop-value.list.items c.loop-value.invariant)
