use Rattle.std.proofs.Common.{◌≡◌, replicate}
use Rattle.sdl_chart_msc.specs.declared.messages.Fate.TheVariants as fate
use Rattle.sdl_chart_msc.proofs.messages.all_astray.Given as goal

abbrev pub invariant-loop-number : goal.invariant-loop-number
invariant-loop-number l = l.fates.items ≡ replicate l._number fate.Astray
