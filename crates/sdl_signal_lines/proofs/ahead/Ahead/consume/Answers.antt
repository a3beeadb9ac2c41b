use Rattle.std.proofs.Common.{◌+◌, ◌-◌, ◌≤◌, length, take, drop, arith, sym, ap, ◌∙◌}
use Rattle.std.proofs.lemmas.List.{length-take}
use Rattle.sdl_signal_lines.proofs.Waiting.{drop-slice_range}
use Rattle.sdl_signal_lines.proofs.ahead.Ahead.consume.Goals as goal

pub returns : goal.returns
returns c =
    let a = c.self.inside in
    let within : c.args.count ≤ length (take (a.end - a.start) (drop a.start a.block)) = rw c.self.view_is c.requires in
    let inside : a.start + c.args.count ≤ a.end = omega (arith, within, length-take (a.end - a.start) (drop a.start a.block), c.self.invariant) in
    sym (drop-slice_range a.block a.start c.args.count a.end inside) ∙ ap (drop c.args.count) c.self.view_is
