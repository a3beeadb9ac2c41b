use Rattle.std.proofs.Common.{◌-◌, ◌++◌, sum, take, vec_len, replicate, ap, ◌∙◌, arith}
use Rattle.std.proofs.lemmas.List.{take_all}
use Rattle.sdl_instances_processes.proofs.ReadyCounts.{zeros_behind}
use Rattle.sdl_instances_processes.proofs.ready.extend.Goals as goal

pub returns-in_ok-resize-clause-same : goal.returns-in_ok-resize-clause-same
returns-in_ok-resize-clause-same c n =
    let old = c.args.counts.now.items in
    let more = c.args.len - vec_len c.args.counts.now in
    let len = c.args.counts.now.ok.0 in
    let short = c.if-len.true in
    let all = take_all c.args.len old (omega (arith, short, len, c.len.ensures)) in
    ap (λ l. sum (take n l)) (c.in_ok-resize.ensures.items ∙ ap (λ l. l ++ replicate more 0) all) ∙ zeros_behind old more n
