use Rattle.std.proofs.Common.{arith}
use Rattle.sdl_instances_processes.proofs.Entries.{get_any}
use Rattle.sdl_instances_processes.proofs.ReadyCounts.{inside, lowered_by}
use Rattle.sdl_instances_processes.proofs.ready.lower.Goals as goal

pub returns : goal.returns
returns c =
    let items = c.args.counts.now.items in
    let within = inside items c.args.at 0 c.requires in
    let is = c.index_mut.ensures.value in
    let any = get_any items c.args.at 0 c.index_mut.result.now within in
    lowered_by items c.args.at _ within (omega (arith, is, any, c.requires))
