use Rattle.std.proofs.Common.{arith}
use Rattle.sdl_instances_processes.proofs.Entries.{get_any}
use Rattle.sdl_instances_processes.proofs.ReadyCounts.{raised}
use Rattle.sdl_instances_processes.proofs.ready.raise.Goals as goal

pub returns : goal.returns
returns c =
    let items = c.args.counts.now.items in
    let is = c.index_mut.ensures.value in
    let any = get_any items c.args.at 0 c.index_mut.result.now c.requires.within in
    raised items c.args.at _ c.requires.within (omega (arith, is, any))
