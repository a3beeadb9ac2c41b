use Rattle.std.proofs.Common.{◌+◌, refl}
use Rattle.sdl_instances_processes.proofs.ReadyCounts.{noted}
use Rattle.sdl_instances_processes.proofs.ready.ReadyCounts.note.Goals as goal

pub returns-clause-counts : goal.returns-clause-counts
returns-clause-counts c old new are more fits =
    noted c.args.self.now (record { count = c.args.self.now.count + 1; places = c.raise.new.counts; groups = c.raise-2.new.counts; ranges = c.raise-3.new.counts }) c.args.place old new are more fits
    refl c.raise.ensures c.raise-2.ensures c.raise-3.ensures
