use Rattle.std.proofs.Common.{◌-◌, arith}
use Rattle.sdl_instances_processes.proofs.ReadyCounts.{forgotten, some_count, some_places, some_groups, some_ranges}
use Rattle.sdl_instances_processes.proofs.ready.ReadyCounts.forget.Goals as goal

pub overflow_sub-self : goal.overflow_sub-self
overflow_sub-self c =
    let (old, new, are, more, within) = c.requires in
    let some = some_count c.args.self.now c.args.place old new are more in
    omega (arith, some)

pub lower-requires : goal.lower-requires
lower-requires c =
    let (old, new, are, more, within) = c.requires in
    let fits = are.within in
    some_places c.args.self.now c.args.place old new are more (omega (arith, within, fits))

pub lower-requires-2 : goal.lower-requires-2
lower-requires-2 c =
    let (old, new, are, more, within) = c.requires in
    let fits = are.within in
    some_groups c.args.self.now c.args.place old new are more (omega (arith, within, fits))

pub lower-requires-3 : goal.lower-requires-3
lower-requires-3 c =
    let (old, new, are, more, within) = c.requires in
    let fits = are.within in
    some_ranges c.args.self.now c.args.place old new are more (omega (arith, within, fits))

pub returns-clause-counts : goal.returns-clause-counts
returns-clause-counts c old new are more fits =
    let some = some_count c.args.self.now c.args.place old new are more in
    forgotten c.args.self.now (record { count = c.args.self.now.count - 1; places = c.lower.new.counts; groups = c.lower-2.new.counts; ranges = c.lower-3.new.counts }) c.args.place old new are more fits
    (omega (arith, some)) c.lower.ensures c.lower-2.ensures c.lower-3.ensures
