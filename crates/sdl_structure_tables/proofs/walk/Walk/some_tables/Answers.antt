use Rattle.std.proofs.Common.{rules, ◌≡◌, ◌≢◌, None, length}
use Rattle.sdl_structure_tables.specs.Tables.{data_at}
use Rattle.sdl_structure_tables.specs.Walks.{own}
use Rattle.sdl_structure_tables.proofs.FaultLemmas.{empty_list}
use Rattle.sdl_structure_tables.proofs.walk.Walk.some_tables.Goals as goal

pub returns-then-is_empty-clause-fault : goal.returns-then-is_empty-clause-fault
returns-then-is_empty-clause-fault c =
    let vs = c.in_ok-values.values.now in
    let none : length vs ≡ 0 = search rules in
    let there : data_at c.args.key (own c.args.self.now) ≢ None = search rules in
    empty_list c.args.self.now _ c.args.key vs c.requires.here c.requires.listed c.at-then-is_empty.ensures c.requires.some c.in_ok-values.ensures.held none there
