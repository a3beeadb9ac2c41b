use Rattle.std.proofs.Common.{rules}
use Rattle.sdl_structure_tables.proofs.TableLemmas.{has_tables, tables_at-values}
use Rattle.sdl_structure_tables.proofs.FaultLemmas.{wrong_tables}
use Rattle.sdl_structure_tables.proofs.walk.Walk.tables.Goals as goal

pub returns-then-not-all_tables-clause-fault : goal.returns-then-not-all_tables-clause-fault
returns-then-not-all_tables-clause-fault c = wrong_tables _ _ c.args.key c.in_ok-values.values.now c.requires.here c.requires.listed c.at.ensures c.requires.kind c.in_ok-values.ensures.held (search rules)

pub returns-clause-kind : goal.returns-clause-kind
returns-clause-kind c = has_tables c.args.key _ c.in_ok-values.values.now c.requires.kind c.in_ok-values.ensures.held (search rules) c.in_ok-values.ensures.there

pub returns-clause-tables : goal.returns-clause-tables
returns-clause-tables c = tables_at-values c.args.key _ c.in_ok-values.values.now c.in_ok-values.ensures.held (search rules)
