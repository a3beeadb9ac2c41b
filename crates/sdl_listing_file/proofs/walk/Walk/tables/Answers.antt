use Rattle.sdl_listing_file.proofs.TableLemmas.{tables_at-values}
use Rattle.sdl_listing_file.proofs.walk.Walk.tables.Goals as goal

pub returns-clause-tables : goal.returns-clause-tables
returns-clause-tables c = tables_at-values c.args.key _ c.in_ok-values.values.now c.in_ok-values.ensures.held
