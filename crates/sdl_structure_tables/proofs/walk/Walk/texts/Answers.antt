use Rattle.std.proofs.Common.{rules}
use Rattle.sdl_structure_tables.proofs.TableLemmas.{has_texts}
use Rattle.sdl_structure_tables.proofs.FaultLemmas.{wrong_texts}
use Rattle.sdl_structure_tables.proofs.walk.Walk.texts.Goals as goal

pub returns-then-not-all_texts-clause-fault : goal.returns-then-not-all_texts-clause-fault
returns-then-not-all_texts-clause-fault c = wrong_texts _ _ c.args.key c.in_ok-values.values.now c.requires.here c.requires.listed c.at.ensures c.requires.texts c.in_ok-values.ensures.held (search rules)

pub returns-clause-kind : goal.returns-clause-kind
returns-clause-kind c = has_texts c.args.key _ c.in_ok-values.values.now c.requires.texts c.in_ok-values.ensures.held (search rules) c.in_ok-values.ensures.there
