use Rattle.std.proofs.Common.{rules}
use Rattle.sdl_structure_tables.proofs.TableLemmas.{elements_at-array}
use Rattle.sdl_structure_tables.proofs.walk.Walk.list.Goals as goal

pub returns-in-Some-as_array-clause-held : goal.returns-in-Some-as_array-clause-held
returns-in-Some-as_array-clause-held c = elements_at-array c.args.key _ c.in-Some.value.now _ (search rules) (search rules)
