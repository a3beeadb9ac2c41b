use Rattle.std.proofs.Common.{rules}
use Rattle.sdl_listing_file.proofs.NameLemmas.{name_there, name_added}
use Rattle.sdl_listing_file.proofs.groups.add_state.Goals as goal

pub returns-then-has_state-clause-names : goal.returns-then-has_state-clause-names
returns-then-has_state-clause-names c = name_there c.args.states.now.items c.args.text.now (search rules)

pub returns-in-Ok-clause-names : goal.returns-in-Ok-clause-names
returns-in-Ok-clause-names c = name_added c.args.states.now.items _ c.in-Some.name c.args.text.now (search rules) (search rules) (search rules)
