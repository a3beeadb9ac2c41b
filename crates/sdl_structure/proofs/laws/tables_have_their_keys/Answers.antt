use Rattle.sdl_structure.proofs.RuleLemmas.{none_missing, none_of_wrong_type, none_unknown}
use Rattle.sdl_structure.proofs.laws.tables_have_their_keys.Goals as goal

pub returns : goal.returns
returns c = record { missing = none_missing; wrong = none_of_wrong_type; unknown = none_unknown }
