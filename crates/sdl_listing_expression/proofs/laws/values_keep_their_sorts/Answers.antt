use Rattle.sdl_listing_expression.proofs.KeepSorts.{value_sorted, value_legal}
use Rattle.sdl_listing_expression.proofs.laws.values_keep_their_sorts.Goals as goal

pub returns-clause-sorts : goal.returns-clause-sorts
returns-clause-sorts c = value_sorted

pub returns-clause-legal : goal.returns-clause-legal
returns-clause-legal c = value_legal
