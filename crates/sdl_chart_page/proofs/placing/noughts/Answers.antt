use Rattle.std.proofs.Common.{ℕ, List, get_or, ap, ◌∙◌}
use Rattle.sdl_chart_page.proofs.Going.{nought_at}
use Rattle.sdl_chart_page.proofs.placing.noughts.Goals as goal

pub returns-clause-noughts : goal.returns-clause-noughts
returns-clause-noughts c = λ n. ap (λ (l : List ℕ). get_or l n 0) c.loop-number.invariant ∙ nought_at c.loop-number._number n
