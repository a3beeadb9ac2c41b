use Rattle.sdl_structure_parts.proofs.Only.{only_first}
use Rattle.sdl_structure_parts.proofs.Whole.{holds_never_applies, holds_everywhere}
use Rattle.sdl_structure_parts.proofs.checking.check.Goals as goal

pub returns-in-Some-clause-only : goal.returns-in-Some-clause-only
returns-in-Some-clause-only c = λ other first.
    only_first c.args.structure other c.in-Some.fault first c.in-Some.ensures.some

pub returns-in-Some-clause-total : goal.returns-in-Some-clause-total
returns-in-Some-clause-total c = λ well.
    absurd (holds_never_applies c.args.structure c.in-Some.fault (holds_everywhere c.args.structure well c.in-Some.fault) c.in-Some.ensures.some.applies)
