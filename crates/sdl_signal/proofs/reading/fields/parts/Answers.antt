use Rattle.std.proofs.Common.{rules}
use Rattle.sdl_signal.proofs.LineParts.{taken_values, taken_to}
use Rattle.sdl_signal.proofs.reading.fields.parts.Goals as goal

pub returns-then-eq-clause-values : goal.returns-then-eq-clause-values
returns-then-eq-clause-values c = taken_values c.args.found.now c.if-count-ge4.true (search rules)

pub returns-then-eq-clause-to : goal.returns-then-eq-clause-to
returns-then-eq-clause-to c = taken_to c.args.found.now c.if-count-ge4.true (search rules)
