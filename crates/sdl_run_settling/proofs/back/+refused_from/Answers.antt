use Rattle.std.proofs.Common.{length}
use Rattle.sdl_run_settling.proofs.Names.{first_later}
use Rattle.sdl_run_settling.proofs.back.+refused_from.Goals as goal

pub returns-clause-first : goal.returns-clause-first
returns-clause-first g t c = first_later c.args.done.now c.in-Some.rest.now c.in-Some.first.now c.in-Some.ensures.cases.0 c.args.number c.if-not-has_run.ensures c.refused_from.result c.refused_from.ensures.first
