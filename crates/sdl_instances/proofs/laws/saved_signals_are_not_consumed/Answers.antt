use Rattle.sdl_instances.specs.Machine.{FitsAt}
use Rattle.sdl_instances.proofs.Saving.{fired_unsaved, implicit_unsaved}
use Rattle.sdl_instances.proofs.laws.saved_signals_are_not_consumed.Goals as goal

pub returns-clause-fired : goal.returns-clause-fired
returns-clause-fired g c = λ sys old new p i f step did stopped. fired_unsaved g.S.Agents.may (FitsAt sys.routes) sys p old i f step did.items stopped new

pub returns-clause-implicit : goal.returns-clause-implicit
returns-clause-implicit g c = λ sys old new p i f step did stopped. implicit_unsaved g.S.Agents.may (FitsAt sys.routes) sys p old i f step did.items stopped new
