use Rattle.sdl_run_laws.proofs.Serving.{own_kept, on_kept, gate_kept}
use Rattle.sdl_run_laws.proofs.ways.used_ends_keep_their_ways.Goals as goal

pub returns-clause-blocks : goal.returns-clause-blocks
returns-clause-blocks c = own_kept

pub returns-clause-forwarders : goal.returns-clause-forwarders
returns-clause-forwarders c = on_kept

pub returns-clause-gates : goal.returns-clause-gates
returns-clause-gates c = gate_kept
