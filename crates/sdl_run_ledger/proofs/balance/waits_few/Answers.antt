use Rattle.sdl_run_ledger.proofs.Balanced.{few_waits}
use Rattle.sdl_run_ledger.proofs.balance.waits_few.Goals as goal

pub returns : goal.returns
returns g c = few_waits g.S.Agents.may
