use Rattle.sdl_run_ledger.proofs.Ports.{ports_balance, few_wait}
use Rattle.sdl_run_ledger.proofs.balance.ports_balance.Goals as goal

pub returns : goal.returns
returns g c = record { all = ports_balance g.S.Agents.may; few = few_wait g.S.Agents.may }
