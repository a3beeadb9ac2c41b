use Rattle.sdl_run_ledger.proofs.Balanced.{balanced}
use Rattle.sdl_run_ledger.proofs.balance.balances.Goals as goal

pub returns : goal.returns
returns g c = balanced g.S.Agents.may
