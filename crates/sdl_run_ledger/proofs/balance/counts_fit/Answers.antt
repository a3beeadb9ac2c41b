use Rattle.sdl_run_ledger.proofs.Balanced.{counts_fit}
use Rattle.sdl_run_ledger.proofs.balance.counts_fit.Goals as goal

pub returns : goal.returns
returns g c = counts_fit g.S.Agents.may
