use Rattle.sdl_run_driver.proofs.Finish.{ended}
use Rattle.sdl_run_driver.proofs.laws.has_ended.Goals as goal

pub returns : goal.returns
returns g c = λ plan site end ledger ok work ends counts. ended g.S.Agents.may plan ok site work end ledger ends counts
