use Rattle.sdl_run_recount.proofs.Compared.{compared}
use Rattle.sdl_run_recount.proofs.totals.Totals.are_those_of.Goals as goal

pub returns : goal.returns
returns c l adds = compared c.eq.result c.args.self.now c.totals_of.result l c.args.ledger.now c.eq.ensures c.totals_of.ensures adds
