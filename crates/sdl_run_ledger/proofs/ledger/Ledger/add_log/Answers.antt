use Rattle.sdl_run_ledger.proofs.Adding.{counts_fit, counts_add}
use Rattle.sdl_run_ledger.proofs.ledger.Ledger.add_log.Goals as goal

pub add_counts-requires : goal.add_counts-requires
add_counts-requires g c = counts_fit (g.K.LogStore.events c.args._log.now) c.args.counts.now c.requires.counts c.args.self.now c.requires.fits

pub returns : goal.returns
returns g c = counts_add (g.K.LogStore.events c.args._log.now) c.args.counts.now c.requires.counts c.args.self.now c.add_counts.new.self c.add_counts.ensures
