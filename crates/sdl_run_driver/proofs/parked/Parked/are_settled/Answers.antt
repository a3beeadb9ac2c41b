use Rattle.std.proofs.Common.{refl, sym, ◌∙◌, arith}
use Rattle.std.proofs.lemmas.Bool.{false≢true}
use Rattle.sdl_block.specs.Workers.{worker_of}
use Rattle.sdl_run_driver.specs.Stopped.{site_of_parked}
use Rattle.sdl_run_driver.specs.Drivers.{AreDone}
use Rattle.sdl_run_driver.proofs.Scans.{one_further, all_seen, mapped_in, past_in}
use Rattle.sdl_run_driver.proofs.parked.Parked.are_settled.Goals as goal

pub returns-then-not-is_settled : goal.returns-then-not-is_settled
returns-then-not-is_settled g c = (
  c.loop-number.number,
  worker_of c.index.result.now,
  mapped_in worker_of c.args.self.now.system.blocks.items c.args.self.now.system.blocks.items refl c.loop-number.number c.index.result.now (omega (arith, c.loop-number-test.true, c.len-number-end.ensures)) c.index.ensures,
  λ done. false≢true (sym c.if-not-is_settled.true ∙ c.is_settled.ensures.1 done),
)

pub loop-number-preserved : goal.loop-number-preserved
loop-number-preserved g c =
    one_further AreDone (site_of_parked c.args.self.now).blocks c.loop-number.number (worker_of c.index.result.now)
    (mapped_in worker_of c.args.self.now.system.blocks.items c.args.self.now.system.blocks.items refl c.loop-number.number c.index.result.now (omega (arith, c.loop-number-test.true, c.len-number-end.ensures)) c.index.ensures)
    (c.is_settled.ensures.0 c.if-not-is_settled.false) c.loop-number.invariant

pub returns : goal.returns
returns g c = all_seen AreDone (site_of_parked c.args.self.now).blocks c.loop-number.number
    (past_in worker_of c.args.self.now.system.blocks.items c.args.self.now.system.blocks.items refl c.loop-number.number (omega (arith, c.loop-number-test.false, c.len-number-end.ensures))) c.loop-number.invariant
