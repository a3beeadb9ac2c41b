use Rattle.std.proofs.Common.{◌≡◌, refl, sym, ◌∙◌, arith}
use Rattle.sdl_instances.specs.Run.{turns}
use Rattle.sdl_block_hand.specs.Work.{Working}
use Rattle.sdl_block.specs.Workers.{worker_of}
use Rattle.sdl_run_driver.specs.Stopped.{site_of_parked}
use Rattle.sdl_run_driver.proofs.Scans.{one_further, all_seen, mapped_in, past_in}
use Rattle.sdl_run_driver.proofs.parked.Parked.first_spent.Goals as goal

pub returns-then-made-self : goal.returns-then-made-self
returns-then-made-self g c = (
  (
    worker_of c.index.result.now,
    mapped_in worker_of c.args.self.now.system.blocks.items c.args.self.now.system.blocks.items refl c.loop-number.number c.index.result.now (omega (arith, c.loop-number-test.true, c.len-number-end.ensures)) c.index.ensures,
    sym c.made.ensures ∙ c.if-made-self.true,
  ),
  λ a v less at used. c.loop-number.invariant a v less at used,
)

pub loop-number-preserved : goal.loop-number-preserved
loop-number-preserved g c =
    one_further (λ (w : Working). turns w.core.log ≡ c.args.self.now.system.budget → ⊥) (site_of_parked c.args.self.now).blocks c.loop-number.number (worker_of c.index.result.now)
    (mapped_in worker_of c.args.self.now.system.blocks.items c.args.self.now.system.blocks.items refl c.loop-number.number c.index.result.now (omega (arith, c.loop-number-test.true, c.len-number-end.ensures)) c.index.ensures)
    (λ used. c.if-made-self.false (c.made.ensures ∙ used)) c.loop-number.invariant

pub returns : goal.returns
returns g c = all_seen (λ (w : Working). turns w.core.log ≡ c.args.self.now.system.budget → ⊥) (site_of_parked c.args.self.now).blocks c.loop-number.number
    (past_in worker_of c.args.self.now.system.blocks.items c.args.self.now.system.blocks.items refl c.loop-number.number (omega (arith, c.loop-number-test.false, c.len-number-end.ensures))) c.loop-number.invariant
