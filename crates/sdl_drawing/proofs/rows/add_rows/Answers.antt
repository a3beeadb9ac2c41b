use Rattle.std.proofs.Common.{arith}
use Rattle.sdl_drawing.specs.Shown.{signals_shown}
use Rattle.sdl_drawing.proofs.OneMoreRow.{row_more}
use Rattle.sdl_drawing.proofs.rows.add_rows.Goals as goal

pub loop-from-preserved : goal.loop-from-preserved
loop-from-preserved c = (
  omega (arith, c.row_end-next.ensures.whole),
  row_more c.args.structure.now (signals_shown c.args.structure.now c.args.rows.now.items) c.loop-from.rows.items c.push.new.self.items _ c.signals_of-signals.result.now
      c.loop-from.invariant.1 c.signals_of-signals.ensures (omega (arith, c.row_end-next.ensures.some c.loop-from-test.true)) c.in_ok-push.ensures.items,
)
