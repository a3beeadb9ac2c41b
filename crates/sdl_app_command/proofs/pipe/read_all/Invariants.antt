use Rattle.std.proofs.Common.{◌≡◌, List, ◌-◌, ◌≤◌, length}
use Rattle.sdl_signal.specs.declared.values.EnvLine.{EnvLine}
use Rattle.sdl_signal.specs.Environment.{HasCarried}
use Rattle.sdl_app_command.specs.Pipe.{queued_items, AreWritable}
use Rattle.sdl_app_command.proofs.pipe.read_all.Given as goal

abbrev pub invariant-loop-end : goal.invariant-loop-end
invariant-loop-end g l =
    (l.number ≡ l.reader.carried) × (l.number ≤ 16384)
    × ((carried : List EnvLine) × HasCarried l.names (g.R.Read.remaining l.fn.input) (g.R.Read.remaining l.input) l.reader carried
    × (l.queue ≡ queued_items 0 carried) × AreWritable l.names carried × (length carried ≡ l.number))

abbrev pub decreases-loop-end : goal.decreases-loop-end
decreases-loop-end g l = 16384 - l.reader.carried
