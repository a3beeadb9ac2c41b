use Rattle.std.proofs.Common.{length, ◌-◌, ◌≤◌, ◌+◌, take}
use Rattle.std.specs.Io.KnownBytes.{Appends}
use Rattle.sdl_signal_lines.proofs.sinks.LineSink.write_bytes.Given as goal

abbrev pub invariant-loop-sent : goal.invariant-loop-sent
invariant-loop-sent g l =
    (l.fn.self.interrupted ≤ l.self-inside.interrupted) × (l.self-inside.interrupted ≤ 1000) × (l.sent ≤ length l.bytes) × Appends (g.W.Write.contents l.fn.output) (g.W.Write.contents l.output) (take l.sent l.bytes)

abbrev pub decreases-loop-sent : goal.decreases-loop-sent
decreases-loop-sent g l = (length l.bytes - l.sent) + (1000 - l.self-inside.interrupted)
