use Rattle.std.proofs.Common.{◌-◌, ◌≡◌, length, None}
use Rattle.std.specs.Io.KnownBytes.{Keeps}
use Rattle.sdl_signal_lines.specs.Source.{HoldsLine, to_come}
use Rattle.sdl_signal_lines.proofs.sources.LineSource.see_open.Given as goal

abbrev pub invariant-loop-count : goal.invariant-loop-count
invariant-loop-count g l =
    (l.self.ended ≡ None) × Keeps (to_come l.fn.self (g.R.Read.remaining l.fn.input)) (to_come l.self (g.R.Read.remaining l.input))
    × (HoldsLine l.fn.self.ahead → (l.input ≡ l.fn.input) × (l.self ≡ l.fn.self))

abbrev pub decreases-loop-count : goal.decreases-loop-count
decreases-loop-count g l = 321 - length l.self.ahead
