use Rattle.std.proofs.Common.{◌≡◌, ℕ, ◌<◌, length, get_or, map}
use Rattle.sdl_transition.specs.Rules.{row_rule}
use Rattle.sdl_transition.specs.Index.{row_place}
use Rattle.sdl_transition.proofs.index.entry_of.Given as goal

abbrev pub invariant-loop-signal : goal.invariant-loop-signal
invariant-loop-signal g l = (length l.line ≡ 64) × ((k : ℕ) → k < l.signal → get_or l.line k 0 ≡ row_place (map row_rule l.rows) l.state k)
