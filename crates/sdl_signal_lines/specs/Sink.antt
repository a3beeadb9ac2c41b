-- A sink of lines.
use Rattle.std.specs.Prelude.{ℕ}

-- a sink of lines: how many interrupted writes it tried again so far
pub record Sink : Type 0 where
  pub interrupted : ℕ
