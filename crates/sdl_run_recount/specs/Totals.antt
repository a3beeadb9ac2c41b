-- The sums of a ledger, which stop where they get too large. (This project's own.)
use Rattle.std.specs.Prelude.{◌≡◌, ℕ, ◌+◌, ◌-◌, ◌^◌, ◌<◌, max, min}
use Rattle.sdl_run_ledger.specs.declared.ledger.Ledger.{Ledger}
use Rattle.sdl_run_recount.specs.declared.totals.Totals.{Totals}

-- a sum grows up to a number that is more than a ledger can hold
abbrev pub grown : ℕ → ℕ → ℕ
grown old more = max old (min (old + more) (2 ^ 128 - 1))

-- nothing is counted
abbrev pub no_totals : Totals
no_totals = record { output = 0; no_route = 0; entered = 0; no_instance = 0; gone = 0; left = 0; fired = 0; implicit = 0; stopped = 0 }

-- sum by sum, the new totals are the old ones and what this ledger has
pub record AddsUpTo (old : Totals) (more : Ledger) (new : Totals) : Type 0 where
  pub output : new.output ≡ grown old.output more.output
  pub no_route : new.no_route ≡ grown old.no_route more.no_route
  pub entered : new.entered ≡ grown old.entered more.entered
  pub no_instance : new.no_instance ≡ grown old.no_instance more.no_instance
  pub gone : new.gone ≡ grown old.gone more.gone
  pub left : new.left ≡ grown old.left more.left
  pub fired : new.fired ≡ grown old.fired more.fired
  pub implicit : new.implicit ≡ grown old.implicit more.implicit
  pub stopped : new.stopped ≡ grown old.stopped more.stopped

-- the totals are those that the ledger has, each a number of 64 bits
pub record AreTotalsOf (l : Ledger) (t : Totals) : Type 0 where
  pub output : (t.output ≡ l.output) × (t.output < 2 ^ 64)
  pub no_route : (t.no_route ≡ l.no_route) × (t.no_route < 2 ^ 64)
  pub entered : (t.entered ≡ l.entered) × (t.entered < 2 ^ 64)
  pub no_instance : (t.no_instance ≡ l.no_instance) × (t.no_instance < 2 ^ 64)
  pub gone : (t.gone ≡ l.gone) × (t.gone < 2 ^ 64)
  pub left : (t.left ≡ l.left) × (t.left < 2 ^ 64)
  pub fired : (t.fired ≡ l.fired) × (t.fired < 2 ^ 64)
  pub implicit : (t.implicit ≡ l.implicit) × (t.implicit < 2 ^ 64)
  pub stopped : (t.stopped ≡ l.stopped) × (t.stopped < 2 ^ 64)

-- both ledgers have the same counts, of those that are added up
pub record HaveSameCounts (l m : Ledger) : Type 0 where
  pub output : l.output ≡ m.output
  pub no_route : l.no_route ≡ m.no_route
  pub entered : l.entered ≡ m.entered
  pub no_instance : l.no_instance ≡ m.no_instance
  pub gone : l.gone ≡ m.gone
  pub left : l.left ≡ m.left
  pub fired : l.fired ≡ m.fired
  pub implicit : l.implicit ≡ m.implicit
  pub stopped : l.stopped ≡ m.stopped
