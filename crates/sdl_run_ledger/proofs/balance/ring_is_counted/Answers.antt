use Rattle.sdl_run_ledger.proofs.Counted.{ring_counts, left_out, in_hand}
use Rattle.sdl_run_ledger.proofs.balance.ring_is_counted.Goals as goal

pub returns : goal.returns
returns c = record { counts = ring_counts; left_out = left_out; in_hand = in_hand }
