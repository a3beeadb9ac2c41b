use Rattle.std.proofs.Common.{lit<}
use Rattle.sdl_run_order.proofs.Rows.{lost}
use Rattle.sdl_run_audit.proofs.Passing.{ring_in_order, not_left_out}
use Rattle.sdl_run_audit.proofs.laws.ring_is_audited.Goals as goal

pub returns : goal.returns
returns c =
    record {
      right = λ l h b. (ring_in_order, (h, b));
      lost = λ l h. lost (h.0 0 (lit< tt));
      second = λ l h. lost (h.2 0 (lit< tt));
      first = λ l h. lost (h.0 0 (lit< tt));
      left_out = not_left_out;
    }
