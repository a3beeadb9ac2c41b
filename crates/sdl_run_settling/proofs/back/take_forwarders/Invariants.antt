use Rattle.std.proofs.Common.{◌≡◌, ◌+◌, ◌≤◌, ◌++◌, map, length, vec_len, vec_capacity}
use Rattle.sdl_run_settling.proofs.back.take_forwarders.Given as goal

abbrev pub invariant-loop-rest : goal.invariant-loop-rest
invariant-loop-rest l = record {
  forwarder_room : vec_len l.forwarders + length l.rest.items ≤ vec_capacity l.forwarders;
  end_room : vec_len l.ends + length l.rest.items ≤ vec_capacity l.ends;
  all : l.forwarders.items ++ map (λ t. t.forwarder) l.rest.items ≡ l.fn.forwarders.items ++ map (λ t. t.forwarder) l.fn.threads.items;
  all_ends : l.ends.items ++ map (λ t. t.ends) l.rest.items ≡ l.fn.ends.items ++ map (λ t. t.ends) l.fn.threads.items;
}

abbrev pub decreases-loop-rest : goal.decreases-loop-rest
decreases-loop-rest l = length l.rest.items
