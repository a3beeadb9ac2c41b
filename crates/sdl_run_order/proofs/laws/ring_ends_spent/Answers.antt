use Rattle.sdl_run_order.proofs.Rows.{ring_workers, ring_route_0, ring_route_1, ring_ends}
use Rattle.sdl_run_order.proofs.laws.ring_ends_spent.Goals as goal

pub returns : goal.returns
returns c = record { workers = ring_workers; there = ring_route_0; back = ring_route_1; ends = ring_ends }
