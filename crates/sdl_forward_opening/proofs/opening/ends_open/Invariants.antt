use Rattle.std.proofs.Common.{take}
use Rattle.sdl_forward_opening.specs.Puts.{puts_at}
use Rattle.sdl_forward_opening.specs.Workers.{workers_in}
use Rattle.sdl_forward_opening.proofs.Laying.{IsLaid}
use Rattle.sdl_forward_opening.proofs.opening.ends_open.Given as goal

abbrev pub invariant-loop-station : goal.invariant-loop-station
invariant-loop-station g l = IsLaid (puts_at l.checked l.routes) (workers_in l.checked) (take l.station-index l.station-items) l.shares.items l.shelf
