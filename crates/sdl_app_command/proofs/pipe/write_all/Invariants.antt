use Rattle.std.proofs.Common.{◌≡◌, List, ◌++◌, length}
use Rattle.std.specs.List.{AllByRecursion}
use Rattle.std.specs.Io.KnownBytes.{Appends}
use Rattle.sdl_signal.specs.declared.values.Item.{Item}
use Rattle.sdl_app_command.specs.Pipe.{IsWritable, text_of}
use Rattle.sdl_app_command.proofs.pipe.write_all.Given as goal

abbrev pub invariant-loop-item : goal.invariant-loop-item
invariant-loop-item g l =
    AllByRecursion (IsWritable l.names) l.queue
    × ((written : List Item) × (l.fn.queue ≡ written ++ l.queue)
    × Appends (g.W.Write.contents l.fn.output) (g.W.Write.contents l.output) (text_of l.names written))

abbrev pub decreases-loop-item : goal.decreases-loop-item
decreases-loop-item g l = length l.queue
