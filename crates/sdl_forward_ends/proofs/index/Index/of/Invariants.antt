use Rattle.std.proofs.Common.{take}
use Rattle.sdl_forward_ends.specs.Index.{IsIndexOf}
use Rattle.sdl_forward_ends.specs.Stations.{stations_of}
use Rattle.sdl_forward_ends.proofs.index.Index.of.Given as goal

abbrev pub invariant-loop-place : goal.invariant-loop-place
invariant-loop-place g l = IsIndexOf l.index (take l.place (stations_of l.entries))
