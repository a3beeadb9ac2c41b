use Rattle.std.proofs.Common.{◌↔◌, IsTrue, take}
use Rattle.std.specs.List.{AllByRecursion}
use Rattle.sdl_forward_ends.specs.Flushed.{IsClearAt, AreFlushed}
use Rattle.sdl_forward_ends.proofs.ends.flush_all.Given as goal

abbrev pub invariant-loop-place : goal.invariant-loop-place
invariant-loop-place l = AreFlushed l.fn.feeds.items l.feeds.items × (IsTrue l.empty ↔ AllByRecursion IsClearAt (take l.place l.feeds.items))
