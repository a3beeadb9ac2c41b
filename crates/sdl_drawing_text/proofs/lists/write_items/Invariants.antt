use Rattle.std.proofs.Common.{◌-◌, ◌≤◌}
use Rattle.std.specs.Io.KnownBytes.{Appends}
use Rattle.sdl_drawing_text.specs.Lists.{items_text}
use Rattle.sdl_drawing_text.proofs.lists.write_items.Given as goal

abbrev pub invariant-loop-place : goal.invariant-loop-place
invariant-loop-place g l =
    Appends (g.W.Write.contents l.fn.output) (g.W.Write.contents l.output) (items_text l.structure l.signals l.from l.place)
    × (l.place - l.from ≤ l.end - l.from)
