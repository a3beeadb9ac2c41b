use Rattle.std.proofs.Common.{◌≡◌, None, take, map}
use Rattle.std.specs.Io.KnownBytes.{Appends}
use Rattle.sdl_chart_msc.specs.Lines.{script_of, place_text, lines_after, last_of}
use Rattle.sdl_chart_msc.proofs.msc.write_instances.Given as goal

abbrev pub invariant-loop-index : goal.invariant-loop-index
invariant-loop-index g l = record {
  written : Appends (g.W.Write.contents l.fn.output) (g.W.Write.contents l.output)
      (lines_after (place_text (script_of l.scene) (map g.K.LogStore.events l.logs) l.scene.page.now.rows) None (take l.index l.places));
  last : l.before ≡ last_of None (take l.index l.places);
}
