use Rattle.std.proofs.Common.{flat_map, take}
use Rattle.std.specs.Io.KnownBytes.{Appends}
use Rattle.sdl_app_file_commands.specs.Texts.{hop_field}
use Rattle.sdl_app_file_commands.proofs.commands.write_hops.Given as goal

abbrev pub invariant-loop-hop : goal.invariant-loop-hop
invariant-loop-hop g l = Appends (g.W.Write.contents l.fn.output) (g.W.Write.contents l.output) (flat_map (hop_field l.structure) (take l.hop-index l.hop-items))
