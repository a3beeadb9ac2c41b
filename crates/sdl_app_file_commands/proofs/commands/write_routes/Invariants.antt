use Rattle.std.proofs.Common.{take}
use Rattle.std.specs.Io.KnownBytes.{Appends}
use Rattle.sdl_app_file_commands.specs.Texts.{routes_text}
use Rattle.sdl_app_file_commands.proofs.commands.write_routes.Given as goal

abbrev pub invariant-loop-number : goal.invariant-loop-number
invariant-loop-number g l = Appends (g.W.Write.contents l.fn.output) (g.W.Write.contents l.output) (routes_text l.structure (take l.number l.routes))
