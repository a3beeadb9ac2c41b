use Rattle.std.proofs.Common.{sym, subst}
use Rattle.std.specs.Io.KnownBytes.{Appends}
use Rattle.std.proofs.KnownBytes.{Appends-trans}
use Rattle.sdl_app_file_commands.proofs.Printed.{routes_text-more}
use Rattle.sdl_app_file_commands.proofs.commands.write_routes.Goals as goal

pub loop-number-preserved : goal.loop-number-preserved
loop-number-preserved g c =
    subst (Appends (g.W.Write.contents c.args.output.now) (g.W.Write.contents c.write_numbered.new.output))
    (sym (routes_text-more c.args.structure.now c.args.routes.now c.loop-number.number))
    (Appends-trans _ _ _ _ _ c.loop-number.invariant c.in_ok-write_numbered.ensures)
