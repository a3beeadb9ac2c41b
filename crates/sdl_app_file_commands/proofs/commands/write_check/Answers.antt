use Rattle.std.proofs.Common.{append_assoc}
use Rattle.sdl_app_file_commands.proofs.commands.write_check.Goals as goal

pub returns : goal.returns
returns g c =
    let t = simp (append_assoc, c.system.ensures, c.blocks-2.ensures, c.sets.ensures, c.channels.ensures, c.signals.ensures) at c.writeln.ensures.bytes in
    simp append_assoc t
