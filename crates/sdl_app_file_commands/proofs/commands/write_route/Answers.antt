use Rattle.std.proofs.KnownBytes.{Appends-trans}
use Rattle.sdl_app_file_commands.proofs.Printed.{on_ok}
use Rattle.sdl_app_file_commands.proofs.commands.write_route.Goals as goal

pub returns : goal.returns
returns g c =
    let to_gate = Appends-trans _ _ _ _ _ c.in_ok-write_signal.ensures c.in_ok-write_gate.ensures in
    let to_hops = Appends-trans _ _ _ _ _ to_gate c.in_ok-write_hops.ensures in
    let to_end = Appends-trans _ _ _ _ _ to_hops c.in_ok-write_gate-2.ensures in
    on_ok c.writeln.result _ _ (λ last. Appends-trans _ _ _ _ _ to_end last) c.writeln.ensures.bytes
