use Rattle.std.proofs.Common.{OnOk, List, ℕ, sym, ap, ◌∙◌, subst}
use Rattle.std.specs.Option.{option_copied}
use Rattle.std.specs.Io.KnownBytes.{Appends}
use Rattle.sdl_app_file_commands.proofs.Printed.{line_of}
use Rattle.sdl_app_file_commands.proofs.commands.write_numbered.Goals as goal

pub returns-in-Some : goal.returns-in-Some
returns-in-Some g c =
    let same = line_of c.args.structure.now c.args.routes.now c.args.number c.in-Some.route.now (sym (ap option_copied c.in-Some.is) ∙ c.get.ensures.value) in
    subst (λ (text : List ℕ). OnOk c.write_route.result (Appends (g.W.Write.contents c.args.output.now) (g.W.Write.contents c.write_route.new.output) text))
    same c.write_route.ensures
