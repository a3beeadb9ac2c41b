use Rattle.sdl_drawing_text.proofs.Shown.{shown}
use Rattle.sdl_drawing_text.proofs.commands.structure_command.Goals as goal

pub returns-clause-done : goal.returns-clause-done
returns-clause-done g c =
    shown c.args.form c.args.file.now c.in-Some.checked c.structure.result.now _ _ _ c.structure.ensures.structure c.in-Some.ensures.declared c.show.ensures.done
