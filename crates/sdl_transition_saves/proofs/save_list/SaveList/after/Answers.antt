use Rattle.std.proofs.Common.{ap, ◌∙◌, ◌∷◌}
use Rattle.sdl_transition_saves.specs.Lists.{list_of}
use Rattle.sdl_transition_saves.proofs.save_list.SaveList.after.Goals as goal

pub returns : goal.returns
returns c = ap list_of c.of.ensures ∙ ap (λ l. c.args.save ∷ l) c.self.view_is
