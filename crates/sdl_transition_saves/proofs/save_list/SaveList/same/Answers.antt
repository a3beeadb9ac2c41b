use Rattle.std.proofs.Common.{ap, ◌∙◌}
use Rattle.sdl_transition_saves.specs.Lists.{list_of}
use Rattle.sdl_transition_saves.proofs.save_list.SaveList.same.Goals as goal

pub returns : goal.returns
returns c = ap list_of c.of-2.ensures ∙ (ap (λ s. list_of s.value) c.of.ensures ∙ c.self.view_is)
