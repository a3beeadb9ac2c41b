-- The list of saves that was made so.
use Rattle.std.specs.Prelude.{List, [], ◌∷◌}
use Rattle.sdl_transition_saves.specs.declared.save.Save.{Save}
use Rattle.sdl_transition_saves.specs.declared.save_list.Made.{Made, Empty, Longer', Same'}

abbrev pub list_of : Made → List Save
list_of Empty = []
list_of (Longer' shape behind save) = save ∷ list_of behind
list_of (Same' shape inner behind) = list_of behind
