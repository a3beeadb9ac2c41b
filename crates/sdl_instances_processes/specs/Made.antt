-- The list of arrivals that was made so.
use Rattle.std.specs.Prelude.{List, [], ◌∷◌, ◌++◌}
use Rattle.sdl_instances_processes.specs.declared.numbered.Numbered.{Numbered}
use Rattle.sdl_instances_processes.specs.declared.numbered.Made.{Made, Nothing, More', Less'}
use Rattle.sdl_instances_processes.specs.Arrivals.{without}

abbrev pub list_of : Made → List Numbered
list_of Nothing = []
list_of (More' shape inner before arrival) = list_of before ++ arrival.value ∷ []
list_of (Less' shape inner before signal) = without signal (list_of before)
