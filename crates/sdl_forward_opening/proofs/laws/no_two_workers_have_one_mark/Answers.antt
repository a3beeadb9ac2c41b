use Rattle.sdl_forward_opening.proofs.Marked.{marks_once}
use Rattle.sdl_forward_opening.proofs.laws.no_two_workers_have_one_mark.Goals as goal

pub returns : goal.returns
returns c = λ s ok. marks_once s ok
