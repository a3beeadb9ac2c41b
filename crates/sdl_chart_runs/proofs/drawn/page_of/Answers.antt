use Rattle.sdl_chart_runs.proofs.drawn.page_of.Goals as goal

pub fault_of-requires : goal.fault_of-requires
fault_of-requires g c = λ is. c.in-Err.ensures.fault is c.requires.stored c.requires.orderly
