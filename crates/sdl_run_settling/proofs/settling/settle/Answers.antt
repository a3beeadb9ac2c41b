use Rattle.sdl_run_settling.proofs.settling.settle.Goals as goal

pub returns-in-Some-clause-writing : goal.returns-in-Some-clause-writing
returns-in-Some-clause-writing g c start h = c.close.ensures.writing start _ h
