use Rattle.sdl_run_threads.proofs.driving.drive.Given as goal

abbrev pub invariant-loop : goal.invariant-loop
invariant-loop g l = g.W.Work.keeps l.structure l.routes l.worker × g.W.Work.same l.fn.worker l.worker × (g.W.Work.empty_handed l.fn.worker → g.W.Work.empty_handed l.worker)
