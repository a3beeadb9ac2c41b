use Rattle.std.proofs.Common.{subst}
use Rattle.sdl_run_threads.specs.Back.{ComesFrom, ComesBackFrom, HandStaysEmpty, HaveCome}
use Rattle.sdl_run_threads.specs.Kinds.{KeepsOneOf, SameOneOf}
use Rattle.sdl_run_threads.proofs.Coming.{all_came, each_so}
use Rattle.sdl_run_threads.proofs.scope.run_team.Goals as goal

pub returns-clause-workers : goal.returns-clause-workers
returns-clause-workers g c =
    let s = c.args.structure.now in
    let rows = c.args.routes.now in
    let keeps = KeepsOneOf (g.B.Work.keeps s rows) (g.F.Work.keeps s rows) in
    let same = SameOneOf g.B.Work.same g.F.Work.same in
    let comes = ComesBackFrom keeps same (KeepsOneOf g.B.Work.empty_handed g.F.Work.empty_handed) in
    let workers = c.args.team.workers.items in
    let done = c.run_others-refused.new.done.items in
    each_so comes (ComesFrom keeps same) (λ w back h. h.comes) workers done
    (all_came comes workers done (subst (λ before. HaveCome comes workers before done) c.requires.empty c.run_others-refused.ensures.workers))

pub returns-clause-hands : goal.returns-clause-hands
returns-clause-hands g c =
    let s = c.args.structure.now in
    let rows = c.args.routes.now in
    let empty = KeepsOneOf g.B.Work.empty_handed g.F.Work.empty_handed in
    let comes = ComesBackFrom (KeepsOneOf (g.B.Work.keeps s rows) (g.F.Work.keeps s rows)) (SameOneOf g.B.Work.same g.F.Work.same) empty in
    let workers = c.args.team.workers.items in
    let done = c.run_others-refused.new.done.items in
    each_so comes (HandStaysEmpty empty) (λ w back h. h.hand) workers done
    (all_came comes workers done (subst (λ before. HaveCome comes workers before done) c.requires.empty c.run_others-refused.ensures.workers))
