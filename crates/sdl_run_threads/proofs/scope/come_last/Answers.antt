use Rattle.std.proofs.Common.{ap, ◌∙◌, ◌++◌, [], ◌∷◌}
use Rattle.sdl_run_threads.proofs.scope.come_last.Goals as goal
use Rattle.sdl_run_threads.proofs.scope.come_last.Goals.{in-Some, in-None}

pub returns-clause-joined : goal.returns-clause-joined
returns-clause-joined g c =
    let back = c.match-thread.back in
    let pushed = c.push_reserved.ensures.items in
    elim c.match-thread.branch [
      | in-Some w ↦ rw w.in-Some.is (back, pushed ∙ ap (λ d. d.items ++ back ∷ []) w.done-is, rw w.back-is w.join-back.ensures)
      | in-None w ↦ rw w.in-None.is tt
    ]

pub returns-clause-moved : goal.returns-clause-moved
returns-clause-moved g c =
    let back = c.match-thread.back in
    let pushed = c.push_reserved.ensures.items in
    elim c.match-thread.branch [
      | in-Some w ↦ rw w.in-Some.is tt
      | in-None w ↦ rw w.in-None.is (back, rw w.back-is w.remove-back.ensures.value, pushed ∙ ap (λ d. d.items ++ back ∷ []) w.done-is ∙ ap (λ l. l ++ back ∷ []) w.remove-back.ensures.items)
    ]
