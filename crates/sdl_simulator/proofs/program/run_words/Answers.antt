use Rattle.std.proofs.Common.{◌≡◌, ℕ, List, Some, Bor, map}
use Rattle.sdl_simulator.specs.declared.words.Asked.TheVariants as asked
use Rattle.sdl_simulator.specs.Words as rule
use Rattle.sdl_simulator.proofs.Runs.{run_asked}
use Rattle.sdl_simulator.proofs.program.run_words.Goals as goal

pub run_both-requires-after_bounds : goal.run_both-requires-after_bounds
run_both-requires-after_bounds g c κs within =
    let words : List (List ℕ) = map (λ (w : Bor (List ℕ)). w.now) c.args.words.now in
    let run : rule.asked_of words ≡ Some (asked.Run c.in-Run.options c.in-Run.audit) = cc (c.in-Run.is, c.in-Some.ensures) in
    run_asked words c.in-Run.options c.in-Run.audit run
