use Rattle.std.specs.Prelude.{Result, Ok, Err, IfOk}
use Rattle.sdl_routes.specs.Routes.{AreRoutesOf}
use Rattle.sdl_transition.specs.Bound.{structure_of, routes_of}
use Rattle.sdl_run_outcome.specs.Lists.{items_in}
use Rattle.sdl_run_outcome.specs.Outcome.{IsComplete}
use Rattle.sdl_run_driver.specs.Closings.{outcome_in, plan_of_bound, IsSameBound}
use Rattle.sdl_run_driver.specs.Ended.{HasEnded}
use Rattle.sdl_run_audit.proofs.Callers.{complete_again, routes_again}
use Rattle.sdl_run_tests.proofs.streams.run_form.Goals as goal

-- two facts of a value, if there is one, give a third
if_both : {A E : Type 0} (r : Result A E) (P Q R : A → Type 0) → ((x : A) → P x → Q x → R x) → IfOk r P → IfOk r Q → IfOk r R
if_both (Ok x) P Q R f p q = f x p q
if_both (Err e) P Q R f p q = p

pub returns-in-OneThread-clause-routes : goal.returns-in-OneThread-clause-routes
returns-in-OneThread-clause-routes g c =
    if_both c.run_serial.result _ _ _ (λ x same _. routes_again c.args.bound x.bound same c.requires.routes_are) c.run_serial.ensures.bound c.run_serial.ensures.bound

pub returns-in-OneThread-clause-complete : goal.returns-in-OneThread-clause-complete
returns-in-OneThread-clause-complete g c =
    if_both c.run_serial.result _ _ _ (λ x same ended. complete_again c.args.bound x.bound 100 (outcome_in items_in x) same ended.complete) c.run_serial.ensures.bound c.run_serial.ensures.ended

pub returns-in-Threads-clause-routes : goal.returns-in-Threads-clause-routes
returns-in-Threads-clause-routes g c =
    if_both c.run_threads.result _ _ _ (λ x same _. routes_again c.args.bound x.bound same c.requires.routes_are) c.run_threads.ensures.bound c.run_threads.ensures.bound

pub returns-in-Threads-clause-complete : goal.returns-in-Threads-clause-complete
returns-in-Threads-clause-complete g c =
    if_both c.run_threads.result _ _ _ (λ x same ended. complete_again c.args.bound x.bound 100 (outcome_in items_in x) same ended.complete) c.run_threads.ensures.bound c.run_threads.ensures.ended
