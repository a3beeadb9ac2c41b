-- What stands at the places of a route, from the last to the first.
use Rattle.std.proofs.Common.{◌≡◌, ℕ, suc, ◌+◌, ◌-◌, ◌<◌, List, [], ◌++◌, ap, sym, ◌∙◌, arith, append_assoc}
use Rattle.std.proofs.lemmas.List.{append-nil}
use Rattle.sdl_signal.specs.declared.values.Item.{Item}
use Rattle.sdl_routes.specs.declared.route.TableRow.{TableRow}
use Rattle.sdl_routes.specs.declared.route.Station.{Station}
use Rattle.sdl_forward_opening.specs.declared.worker.Worker.{Worker}
use Rattle.sdl_run_recount.specs.Trails.{Grows, standing_at, standing_below}
use Rattle.sdl_run_recount.specs.declared.trail.Trail.{Trail}
use Rattle.sdl_run_recount.proofs.Growing.{grows_nothing, grows_then, grows_as}

module _ (rows : List TableRow) (workers : List Worker) (kept : List (List Item)) (rests : List (Station × List Item)) where
  abbrev below : ℕ → ℕ → List Item
  below n r = standing_below rows workers kept rests n r

  -- the places from the last on, so many of all, are added
  abbrev pub IsPassed : ℕ → ℕ → Trail → Trail → Type 0
  IsPassed all passed old new = (so_far : ℕ → List Item) × Grows (λ r. []) so_far old new × ((r : ℕ) → so_far r ++ below (all - passed) r ≡ below all r)

  pub none_passed : (all : ℕ) (t : Trail) → IsPassed all 0 t t
  none_passed all t =
      let is : all - 0 ≡ all = omega arith in
      ((λ r. []), grows_nothing t, (λ r. ap (λ (n : ℕ). below n r) is))

  pub one_passed : {a b c : Trail} (all passed place : ℕ) → passed < all → place + 1 + passed ≡ all → IsPassed all passed a b
      → Grows (λ r. []) (λ r. standing_at rows workers kept rests place r) b c → IsPassed all (passed + 1) a c
  one_passed {a} {b} {c} all passed place less is before more =
      let at : all - passed ≡ suc place = omega arith in
      let next : place ≡ all - (passed + 1) = omega arith in (
        (λ r. before.0 r ++ standing_at rows workers kept rests place r),
        grows_then before.1 more,
        (λ r. append_assoc (before.0 r) (standing_at rows workers kept rests place r) (below (all - (passed + 1)) r)
            ∙ (ap (λ (n : ℕ). before.0 r ++ (standing_at rows workers kept rests place r ++ below n r)) (sym next)
            ∙ (ap (λ (n : ℕ). before.0 r ++ below n r) (sym at) ∙ before.2 r))),
      )

  pub all_passed : {a b : Trail} (all passed : ℕ) → all - passed ≡ 0 → IsPassed all passed a b → Grows (λ r. []) (λ r. below all r) a b
  all_passed {a} {b} all passed none before =
      grows_as before.0 (λ r. below all r) before.1
      (λ r. sym (append-nil (before.0 r)) ∙ (ap (λ (n : ℕ). before.0 r ++ below n r) (sym none) ∙ before.2 r))
