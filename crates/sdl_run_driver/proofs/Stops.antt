-- Where a run stops, its end is what it says.
use Rattle.std.proofs.Common.{ℕ, zero, suc, ◌<◌, Bool, true, false, cond, List, [], ◌∷◌, length, ◌≡◌, ◌≢◌, Option, Some, None, MatchOption, MatchBool, slice_get, refl, ap, sym, ◌∙◌, subst, arith}
use Rattle.std.specs.List.{AllByRecursion}
use Rattle.std.proofs.lemmas.Bool.{cond_both, cond-true}
use Rattle.std.proofs.lemmas.Option.{none-some, same_Some, slice_get_within}
use Rattle.sdl_signal.specs.declared.values.Item.{Item}
use Rattle.sdl_routes.specs.declared.route.Station.{Station}
use Rattle.sdl_routes.specs.declared.route.Station.TheVariants.{Line, Inlet, Outlet}
use Rattle.sdl_transition_behaviour.specs.declared.step.Frame.{Frame}
use Rattle.sdl_transition_behaviour.specs.declared.step.Step.{Step}
use Rattle.sdl_queue.specs.declared.rest.Rest.{Rest}
use Rattle.sdl_queue.specs.Rest.{left_in}
use Rattle.sdl_forward.specs.Boards.{same_station, waiting, stations_of, lists_of, IsStationBefore, AreStationsInOrder}
use Rattle.sdl_run_outcome.specs.Plan.{Plan, IsPlan, workers_of}
use Rattle.sdl_run_order.specs.Driver.{Site, IsAtWork, IsIdle, outcome_of, finals_of}
use Rattle.sdl_run_driver.specs.Drivers.{NoneSpent, FirstSpent, AllDone, SomeUndone, AllLeft, SomeLeft}
use Rattle.sdl_run_driver.specs.Closings.{end_by}
use Rattle.sdl_run_outcome.specs.Ends.{EndsAs, IsQuiet}
use Rattle.sdl_run_outcome.proofs.Comparisons.{same_station_is, same_station_itself}
use Rattle.sdl_run_order.proofs.Quiet.{number, get_map, quiet_end, none_spent_end, spent_end}

-- no station stands before itself
not_before : (s : Station) → IsStationBefore s s → ⊥
not_before (Line h) b = omega arith
not_before (Inlet n) b = omega arith
not_before Outlet b = b

apart_at : (s : Station) (es : List (Station × List Item)) (k : ℕ) (e : Station × List Item) → AllByRecursion (IsStationBefore s) (stations_of es) → slice_get es k ≡ Some e → s ≢ e.0
apart_at s [] k e before at = absurd (none-some e at)
apart_at s (x ∷ es) zero e before at = λ same. not_before s (subst (IsStationBefore s) (ap (λ (y : Station × List Item). y.0) (same_Some x e at) ∙ sym same) before.0)
apart_at s (x ∷ es) (suc k) e before at = apart_at s es k e before.1 at

-- an entry of a board in order is what waits at its station
entry_waits : (es : List (Station × List Item)) (k : ℕ) (e : Station × List Item) → AreStationsInOrder (stations_of es) → slice_get es k ≡ Some e → waiting es e.0 ≡ e.1
entry_waits [] k e order at = absurd (none-some e at)
entry_waits (x ∷ es) zero e order at =
    let same : x ≡ e = same_Some x e at in
    cond-true (same_station x.0 e.0) x.1 (waiting es e.0) (subst (λ (s : Station). same_station x.0 s ≡ true) (ap (λ (y : Station × List Item). y.0) same) (same_station_itself x.0))
    ∙ ap (λ (y : Station × List Item). y.1) same
entry_waits (x ∷ es) (suc k) e order at =
    cond_both (same_station x.0 e.0) x.1 (waiting es e.0) (λ (xs : List Item). xs ≡ e.1) (λ t. absurd (apart_at x.0 es k e order.0 at (same_station_is x.0 e.0 t))) (λ t. entry_waits es k e order.1 at)

lists_get : (rests : List (Station × Rest)) (k : ℕ) (r : Station × Rest) → slice_get rests k ≡ Some r → slice_get (lists_of rests) k ≡ Some (r.0, left_in r.1)
lists_get [] k r at = absurd (none-some r at)
lists_get (x ∷ rests) zero r at = ap (λ (y : Station × Rest). Some (y.0, left_in y.1)) (same_Some x r at)
lists_get (x ∷ rests) (suc k) r at = lists_get rests k r at

none_waits : (rests : List (Station × Rest)) → AllLeft rests → (s : Station) → waiting (lists_of rests) s ≡ []
none_waits [] h s = refl
none_waits (r ∷ rests) h s =
    cond_both (same_station r.0 s) (left_in r.1) (waiting (lists_of rests) s) (λ (xs : List Item). xs ≡ []) (λ t. h 0 r refl) (λ t. none_waits rests (λ n x at. h (suc n) x at) s)

module _ (may : ℕ → Frame → Step → Type 0) (plan : Plan) (ok : IsPlan plan) (site : Site) (work : IsAtWork may plan site) where
  -- something is left, or an instance is ready: the run is not quiet
  some_left : (rests : List (Station × Rest)) → lists_of rests ≡ site.board → SomeLeft rests → IsQuiet plan (outcome_of site) (finals_of site) → ⊥
  some_left rests same (n, r, at, more) quiet =
      let here : waiting (lists_of rests) r.0 ≡ left_in r.1 = entry_waits (lists_of rests) n (r.0, left_in r.1) (subst (λ (b : List (Station × List Item)). AreStationsInOrder (stations_of b)) (sym same) work.board.order) (lists_get rests n r at) in
      more (sym here ∙ (ap (λ (b : List (Station × List Item)). waiting b r.0) same ∙ quiet.rests r.0))

  pub some_undone : SomeUndone site.blocks → IsQuiet plan (outcome_of site) (finals_of site) → ⊥
  some_undone (n, w, at, undone) quiet =
      undone (λ p ready. quiet.blocks n (let l = slice_get_within site.blocks n w at in let c = work.blocks in omega arith) w.core.state p (get_map site.blocks n w at) ready)

  -- what is known of whether the run is quiet
  abbrev pub Knows : Bool → Type 0
  Knows true = AllDone site.blocks × ((s : Station) → waiting site.board s ≡ [])
  Knows false = IsQuiet plan (outcome_of site) (finals_of site) → ⊥

  pub knows : (settled empty : Bool) (rests : List (Station × Rest)) → lists_of rests ≡ site.board → MatchBool settled (AllDone site.blocks) (SomeUndone site.blocks) → MatchBool empty (AllLeft rests) (SomeLeft rests) → Knows (cond settled empty false)
  knows true true rests same done none = (done, λ s. subst (λ (b : List (Station × List Item)). waiting b s ≡ []) same (none_waits rests none s))
  knows true false rests same done some = some_left rests same some
  knows false empty rests same undone e = some_undone undone

  pub ends_by : (refused spent : Option ℕ) (quiet : Bool) → MatchOption refused (IsIdle site) (λ w. w < length (workers_of plan)) → MatchOption spent (NoneSpent plan site.blocks) (FirstSpent plan site.blocks)
      → Knows quiet → EndsAs plan (outcome_of site) (finals_of site) (end_by refused spent quiet)
  unfolding number
  ends_by (Some w) spent quiet idle used known = idle
  ends_by None None quiet idle used known = none_spent_end plan ok may site work idle used
  ends_by None (Some b) true idle used known = quiet_end plan ok may site work idle (λ n w at. (known.1 (Inlet (number n)), known.0 n w at))
  ends_by None (Some b) false idle used known = spent_end plan ok may site work idle b used.0.0 used.0.1 used.0.2 used.1 known
