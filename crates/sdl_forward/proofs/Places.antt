-- Places of stations in a list; stations in order stand each once.
use Rattle.std.proofs.Common.{◌≡◌, ◌≢◌, ℕ, ◌+◌, ◌<◌, ◌≤◌, List, length, Some, Contains, slice_get, get_or, option_map, Bool, true, false, refl, ap, sym, ◌∙◌, subst, arith, below_more}
use Rattle.std.proofs.lemmas.Bool.{false≢true}
use Rattle.std.proofs.lemmas.List.{length-map}
use Rattle.std.proofs.lemmas.Option.{same_Some, slice_get-get_or, slice_get_read, slice_get-map}
use Rattle.sdl_routes.specs.declared.route.Station.{Station}
use Rattle.sdl_forward_opening.proofs.Collected.{station_eq, derived_eq}
use Rattle.sdl_forward.proofs.Same.{same_station_itself}
use Rattle.sdl_forward.specs.Boards.{same_station, stations_of}

-- no station before a place is the one sought
module _ {X : Type 0} (es : List (Station × X)) (s : Station) where
  abbrev pub NoneBefore : ℕ → Type 0
  NoneBefore n = (k : ℕ) → k < n → slice_get (stations_of es) k ≢ Some s

  pub none_further : (n : ℕ) (e : Station × X) → n < length es → e ≡ get_or es n e → e.0 ≢ s → NoneBefore n → NoneBefore (n + 1)
  none_further n e within is other before =
      below_more (λ (k : ℕ). slice_get (stations_of es) k ≢ Some s) n before
      (λ at. other (same_Some e.0 s (sym (slice_get-map (λ (x : Station × X). x.0) es n ∙ ap (option_map (λ (x : Station × X). x.0)) (slice_get_read es (length es) n e refl within is)) ∙ at)))

  pub absent : (n : ℕ) → length es ≤ n → NoneBefore n → Contains (stations_of es) s → ⊥
  absent n past none (k, within, is) =
      let long = length-map es (λ (x : Station × X). x.0) in
      none k (omega (arith, past, within, long)) (slice_get-get_or (stations_of es) k s within ∙ ap Some is)

-- stations that the derived test tells apart
pub told_apart : (a b : Station) (same : Bool) → same ≡ station_eq a b → same ≡ false → a ≢ b
told_apart a b same is differ e = false≢true (sym differ ∙ (is ∙ (derived_eq a b ∙ subst (λ (s : Station). same_station a s ≡ true) e (same_station_itself a))))
