-- A forwarder's step in terms of the books, and that it keeps what holds between two steps.
use Rattle.std.proofs.Common.{ℕ, zero, suc, true, false, cond, List, [], ◌∷◌, set, ◌≡◌, ◌≢◌, inl, inr, Option, Some, None, slice_get, refl, ap, sym, ◌∙◌, subst}
use Rattle.std.specs.Option.{option_to_list, option_and_then}
use Rattle.std.proofs.lemmas.Bool.{cases_Bool, cond_both, cond-true, cond-false}
use Rattle.std.proofs.lemmas.Option.{same_Some}
use Rattle.sdl_signal.specs.declared.values.Item.{Item}
use Rattle.sdl_routes.specs.declared.route.Hop.{Hop}
use Rattle.sdl_routes.specs.declared.route.TableRow.{TableRow}
use Rattle.sdl_routes.specs.declared.route.Station.{Station}
use Rattle.sdl_routes.specs.declared.route.Station.TheVariants.{Line}
use Rattle.sdl_forward.specs.Boards.{same_hop, same_station}
use Rattle.sdl_forward.specs.Forwards.{Forwarding, station_behind, next_station}
use Rattle.sdl_forward_opening.specs.declared.worker.Worker.TheVariants.{Forwarder}
use Rattle.sdl_run_outcome.specs.Stations.{next}
use Rattle.sdl_run_outcome.specs.Plan.{Plan, ways_of}
use Rattle.sdl_run_order.specs.Driver.{held_at}
use Rattle.sdl_run_outcome.proofs.Comparisons.{same_hop_is, same_hop_itself}

behind_in_row : (s : Station) (o : Option TableRow) → station_behind s (elim o as (λ _. List Station) [ None ↦ [] | Some row ↦ row.route.stations.items ]) ≡ option_and_then (λ (row : TableRow). station_behind s row.route.stations.items) o
behind_in_row s None = refl
behind_in_row s (Some row) = refl

-- a forwarder brings an item to the station behind its own on the item's route
pub next_is : (plan : Plan) (h : Hop) (i : Item) → next (ways_of plan) (Forwarder h) i.route.0 ≡ next_station plan.routes (Line h) i
next_is plan h i = behind_in_row (Line h) (slice_get plan.routes i.route.0)

-- the forwarder's path stands at this place, and at no other before it
abbrev pub IsFirstAt : List Forwarding → ℕ → Hop → Type 0
IsFirstAt [] k h = ⊥
IsFirstAt (f ∷ fs) zero h = f.hop ≡ h
IsFirstAt (f ∷ fs) (suc k) h = (f.hop ≢ h) × IsFirstAt fs k h

pub held_was : (fs : List Forwarding) (k : ℕ) (was : Forwarding) → slice_get fs k ≡ Some was → IsFirstAt fs k was.hop → held_at fs was.hop ≡ option_to_list was.held
held_was [] k was e a = absurd a
held_was (f ∷ fs) zero was e a =
    let same : f ≡ was = same_Some f was e in
    cond-true (same_hop f.hop was.hop) (option_to_list f.held) (held_at fs was.hop) (subst (λ (h : Hop). same_hop f.hop h ≡ true) a (same_hop_itself f.hop))
    ∙ ap (λ (g : Forwarding). option_to_list g.held) same
held_was (f ∷ fs) (suc k) was e a =
    cond_both (same_hop f.hop was.hop) (option_to_list f.held) (held_at fs was.hop) (λ (xs : List Item). xs ≡ option_to_list was.held)
    (λ t. absurd (a.0 (same_hop_is f.hop was.hop t))) (λ t. held_was fs k was e a.1)

pub held_is : (fs : List Forwarding) (k : ℕ) (is : Forwarding) → IsFirstAt fs k is.hop → held_at (set fs k is) is.hop ≡ option_to_list is.held
held_is [] k is a = absurd a
held_is (f ∷ fs) zero is a = cond-true (same_hop is.hop is.hop) (option_to_list is.held) (held_at fs is.hop) (same_hop_itself is.hop)
held_is (f ∷ fs) (suc k) is a =
    cond_both (same_hop f.hop is.hop) (option_to_list f.held) (held_at (set fs k is) is.hop) (λ (xs : List Item). xs ≡ option_to_list is.held)
    (λ t. absurd (a.0 (same_hop_is f.hop is.hop t))) (λ t. held_is fs k is a.1)

pub held_other : (fs : List Forwarding) (k : ℕ) (is : Forwarding) (h : Hop) → IsFirstAt fs k is.hop → is.hop ≢ h → held_at (set fs k is) h ≡ held_at fs h
held_other [] k is h a n = refl
held_other (f ∷ fs) zero is h a n =
    cond-false (same_hop is.hop h) (option_to_list is.held) (held_at fs h) (elim (cases_Bool (same_hop is.hop h)) as (λ _. same_hop is.hop h ≡ false) [ inl t ↦ absurd (n (same_hop_is is.hop h t)) | inr e ↦ e ])
    ∙ sym (cond-false (same_hop f.hop h) (option_to_list f.held) (held_at fs h) (elim (cases_Bool (same_hop f.hop h)) as (λ _. same_hop f.hop h ≡ false) [ inl t ↦ absurd (n (sym a ∙ same_hop_is f.hop h t)) | inr e ↦ e ]))
held_other (f ∷ fs) (suc k) is h a n = ap (λ (xs : List Item). cond (same_hop f.hop h) (option_to_list f.held) xs) (held_other fs k is h a.1 n)
