-- What is said of a step that does not conform to its offer.
use Rattle.std.proofs.Common.{◌≡◌, ℕ, zero, suc, ◌+◌, ◌-◌, ◌<◌, ◌≤◌, List, [], ◌∷◌, ◌++◌, length, take, drop, All, map, Option, Some, None, option_map, slice_get, slice_index_or, IfSome, refl, ap, ◌∙◌, subst, arith, rules}
use Rattle.std.proofs.lemmas.List.{take_rest}
use Rattle.std.proofs.lemmas.List.Elements.{All-nil, All-cons, All-head, All-tail}
use Rattle.sdl_signal.specs.declared.values.Sort.{Sort}
use Rattle.sdl_signal.specs.declared.values.Value.{Value}
use Rattle.sdl_signal.specs.Sorts.{sort_of, AreOfSorts}
use Rattle.sdl_transition_behaviour.specs.declared.step.Action.{Action}
use Rattle.sdl_transition_behaviour.specs.declared.step.Action.TheVariants.{Output, Create}
use Rattle.sdl_transition_behaviour.specs.declared.step.Step.{Step}
use Rattle.sdl_transition_behaviour.specs.declared.offer.Offer.{Offer}
use Rattle.sdl_transition_behaviour.specs.Offers.{IsLegalValue, IsActionOf, IsNextOf, Conforms}
use Rattle.sdl_transition_conformance.specs.declared.broken.Breach.{Breach}
use Rattle.sdl_transition_conformance.specs.Breaches.{IsBreachOfAction, IsFirstOfActions, FitsAt, IsFirstVariable}

pub first_here : (offer : Offer) (a : Action) (rest : List Action) (b : Breach) → IsBreachOfAction offer a b → IsFirstOfActions offer (a ∷ rest) b
first_here offer a rest b broken = record {
  before = [];
  own = a;
  behind = rest;
  place = refl;
  offered = All-nil (IsActionOf offer);
  broken = broken;
}

pub first_behind : (offer : Offer) (a : Action) (rest : List Action) (b : Breach) → IsActionOf offer a → IsFirstOfActions offer rest b → IsFirstOfActions offer (a ∷ rest) b
first_behind offer a rest b own f = record {
  before = a ∷ f.before;
  own = f.own;
  behind = f.behind;
  place = ap (λ more. a ∷ more) f.place;
  offered = All-cons (IsActionOf offer) a f.before own f.offered;
  broken = f.broken;
}

not_offered : (offer : Offer) (a : Action) (b : Breach) → IsBreachOfAction offer a b → IsActionOf offer a → ⊥
not_offered offer (Output signal dest via) b broken own = broken.0 own
not_offered offer (Create set) b broken own = broken.0 own

own_of_all : {X : Type 0} (P : X → Type 0) (before behind : List X) (own : X) → All P (before ++ own ∷ behind) → P own
own_of_all P [] behind own all = All-head P own behind all
own_of_all P (x ∷ before) behind own all = own_of_all P before behind own (All-tail P x (before ++ own ∷ behind) all)

-- to an offer that lacks one of its actions a step does not conform
pub actions_break : (offer : Offer) (step : Step) (b : Breach) → IsFirstOfActions offer step.actions.items b → Conforms offer step → ⊥
actions_break offer step b f c =
    not_offered offer f.own b f.broken (own_of_all (IsActionOf offer) f.before f.behind f.own (subst (All (IsActionOf offer)) f.place c.actions))

pub end_breaks : (offer : Offer) (step : Step) → (IsNextOf offer step.next → ⊥) → Conforms offer step → ⊥
end_breaks offer step other c = other c.next

-- a place in the rest of both lists is one place further in the whole
fits_up : (sets : ℕ) (v : Value) (values : List Value) (s : Sort) (sorts : List Sort) (k : ℕ) → FitsAt sets values sorts k → FitsAt sets (v ∷ values) (s ∷ sorts) (suc k)
fits_up sets v values s sorts k f = record { sort = f.sort; legal = f.legal }

fits_down : (sets : ℕ) (v : Value) (values : List Value) (s : Sort) (sorts : List Sort) (k : ℕ) → FitsAt sets (v ∷ values) (s ∷ sorts) (suc k) → FitsAt sets values sorts k
fits_down sets v values s sorts k f = record { sort = f.sort; legal = f.legal }

fits_here : (sets : ℕ) (v : Value) (values : List Value) (s : Sort) (sorts : List Sort) → sort_of v ≡ s → IsLegalValue sets v → FitsAt sets (v ∷ values) (s ∷ sorts) 0
fits_here sets v values s sorts same legal = record { sort = ap Some same; legal = legal }

fits_before : (sets : ℕ) (v : Value) (values : List Value) (s : Sort) (sorts : List Sort) (place : ℕ) → sort_of v ≡ s → IsLegalValue sets v
    → ((k : ℕ) → k < place → FitsAt sets values sorts k) → (k : ℕ) → k < suc place → FitsAt sets (v ∷ values) (s ∷ sorts) k
fits_before sets v values s sorts place same legal before zero lt = fits_here sets v values s sorts same legal
fits_before sets v values s sorts place same legal before (suc k) lt = fits_up sets v values s sorts k (before k (omega (arith, lt)))

-- where the first variable is as offered, the first that is not is one of the rest
pub variable_behind : (sets : ℕ) (v : Value) (values : List Value) (s : Sort) (sorts : List Sort) (place : ℕ) → sort_of v ≡ s → IsLegalValue sets v
    → IsFirstVariable sets values sorts place → IsFirstVariable sets (v ∷ values) (s ∷ sorts) (place + 1)
variable_behind sets v values s sorts place same legal f =
    let up : suc place ≡ place + 1 = grind arith in
    subst (IsFirstVariable sets (v ∷ values) (s ∷ sorts)) up record {
      broken = λ fits. f.broken (fits_down sets v values s sorts place fits);
      before = fits_before sets v values s sorts place same legal f.before;
    }

pub variables_behind : (sets : ℕ) (v : Value) (values : List Value) (s : Sort) (sorts : List Sort) → sort_of v ≡ s → IsLegalValue sets v
    → AreOfSorts values sorts × All (IsLegalValue sets) values → AreOfSorts (v ∷ values) (s ∷ sorts) × All (IsLegalValue sets) (v ∷ values)
variables_behind sets v values s sorts same legal rest =
    (ap (λ t. t ∷ map sort_of values) same ∙ ap (λ more. s ∷ more) rest.0, All-cons (IsLegalValue sets) v values legal rest.1)

at_start : (sets : ℕ) (values : List Value) (sorts : List Sort) → (FitsAt sets values sorts 0 → ⊥) → IsFirstVariable sets values sorts 0
at_start sets values sorts broken = record {
  broken = broken;
  before = λ k lt. absurd (let no : ⊥ = omega (arith, lt) in no);
}

pub variable_missing : (sets : ℕ) (s : Sort) (sorts : List Sort) → IsFirstVariable sets [] (s ∷ sorts) 0
variable_missing sets s sorts = at_start sets [] (s ∷ sorts) (λ fits. let e : None ≡ Some s = fits.sort in cc)

pub variable_over : (sets : ℕ) (v : Value) (values : List Value) → IsFirstVariable sets (v ∷ values) [] 0
variable_over sets v values = at_start sets (v ∷ values) [] (λ fits. let e : Some (sort_of v) ≡ None = fits.sort in cc)

some_same : {X : Type 0} (a b : X) → Some a ≡ Some b → a ≡ b
some_same a b e = cc

pub variable_here : (sets : ℕ) (v : Value) (values : List Value) (s : Sort) (sorts : List Sort) → ((sort_of v ≡ s) × IsLegalValue sets v → ⊥)
    → IsFirstVariable sets (v ∷ values) (s ∷ sorts) 0
variable_here sets v values s sorts other =
    at_start sets (v ∷ values) (s ∷ sorts) (λ fits. other (some_same (sort_of v) s fits.sort, fits.legal))

sort_at : (values : List Value) (k : ℕ) → option_map sort_of (slice_get values k) ≡ slice_get (map sort_of values) k
sort_at [] k = refl
sort_at (v ∷ values) zero = refl
sort_at (v ∷ values) (suc k) = sort_at values k

legal_at : (sets : ℕ) (values : List Value) → All (IsLegalValue sets) values → (k : ℕ) → IfSome (slice_get values k) (IsLegalValue sets)
legal_at sets [] all k = search rules
legal_at sets (v ∷ values) all zero = All-head (IsLegalValue sets) v values all
legal_at sets (v ∷ values) all (suc k) = legal_at sets values (All-tail (IsLegalValue sets) v values all) k

-- to an offer whose variables it does not keep a step does not conform
pub variables_break : (offer : Offer) (step : Step) (place : ℕ) → IsFirstVariable offer.sets step.vars.items offer.vars.items place → Conforms offer step → ⊥
variables_break offer step place f c = f.broken record {
  sort = sort_at step.vars.items place ∙ ap (λ sorts. slice_get sorts place) c.sorts;
  legal = legal_at offer.sets step.vars.items c.values place;
}

-- the same over what follows the first of a list
behind_first : (offer : Offer) (actions : List Action) (d : Action) (b : Breach) → 1 ≤ length actions → IsActionOf offer (slice_index_or actions 0 d)
    → IsFirstOfActions offer (take (length actions - 1) (drop 1 actions)) b → IsFirstOfActions offer actions b
behind_first offer [] d b some own f = let no : ⊥ = omega (arith, some) in absurd no
behind_first offer (a ∷ rest) d b some own f = first_behind offer a rest b own (subst (λ l. IsFirstOfActions offer l b) (take_rest (a ∷ rest) 1) f)

pub if_behind_first : (offer : Offer) (actions : List Action) (d : Action) (r : Option Breach) → 1 ≤ length actions → IsActionOf offer (slice_index_or actions 0 d)
    → IfSome r (IsFirstOfActions offer (take (length actions - 1) (drop 1 actions))) → IfSome r (IsFirstOfActions offer actions)
if_behind_first offer actions d None some own f = f
if_behind_first offer actions d (Some b) some own f = behind_first offer actions d b some own f

pub variable_behind_first : (sets : ℕ) (values : List Value) (v : Value) (sorts : List Sort) (s : Sort) (place : ℕ) → 1 ≤ length values → 1 ≤ length sorts
    → (sort_of (slice_index_or values 0 v) ≡ slice_index_or sorts 0 s) × IsLegalValue sets (slice_index_or values 0 v)
    → IsFirstVariable sets (take (length values - 1) (drop 1 values)) (take (length sorts - 1) (drop 1 sorts)) place → IsFirstVariable sets values sorts (place + 1)
variable_behind_first sets [] v sorts s place some more own f = let no : ⊥ = omega (arith, some) in absurd no
variable_behind_first sets (x ∷ values) v [] s place some more own f = let no : ⊥ = omega (arith, more) in absurd no
variable_behind_first sets (x ∷ values) v (y ∷ sorts) s place some more own f =
    variable_behind sets x values y sorts place own.0 own.1
    (subst (λ l. IsFirstVariable sets values l place) (take_rest (y ∷ sorts) 1)
    (subst (λ l. IsFirstVariable sets l (take (length (y ∷ sorts) - 1) (drop 1 (y ∷ sorts))) place) (take_rest (x ∷ values) 1) f))
