-- What stands in front of a body, and before a colon.
use Rattle.std.proofs.Common.{◌≡◌, refl, sym, ◌∙◌, ap, subst, ℕ, suc, ◌-◌, ◌<◌, ◌≤◌, List, [], ◌∷◌, ◌++◌, length, get_or, take, drop, append_assoc, append-nil, Option, Some, None, IfSome, arith}
use Rattle.std.specs.Prelude.{option_and_then}
use Rattle.std.proofs.lemmas.Grind.{common_steps}
use Rattle.std.proofs.lemmas.Option.{slice_get_read, slice_get_past}
use Rattle.std.specs.Borrow.{Bor}
use Rattle.sdl_signal.specs.declared.values.Sort.{Sort}
use Rattle.sdl_listing_expression.specs.declared.syntax.Expr.{Expr}
use Rattle.sdl_listing_body.specs.declared.syntax.Body.{Body, Assign'}
use Rattle.sdl_listing_tokens.specs.declared.signs.Sign.TheVariants as sign
use Rattle.sdl_listing_tokens.specs.declared.tokens.Kind.TheVariants as kind
use Rattle.sdl_listing_tokens.specs.declared.tokens.Token.{Token}
use Rattle.sdl_transition_behaviour.specs.declared.offer.SignalSorts.{SignalSorts}
use Rattle.sdl_listing_body.specs.declared.syntax.Row.{Row}
use Rattle.sdl_listing_expression_text.specs.declared.setting.Setting.{Setting}
use Rattle.sdl_listing_expression_text.specs.declared.setting.Variable.{Variable}
use Rattle.sdl_listing_expression_text.specs.Spelling.{IsOne, IsNameOf, Joined, Reads}
use Rattle.sdl_signal.specs.declared.ids.StateId.{StateId}
use Rattle.sdl_signal.specs.declared.ids.SignalId.{SignalId}
use Rattle.sdl_listing_expression_text.specs.declared.setting.Meanings.{Meanings}
use Rattle.sdl_listing_expression_text.specs.Meanings.{sorts_of_signal, parameter_at}
use Rattle.sdl_listing_body_text.specs.Rows.{IsFree, IsComma, IsNextName, AreNames, IsList, IsHead, HasNext, HasMore, variable_place, place_assigned, assignment_of, assignments, HasInFront, IsWhole, AreMeanings, IsStart, IsInput}
use Rattle.sdl_listing_body_text.proofs.Reading.{reads_and, reads_as, reads_nothing, reads_then}

-- ---- assignments

pub one_in_front : (o : Option ℕ) (p : Option Expr) (k : ℕ) (e : Expr) (body whole : Body) → o ≡ Some k → p ≡ Some e → HasInFront ((k, e) ∷ []) body whole
    → HasInFront (assignment_of o p) body whole
one_in_front o p k e body whole x y h =
    subst (λ (a : Option ℕ). HasInFront (assignment_of a p) body whole) (sym x)
    (subst (λ (b : Option Expr). HasInFront (assignment_of (Some k) b) body whole) (sym y) h)

pub none_in_front : (o : Option ℕ) (p : Option Expr) (body : Body) → o ≡ None → HasInFront (assignment_of o p) body body
none_in_front o p body x = subst (λ (a : Option ℕ). HasInFront (assignment_of a p) body body) (sym x) refl

pub no_value_in_front : (o : Option ℕ) (p : Option Expr) (body : Body) → p ≡ None → HasInFront (assignment_of o p) body body
no_value_in_front None p body y = refl
no_value_in_front (Some k) p body y = subst (λ (b : Option Expr). HasInFront (assignment_of (Some k) b) body body) (sym y) refl

-- more in front
pub more_in_front : (xs ys : List (ℕ × Expr)) (body first whole : Body) → HasInFront ys body first → HasInFront xs first whole → HasInFront (xs ++ ys) body whole
more_in_front [] ys body first whole h e = subst (λ (b : Body). HasInFront ys body b) (sym e) h
more_in_front (x ∷ xs) ys body first (Assign' k e _ behind) h (d, more) = (d, more_in_front xs ys body first behind h more)
more_in_front (x ∷ xs) ys body first _ h more = absurd more

-- none of the first so many
pub none_assigned : (m : Meanings) (n : ℕ) (body : Body) → n ≡ 0 → HasInFront (assignments m n) body body
none_assigned m n body e = subst (λ (i : ℕ). HasInFront (assignments m i) body body) (sym e) refl

-- one more of the first so many
pub more_assigned : (m : Meanings) (n k : ℕ) (body first whole : Body) → n ≡ suc k
    → HasInFront (assignment_of (place_assigned m k) (parameter_at m.sorts.now k)) body first → HasInFront (assignments m k) first whole
    → HasInFront (assignments m n) body whole
more_assigned m n k body first whole e h more =
    subst (λ (i : ℕ). HasInFront (assignments m i) body whole) (sym e)
    (more_in_front (assignments m k) (assignment_of (place_assigned m k) (parameter_at m.sorts.now k)) body first whole h more)

-- the place of the variable that has the name
pub assigned_at : (m : Meanings) (vs : List Variable) (i : ℕ) (name : Bor (List ℕ)) (r : Option ℕ) → vs ≡ m.setting.variables.now.items
    → i < length m.names.now → name ≡ get_or m.names.now i name → r ≡ variable_place vs name.now → r ≡ place_assigned m i
assigned_at m vs i name r same within at found =
    found
    ∙ (ap (λ (l : List Variable). variable_place l name.now) same
    ∙ sym (ap (λ (o : Option (Bor (List ℕ))). option_and_then (λ (x : Bor (List ℕ)). variable_place m.setting.variables.now.items x.now) o)
    (slice_get_read m.names.now (length m.names.now) i name refl within at)))

-- no parameter has the place
pub assigned_past : (m : Meanings) (i : ℕ) → length m.names.now ≤ i → place_assigned m i ≡ None
assigned_past m i past =
    ap (λ (o : Option (Bor (List ℕ))). option_and_then (λ (x : Bor (List ℕ)). variable_place m.setting.variables.now.items x.now) o)
    (slice_get_past m.names.now i past)

-- ---- names

-- the next name
pub name_behind : (s : Setting) (sort : Sort) (before old : List (Bor (List ℕ))) (text : List ℕ) {a b c : List Token} → before ≡ old → IsFree s before sort text
    → Reads (IsComma before) a b → Reads (IsNameOf text) b c → Reads (IsNextName s old sort text) a c
name_behind s sort before old text {a = a} {c = c} e free p q =
    subst (λ (l : List (Bor (List ℕ))). Reads (IsNextName s l sort text) a c) e (reads_and free (reads_then p q))

-- no more names
pub no_more_names : (s : Setting) (old : List (Bor (List ℕ))) (sorts : List Sort) (a b : List Token) → length sorts ≡ 0
    → Reads (IsOne (kind.Sign sign.Close)) a b → HasMore old old (λ more. Reads (AreNames s old sorts more) a b)
no_more_names s old [] a b none r = ([], sym (append-nil old), r)
no_more_names s old (sort ∷ sorts) a b none r = absurd (omega (arith, none))

-- a name more
pub more_names : (s : Setting) (old pushed new : List (Bor (List ℕ))) (sort : Sort) (sorts all : List Sort) (a b c : List Token) → all ≡ sort ∷ sorts
    → HasNext old pushed (λ name. Reads (IsNextName s old sort name.now) a b) → HasMore pushed new (λ more. Reads (AreNames s pushed sorts more) b c)
    → HasMore old new (λ more. Reads (AreNames s old all more) a c)
more_names s old pushed new sort sorts all a b c first (name, e, p) (more, f, r) =
    let behind : Reads (AreNames s (old ++ name ∷ []) sorts more) b c = subst (λ (l : List (Bor (List ℕ))). Reads (AreNames s l sorts more) b c) e r in
    let whole : Reads (AreNames s old (sort ∷ sorts) (name ∷ more)) a c = reads_then p behind in (
      name ∷ more,
      f ∙ (ap (λ (l : List (Bor (List ℕ))). l ++ more) e ∙ append_assoc old (name ∷ []) more),
      subst (λ (l : List Sort). Reads (AreNames s old l (name ∷ more)) a c) (sym first) whole,
    )

pub first_and_rest : {A : Type 0} (l : List A) (d : A) → 1 ≤ length l → l ≡ get_or l 0 d ∷ take (length l - 1) (drop 1 l)
first_and_rest l d one = grind (arith, common_steps)

-- neither brackets nor names
pub no_list : (s : Setting) (sorts : List Sort) (names : List (Bor (List ℕ))) (a : List Token) → names ≡ [] → Reads (IsList s sorts names) a a
no_list s sorts names a none =
    subst (λ (l : List (Bor (List ℕ))). Reads (IsList s sorts l) a a) (sym none) (reads_nothing (IsList s sorts []) a refl)

-- names in brackets
pub list_of_names : (s : Setting) (sorts : List Sort) (names : List (Bor (List ℕ))) (ts : List Token) → (length sorts ≡ 0 → ⊥)
    → Joined (IsOne (kind.Sign sign.Open)) (AreNames s [] sorts names) ts → IsList s sorts names ts
list_of_names s [] names ts some p = absurd (some refl)
list_of_names s (sort ∷ sorts) [] ts some (front, back, e, p, q) = absurd q
list_of_names s (sort ∷ sorts) (name ∷ names) ts some p = p

pub reads_list : (s : Setting) (sorts : List Sort) (old new : List (Bor (List ℕ))) {a b c : List Token} → old ≡ [] → (length sorts ≡ 0 → ⊥)
    → Reads (IsOne (kind.Sign sign.Open)) a b → HasMore old new (λ more. Reads (AreNames s old sorts more) b c) → Reads (IsList s sorts new) a c
reads_list s sorts old new {b = b} {c = c} none some open_ (more, e, r) =
    let same : new ≡ more = e ∙ ap (λ (l : List (Bor (List ℕ))). l ++ more) none in
    let names : Reads (AreNames s [] sorts new) b c = subst (λ (l : List (Bor (List ℕ))). Reads (AreNames s [] sorts l) b c) (sym same) (subst (λ (l : List (Bor (List ℕ))). Reads (AreNames s l sorts more) b c) none r) in
    reads_as (λ ts p. list_of_names s sorts new ts some p) (reads_then open_ names)

-- ---- whole texts

-- the text of a start
pub start_of : (s : Setting) (m : Meanings) (body own : Body) (a ts : List Token) → own ≡ body → a ≡ ts → AreMeanings s None [] m → m.names.now ≡ [] → IsWhole m body a
    → IsStart s own ts
start_of s m body own a ts e d are none whole =
    subst (λ (b : Body). IsStart s b ts) (sym e) (subst (λ (l : List Token). IsStart s body l) d (m, are, none, whole))

-- the text of an input
pub input_of : (s : Setting) (m : Meanings) (state : StateId) (own : SignalId) (signal : SignalSorts) (row : Row) (body : Body) (names : List (Bor (List ℕ)))
    (a b ts : List Token) → row.signal ≡ Some signal → signal.id ≡ own → row.body ≡ body → a ≡ ts → m.names.now ≡ names
    → AreMeanings s (Some state) (sorts_of_signal s own) m → Reads (IsHead s own names) a b → IsWhole m body b
    → IfSome row.signal (λ x. IsInput s state x.id row.body ts)
input_of s m state own signal row body names a b ts trigger id same all named are head whole =
    let front : Reads (IsHead s own m.names.now) a b = subst (λ (l : List (Bor (List ℕ))). Reads (IsHead s own l) a b) (sym named) head in
    let text : IsInput s state own body a = (m, are, (front.front, b, front.split, front.spelled, whole)) in
    let here : IsInput s state own row.body ts =
    subst (λ (x : Body). IsInput s state own x ts) (sym same) (subst (λ (l : List Token). IsInput s state own body l) all text) in
    subst (λ (o : Option SignalSorts). IfSome o (λ x. IsInput s state x.id row.body ts)) (sym trigger)
    (subst (λ (x : SignalId). IsInput s state x row.body ts) (sym id) here)
