-- A list in order that is part of another in order is no longer than it.
use Rattle.std.proofs.Common.{◌≡◌, ℕ, zero, suc, ◌<◌, ◌≤◌, List, [], ◌∷◌, length, Contains, ◌⊎◌, inl, inr, refl, sym, ◌∙◌, subst, arith}
use Rattle.std.specs.List.{AllByRecursion}
use Rattle.sdl_structure_parts.specs.Structure.{Structure}
use Rattle.sdl_routes.specs.declared.route.TableRow.{TableRow}
use Rattle.sdl_routes.proofs.Found.{each_of}
use Rattle.sdl_routes.proofs.Walks.{contained}
use Rattle.sdl_routes.specs.Routes.{IsRoute, StandsBefore, AreInOrder, AreRoutesOf, HasTooMany, row_place}
use Rattle.sdl_structure_parts.specs.Order.{IsBefore}

pub before_not_same : (xs : List ℕ) → ¬ IsBefore xs xs
before_not_same [] h = h
before_not_same (x ∷ xs) h = elim h [ inl lt ↦ absurd (omega arith) | inr same ↦ before_not_same xs same.1 ]

pub before_trans : (xs ys zs : List ℕ) → IsBefore xs ys → IsBefore ys zs → IsBefore xs zs
before_trans xs [] zs p q = absurd p
before_trans xs (y ∷ ys) [] p q = absurd q
before_trans [] (y ∷ ys) (z ∷ zs) p q = tt
before_trans (x ∷ xs) (y ∷ ys) (z ∷ zs) p q =
    elim p [
      | inl xy ↦ elim q [ inl yz ↦ inl (omega arith) | inr same ↦ (let e : y ≡ z = same.0 in inl (omega arith)) ]
      | inr first ↦ elim q [
        | inl yz ↦ (let e : x ≡ y = first.0 in inl (omega arith))
        | inr same ↦ inr (first.0 ∙ same.0, before_trans xs ys zs first.1 same.1)
      ]
    ]

-- what is contained behind a first element that stands before it
behind : (y x : TableRow) (ys : List TableRow) → StandsBefore y x → Contains (y ∷ ys) x → Contains ys x
behind y x ys before (zero, lt, is) =
    let e : y ≡ x = is in
    absurd (before_not_same (row_place x) (subst (λ (r : TableRow). StandsBefore r x) e before))
behind y x ys before (suc k, lt, is) = (k, (let l : k < length ys = omega arith in l), is)

all_behind : (y : TableRow) (xs ys : List TableRow) → AllByRecursion (StandsBefore y) xs → AllByRecursion (λ x. Contains (y ∷ ys) x) xs → AllByRecursion (λ x. Contains ys x) xs
all_behind y [] ys before all = tt
all_behind y (x ∷ xs) ys before all = (behind y x ys before.0 all.0, all_behind y xs ys before.1 all.1)

all_later : (y x : TableRow) (xs : List TableRow) → StandsBefore y x → AllByRecursion (StandsBefore x) xs → AllByRecursion (StandsBefore y) xs
all_later y x [] before all = tt
all_later y x (z ∷ xs) before all =
    (before_trans (row_place y) (row_place x) (row_place z) before all.0, all_later y x xs before all.1)

-- an element of a list in order is the first, or stands behind it
first_or_later : (y : TableRow) (ys : List TableRow) (x : TableRow) → AllByRecursion (StandsBefore y) ys → Contains (y ∷ ys) x → (y ≡ x) ⊎ StandsBefore y x
first_or_later y ys x all (zero, lt, is) = inl is
first_or_later y ys x all (suc k, lt, is) =
    let l : k < length ys = omega arith in
    inr (contained (StandsBefore y) ys x all (k, l, is))

none_in : (x : TableRow) → ¬ Contains [] x
none_in x (k, lt, is) = absurd (omega arith)

pub part_is_short : (xs ys : List TableRow) → AreInOrder xs → AreInOrder ys → AllByRecursion (λ x. Contains ys x) xs → length xs ≤ length ys
part_is_short [] ys o p all = omega arith
part_is_short (x ∷ xs) [] o p all = absurd (none_in x all.0)
part_is_short (x ∷ xs) (y ∷ ys) o p all =
    elim (first_or_later y ys x p.0 all.0) [
      | inl e ↦
          let before : AllByRecursion (StandsBefore y) xs = subst (λ (r : TableRow). AllByRecursion (StandsBefore r) xs) (sym e) o.0 in
          let short : length xs ≤ length ys = part_is_short xs ys o.1 p.1 (all_behind y xs ys before all.1) in
          omega arith
      | inr before ↦
          let short : length (x ∷ xs) ≤ length ys = part_is_short (x ∷ xs) ys o p.1 (all_behind y (x ∷ xs) ys (before, all_later y x xs before o.0) all) in
          omega arith
    ]

-- all routes of a structure are counted by its table
pub not_too_many : (s : Structure) (rows : List TableRow) → AreRoutesOf s rows → length rows ≤ 4096 → ¬ HasTooMany s
not_too_many s rows are few (more, long, sound, order) =
    let all : AllByRecursion (λ x. Contains rows x) more = each_of (IsRoute s) (λ x. Contains rows x) more are.complete sound in
    let short : length more ≤ length rows = part_is_short more rows order are.order all in
    absurd (omega arith)

-- two lists in order with the same elements are one list
pub same_rows : (xs ys : List TableRow) → AreInOrder xs → AreInOrder ys → AllByRecursion (λ x. Contains ys x) xs → AllByRecursion (λ y. Contains xs y) ys → ys ≡ xs
same_rows [] [] o p there back = refl
same_rows [] (y ∷ ys) o p there back = absurd (none_in y back.0)
same_rows (x ∷ xs) [] o p there back = absurd (none_in x there.0)
same_rows (x ∷ xs) (y ∷ ys) o p there back =
    elim (first_or_later y ys x p.0 there.0) [
      | inl e ↦
          let here : AllByRecursion (StandsBefore y) xs = subst (λ (r : TableRow). AllByRecursion (StandsBefore r) xs) (sym e) o.0 in
          let gone : AllByRecursion (StandsBefore x) ys = subst (λ (r : TableRow). AllByRecursion (StandsBefore r) ys) e p.0 in
          let rest : ys ≡ xs = same_rows xs ys o.1 p.1 (all_behind y xs ys here there.1) (all_behind x ys xs gone back.1) in
          cc
      | inr later ↦ elim (first_or_later x xs y o.0 back.0) [
        | inl e ↦ absurd (before_not_same (row_place x) (subst (λ (r : TableRow). StandsBefore r x) (sym e) later))
        | inr earlier ↦ absurd (before_not_same (row_place x) (before_trans (row_place x) (row_place y) (row_place x) earlier later))
      ]
    ]

pub one_table : (s : Structure) (rows others : List TableRow) → AreRoutesOf s rows → AreRoutesOf s others → others ≡ rows
one_table s rows others are more =
    same_rows rows others are.order more.order (each_of (IsRoute s) (λ x. Contains others x) rows more.complete are.sound)
    (each_of (IsRoute s) (λ x. Contains rows x) others are.complete more.sound)
