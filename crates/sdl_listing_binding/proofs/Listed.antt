-- Behaviours that are made of the transitions of a listing.
use Rattle.std.proofs.Common.{◌≡◌, refl, sym, ◌∙◌, ap, ℕ, suc, ◌+◌, ◌-◌, ◌≤◌, List, [], ◌∷◌, ◌++◌, length, take, drop, get_or, map, Option, Some, option_map, subst, append_assoc, arith}
use Rattle.std.specs.List.{All, AllByRecursion}
use Rattle.std.proofs.lemmas.List.{length-append, map-append, length-map, append-nil}
use Rattle.std.proofs.lemmas.Grind.{common_steps}
use Rattle.std.proofs.lemmas.List.Elements.{All-nil, All-cons}
use Rattle.sdl_transition_behaviour.specs.declared.step.Frame.{Frame}
use Rattle.sdl_transition_behaviour.specs.declared.step.Step.{Step}
use Rattle.sdl_transition_behaviour.specs.declared.step.Next.{Next}
use Rattle.sdl_transition_behaviour.specs.declared.step.Next.TheVariants.{State, Stop}
use Rattle.sdl_transition_behaviour.specs.declared.offer.SignalSorts.{SignalSorts}
use Rattle.sdl_transition_behaviour.specs.declared.offer.Offer.{Offer}
use Rattle.sdl_transition_behaviour.specs.declared.transition.Transition.{Transition}
use Rattle.sdl_transition_behaviour.specs.declared.behaviour.Row.{Row as StoredRow}
use Rattle.sdl_transition_behaviour.specs.declared.behaviour.Behaviour.{Behaviour}
use Rattle.sdl_transition_behaviour.specs.Transitions.{IsAllowed, IsAllowedRow, IsAllowedBehaviour}
use Rattle.sdl_listing_body.specs.declared.syntax.Body.{Body, Nothing, Output', Create', Assign', If', End}
use Rattle.sdl_listing_body.specs.declared.syntax.Row.{Row}
use Rattle.sdl_listing_body.specs.Sound.{IsSound}
use Rattle.sdl_listing_body.specs.Offering.{output_of, with_output, with_create, with_next, with_body, offer_before, offer_of}
use Rattle.sdl_listing_body.specs.declared.listing.ListedSet.{ListedSet}
use Rattle.sdl_listing_binding.specs.Answers.{rows_of}
use Rattle.sdl_listing_binding.specs.Parts.{HeadParts, transition_parts, row_parts, behaviour_head, behaviour_parts, listed_head, listed_transition, listed_transitions, listed_row, listed_rows, listed_sets, transitions_in, all_transitions, IsByOffer, count_of}

-- lists that are equal, of parts that are as long
split_equal : {X : Type 0} (a c b d : List X) → length a ≡ length c → a ++ b ≡ c ++ d → (a ≡ c) × (b ≡ d)
split_equal [] [] b d long e = (refl, e)
split_equal [] (y ∷ c) b d long e = absurd (omega arith)
split_equal (x ∷ a) [] b d long e = absurd (omega arith)
split_equal (x ∷ a) (y ∷ c) b d long e =
    let same : x ≡ y = cc in
    let rest : a ++ b ≡ c ++ d = cc in
    let as_long : length a ≡ length c = omega arith in
    let parts = split_equal a c b d as_long rest in
    ((λ i. same i ∷ parts.0 i), parts.1)

-- so many transitions as the heads say
pub rows_counted : (sets : List ListedSet) → length (rows_of sets) ≡ count_of (map listed_head sets)
rows_counted [] = refl
rows_counted (s ∷ more) =
    let both = length-append s.rows.items (rows_of more) in
    let rest = rows_counted more in
    omega arith

-- the same of heads and rows that were taken out of a listing, once nothing of it is left
pub counted : (all rest : List ListedSet) (heads : List HeadParts) (rows : List Row) → rest ≡ []
    → heads ++ map listed_head rest ≡ map listed_head all → rows ++ rows_of rest ≡ rows_of all → length rows ≡ count_of heads
counted all rest heads rows none heads_are rows_are =
    let own : rows ≡ rows_of all = sym (append-nil rows) ∙ (ap (λ l. rows ++ rows_of l) (sym none) ∙ rows_are) in
    let of : heads ≡ map listed_head all = sym (append-nil heads) ∙ (ap (λ l. heads ++ map listed_head l) (sym none) ∙ heads_are) in
    ap length own ∙ (rows_counted all ∙ ap count_of (sym of))

-- one more of a list that is looked at by its parts
pub one_more : {A C : Type 0} (f : A → C) (all made : List A) (b : A) (d : C) (rest : List C) → all ≡ made ++ b ∷ [] → f b ≡ d → map f all ++ rest ≡ map f made ++ d ∷ rest
one_more f all made b d rest last same =
    ap (λ l. map f l ++ rest) last ∙ (ap (λ l. l ++ rest) (map-append f made (b ∷ []))
    ∙ (append_assoc (map f made) (f b ∷ []) rest ∙ ap (λ c. map f made ++ c ∷ rest) same))

-- a body changes nothing of the state and the signal that an offer is for
next_state : (o : Offer) (next : Next) → (with_next o next).state ≡ o.state
next_state o (State state) = refl
next_state o Stop = refl

body_state : (b : Body) (o : Offer) → (with_body b o).state ≡ o.state
body_state Nothing o = refl
body_state (Output' id params to via _ rest) o = body_state rest (with_output o (output_of id params via))
body_state (Create' set _ rest) o = body_state rest (with_create o set)
body_state (Assign' k e _ rest) o = body_state rest o
body_state (If' c _ on_true _ on_false _ rest) o =
    body_state rest (with_body on_false (with_body on_true o)) ∙ (body_state on_false (with_body on_true o) ∙ body_state on_true o)
body_state (End next) o = next_state o next

next_signal : (o : Offer) (next : Next) → (with_next o next).signal ≡ o.signal
next_signal o (State state) = refl
next_signal o Stop = refl

body_signal : (b : Body) (o : Offer) → (with_body b o).signal ≡ o.signal
body_signal Nothing o = refl
body_signal (Output' id params to via _ rest) o = body_signal rest (with_output o (output_of id params via))
body_signal (Create' set _ rest) o = body_signal rest (with_create o set)
body_signal (Assign' k e _ rest) o = body_signal rest o
body_signal (If' c _ on_true _ on_false _ rest) o =
    body_signal rest (with_body on_false (with_body on_true o)) ∙ (body_signal on_false (with_body on_true o) ∙ body_signal on_true o)
body_signal (End next) o = next_signal o next

-- the numbers go on behind the first rows
numbers_on : (n : ℕ) (xs ys : List Row) → listed_transitions n (xs ++ ys) ≡ listed_transitions n xs ++ listed_transitions (n + length xs) ys
numbers_on n [] ys = let same : n ≡ n + 0 = omega arith in ap (λ m. listed_transitions m ys) same
numbers_on n (x ∷ xs) ys =
    let same : n + 1 + length xs ≡ n + suc (length xs) = omega arith in
    ap (λ l. listed_transition n x ∷ l) (numbers_on (n + 1) xs ys ∙ ap (λ m. listed_transitions (n + 1) xs ++ listed_transitions m ys) same)

numbers_long : (n : ℕ) (xs : List Row) → length (listed_transitions n xs) ≡ length xs
numbers_long n [] = refl
numbers_long n (x ∷ xs) = ap suc (numbers_long (n + 1) xs)

all_parts : {X : Type 0} (P : X → Type 0) (xs ys : List X) → AllByRecursion P (xs ++ ys) → AllByRecursion P xs × AllByRecursion P ys
all_parts P [] ys h = (tt, h)
all_parts P (x ∷ xs) ys h = let both = all_parts P xs ys h.1 in ((h.0, both.0), both.1)

all_together : {X : Type 0} (P : X → Type 0) (xs ys : List X) → AllByRecursion P xs → AllByRecursion P ys → AllByRecursion P (xs ++ ys)
all_together P [] ys h k = k
all_together P (x ∷ xs) ys h k = (h.0, all_together P xs ys h.1 k)

-- what holds of all, and of one behind them
pub all_last : {X : Type 0} (P : X → Type 0) (all made : List X) (b : X) → all ≡ made ++ b ∷ [] → AllByRecursion P made → P b → AllByRecursion P all
all_last P all made b last h own = subst (AllByRecursion P) (sym last) (all_together P made (b ∷ []) h (own, tt))

-- the first of a list that has one, and the others
pub first_and_rest : {A : Type 0} (l : List A) (d : A) → 1 ≤ length l → l ≡ get_or l 0 d ∷ take (length l - 1) (drop 1 l)
first_and_rest l d one = grind (arith, common_steps)

-- what holds of the transitions of a set and of those of the others
pub sound_on : (sets rest : List ListedSet) (s : ListedSet) → sets ≡ s ∷ rest → AllByRecursion IsSound (s.start ∷ s.rows.items) → AllByRecursion IsSound (rows_of rest)
    → AllByRecursion IsSound (rows_of sets)
sound_on sets rest s are own more =
    subst (λ l. AllByRecursion IsSound (rows_of l)) (sym are) (all_together IsSound (s.start ∷ s.rows.items) (rows_of rest) own more)

pub sound_off : (sets rest : List ListedSet) (s : ListedSet) → sets ≡ s ∷ rest → AllByRecursion IsSound (rows_of sets)
    → AllByRecursion IsSound (s.start ∷ s.rows.items) × AllByRecursion IsSound (rows_of rest)
sound_off sets rest s are all = all_parts IsSound (s.start ∷ s.rows.items) (rows_of rest) (subst (λ l. AllByRecursion IsSound (rows_of l)) are all)

module _ {S I : Type 0} {F : I → Type 0} {g : _} where
  one_row : (r : StoredRow S I F g) (n : ℕ) (x : Row) → IsByOffer r → transition_parts r.transition ≡ listed_transition n x → row_parts r ≡ listed_row n x
  one_row r n x by own =
      let offer : r.transition.offer ≡ offer_of x = ap (λ t. t.offer) own in
      let state : Some r.state ≡ x.state = sym by.0 ∙ (ap (λ (o : Offer). o.state) offer ∙ body_state x.body (offer_before x)) in
      let signal : Some r.signal ≡ option_map (λ (s : SignalSorts). s.id) x.signal =
      sym by.1 ∙ ap (λ (o : Option SignalSorts). option_map (λ (s : SignalSorts). s.id) o) (ap (λ (o : Offer). o.signal) offer ∙ body_signal x.body (offer_before x)) in
      λ i. record { state = state i; signal = signal i; transition = own i }

  -- rows by their numbers
  all_rows : (rs : List (StoredRow S I F g)) (n : ℕ) (xs : List Row) → AllByRecursion IsByOffer rs
      → map transition_parts (map (λ r. r.transition) rs) ≡ listed_transitions n xs → map row_parts rs ≡ listed_rows n xs
  all_rows [] n [] by own = refl
  all_rows [] n (x ∷ xs) by own = cc
  all_rows (r ∷ rs) n [] by own = cc
  all_rows (r ∷ rs) n (x ∷ xs) by own =
      let first : transition_parts r.transition ≡ listed_transition n x = cc in
      let rest : map transition_parts (map (λ r. r.transition) rs) ≡ listed_transitions (n + 1) xs = cc in
      let one = one_row r n x by.0 first in
      let more = all_rows rs (n + 1) xs by.1 rest in
      λ i. one i ∷ more i

  -- behaviours of these heads and of these transitions are those of the listing
  pub parts_listed : (bs : List (Behaviour S I F g)) (n : ℕ) (sets : List ListedSet)
      → map behaviour_head bs ≡ map listed_head sets → AllByRecursion (λ b. AllByRecursion IsByOffer b.rows.items) bs
      → map transition_parts (all_transitions bs) ≡ listed_transitions n (rows_of sets) → map behaviour_parts bs ≡ listed_sets n sets
  parts_listed [] n [] heads by own = refl
  parts_listed [] n (s ∷ sets) heads by own = cc
  parts_listed (b ∷ bs) n [] heads by own = cc
  parts_listed (b ∷ bs) n (s ∷ sets) heads by own =
      let head : behaviour_head b ≡ listed_head s = cc in
      let heads_on : map behaviour_head bs ≡ map listed_head sets = cc in
      let count : length b.rows.items ≡ length s.rows.items = ap (λ (h : HeadParts). h.rows) head in
      let stored = map (λ (r : StoredRow S I F g). r.transition) b.rows.items in
      let long : length (map transition_parts (transitions_in b)) ≡ length (listed_transitions n (s.start ∷ s.rows.items)) =
      ap suc (length-map stored transition_parts ∙ (length-map b.rows.items (λ (r : StoredRow S I F g). r.transition) ∙ (count ∙ sym (numbers_long (n + 1) s.rows.items)))) in
      let both = split_equal (map transition_parts (transitions_in b)) (listed_transitions n (s.start ∷ s.rows.items)) _ _ long
      (sym (map-append transition_parts (transitions_in b) (all_transitions bs)) ∙ (own ∙ numbers_on n (s.start ∷ s.rows.items) (rows_of sets))) in
      let parts : transition_parts b.start ∷ map transition_parts stored ≡ listed_transition n s.start ∷ listed_transitions (n + 1) s.rows.items = both.0 in
      let start : transition_parts b.start ≡ listed_transition n s.start = cc in
      let behind : map transition_parts stored ≡ listed_transitions (n + 1) s.rows.items = cc in
      let rows = all_rows b.rows.items (n + 1) s.rows.items by.0 behind in
      let same : n + suc (length s.rows.items) ≡ n + (1 + length s.rows.items) = omega arith in
      let more = parts_listed bs (n + (1 + length s.rows.items)) sets heads_on by.1 (both.1 ∙ ap (λ m. listed_transitions m (rows_of sets)) same) in
      λ i. record { head = head i; start = start i; rows = rows i } ∷ more i

  -- the transitions of one behaviour more
  pub transitions_last : (made : List (Behaviour S I F g)) (b : Behaviour S I F g) → all_transitions (made ++ b ∷ []) ≡ all_transitions made ++ transitions_in b
  transitions_last [] b = append-nil (transitions_in b)
  transitions_last (x ∷ made) b = ap (λ l. transitions_in x ++ l) (transitions_last made b) ∙ sym (append_assoc (transitions_in x) (all_transitions made) (transitions_in b))

  pub taken_last : (all made : List (Behaviour S I F g)) (b : Behaviour S I F g) (rest old : List (Transition S I F g))
      → all ≡ made ++ b ∷ [] → transitions_in b ++ rest ≡ old → all_transitions all ++ rest ≡ all_transitions made ++ old
  taken_last all made b rest old last own =
      ap (λ l. all_transitions l ++ rest) last ∙ (ap (λ l. l ++ rest) (transitions_last made b)
      ∙ (append_assoc (all_transitions made) (transitions_in b) rest ∙ ap (λ l. all_transitions made ++ l) own))

  rows_allowed : (may : ℕ → Frame → Step → Type 0) (rs : List (StoredRow S I F g)) → AllByRecursion (IsAllowed may) (map (λ r. r.transition) rs) → All (IsAllowedRow may) rs
  rows_allowed may [] h = All-nil (IsAllowedRow may)
  rows_allowed may (r ∷ rs) h = All-cons (IsAllowedRow may) r rs h.0 (rows_allowed may rs h.1)

  -- behaviours of transitions that answer what is allowed
  pub behaviours_allowed : (may : ℕ → Frame → Step → Type 0) (bs : List (Behaviour S I F g)) → AllByRecursion (IsAllowed may) (all_transitions bs)
      → AllByRecursion (IsAllowedBehaviour may) bs
  behaviours_allowed may [] h = tt
  behaviours_allowed may (b ∷ bs) h =
      let both = all_parts (IsAllowed may) (map (λ (r : StoredRow S I F g). r.transition) b.rows.items) (all_transitions bs) h.1 in
      (record { start = h.0; rows = rows_allowed may b.rows.items both.0 }, behaviours_allowed may bs both.1)
