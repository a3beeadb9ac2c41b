-- No two saves and rows are for the same state and signal.
use Rattle.std.proofs.Common.{◌≡◌, ◌≢◌, Bool, true, false, ◌&&◌, ◌||◌, ◌==◌, List, [], ◌∷◌, ◌++◌, map, Option, Some, None, IfSome, refl, sym, ap, subst, ◌∙◌, append-nil, append_assoc, eq-eqb}
use Rattle.std.proofs.lemmas.List.{map_push}
use Rattle.std.proofs.lemmas.List.Elements.{filter_map-append}
use Rattle.std.specs.Prelude.{filter_map}
use Rattle.std.specs.List.{list_any, cons_option, AllByRecursion}
use Rattle.sdl_signal.specs.declared.ids.SignalId.{SignalId}
use Rattle.sdl_signal.specs.declared.ids.StateId.{StateId}
use Rattle.sdl_transition_saves.specs.declared.save.Save.{Save}
use Rattle.sdl_transition_behaviour.specs.declared.offer.SignalSorts.{SignalSorts}
use Rattle.sdl_listing_body.specs.declared.syntax.Row.{Row}
use Rattle.sdl_listing_file.specs.Heads.{save_head, head_from, row_head, heads_of, AreDistinct, AreOnce, is_save_for, is_state, is_signal, is_row_for, is_taken}

neither : (a b : Bool) → (a || b) ≡ false → (a ≡ false) × (b ≡ false)
neither true b h = absurd (let bad : ⊥ = cc in bad)
neither false b h = (refl, h)

-- two heads that are one pass the test of both their numbers
same_head : (a b : StateId × SignalId) → a ≡ b → ((a.0.0 == b.0.0) && (a.1.0 == b.1.0)) ≡ true
same_head a b e = subst (λ (c : StateId × SignalId). ((a.0.0 == c.0.0) && (a.1.0 == c.1.0)) ≡ true) e itself
  where
    itself : ((a.0.0 == a.0.0) && (a.1.0 == a.1.0)) ≡ true
    itself = rw (eq-eqb a.0.0 a.0.0 refl, eq-eqb a.1.0 a.1.0 refl) refl

other_head : (a b : StateId × SignalId) → ((a.0.0 == b.0.0) && (a.1.0 == b.1.0)) ≡ false → a ≢ b
other_head a b apart e = let same : ((a.0.0 == b.0.0) && (a.1.0 == b.1.0)) ≡ true = same_head a b e in cc

not_saved : (state : StateId) (signal : SignalId) (saves : List Save) → list_any (λ x. is_save_for state signal x) saves ≡ false → AllByRecursion (λ h. h ≢ (state, signal)) (map save_head saves)
not_saved state signal [] none = tt
not_saved state signal (x ∷ saves) none =
    let parts = neither (is_save_for state signal x) (list_any (λ x. is_save_for state signal x) saves) none in
    (other_head (save_head x) (state, signal) parts.0, not_saved state signal saves parts.1)

head_apart : (own : Option StateId) (sorts : Option SignalSorts) (state : StateId) (signal : SignalId) → (is_state state own && is_signal signal sorts) ≡ false → IfSome (head_from own sorts) (λ h. h ≢ (state, signal))
head_apart (Some s) (Some x) state signal apart = other_head (s, x.id) (state, signal) apart
head_apart (Some s) None state signal apart = tt
head_apart None sorts state signal apart = tt

one_more : (P : StateId × SignalId → Type 0) (o : Option (StateId × SignalId)) (rest : List (StateId × SignalId)) → IfSome o P → AllByRecursion P rest → AllByRecursion P (cons_option o rest)
one_more P None rest h all = all
one_more P (Some x) rest h all = (h, all)

not_rowed : (state : StateId) (signal : SignalId) (rows : List Row) → list_any (λ x. is_row_for state signal x) rows ≡ false → AllByRecursion (λ h. h ≢ (state, signal)) (filter_map row_head rows)
not_rowed state signal [] none = tt
not_rowed state signal (x ∷ rows) none =
    let parts = neither (is_row_for state signal x) (list_any (λ x. is_row_for state signal x) rows) none in
    one_more (λ h. h ≢ (state, signal)) (row_head x) (filter_map row_head rows) (head_apart x.state x.signal state signal parts.0) (not_rowed state signal rows parts.1)

all_append : {X : Type 0} (P : X → Type 0) (xs ys : List X) → AllByRecursion P xs → AllByRecursion P ys → AllByRecursion P (xs ++ ys)
all_append P [] ys h k = k
all_append P (x ∷ xs) ys h k = (h.0, all_append P xs ys h.1 k)

not_taken : (state : StateId) (signal : SignalId) (saves : List Save) (rows : List Row) → is_taken state signal saves rows ≡ false → AllByRecursion (λ h. h ≢ (state, signal)) (heads_of saves rows)
not_taken state signal saves rows none =
    let parts = neither (list_any (λ x. is_save_for state signal x) saves) (list_any (λ x. is_row_for state signal x) rows) none in
    all_append (λ h. h ≢ (state, signal)) (map save_head saves) (filter_map row_head rows) (not_saved state signal saves parts.0) (not_rowed state signal rows parts.1)

all_turned : {X : Type 0} (z : X) (xs : List X) → AllByRecursion (λ y. y ≢ z) xs → AllByRecursion (λ y. z ≢ y) xs
all_turned z [] h = tt
all_turned z (x ∷ xs) h = (λ e. h.0 (sym e), all_turned z xs h.1)

all_between : {X : Type 0} (P : X → Type 0) (xs ys : List X) (z : X) → AllByRecursion P (xs ++ ys) → P z → AllByRecursion P ((xs ++ z ∷ []) ++ ys)
all_between P [] ys z h p = (p, h)
all_between P (x ∷ xs) ys z h p = (h.0, all_between P xs ys z h.1 p)

distinct_between : {X : Type 0} (xs ys : List X) (z : X) → AreDistinct (xs ++ ys) → AllByRecursion (λ y. y ≢ z) (xs ++ ys) → AreDistinct ((xs ++ z ∷ []) ++ ys)
distinct_between [] ys z h apart = (all_turned z ys apart, h)
distinct_between (x ∷ xs) ys z h apart = (all_between (λ y. x ≢ y) xs ys z h.0 apart.0, distinct_between xs ys z h.1 apart.1)

-- one more save
pub save_once : (saves new : List Save) (rows same : List Row) (save : Save) → AreOnce saves rows → is_taken save.state save.signal saves rows ≡ false → new ≡ saves ++ save ∷ [] → same ≡ rows → AreOnce new same
save_once saves new rows same save once none e f =
    let apart = not_taken save.state save.signal saves rows none in
    let added : AreDistinct ((map save_head saves ++ save_head save ∷ []) ++ filter_map row_head rows) = distinct_between (map save_head saves) (filter_map row_head rows) (save_head save) once apart in
    let joined : map save_head (saves ++ save ∷ []) ≡ map save_head saves ++ save_head save ∷ [] = map_push save_head saves save in
    let own : AreOnce (saves ++ save ∷ []) rows = subst (λ l. AreDistinct (l ++ filter_map row_head rows)) (sym joined) added in
    subst (λ l. AreOnce l same) (sym e) (subst (λ l. AreOnce (saves ++ save ∷ []) l) (sym f) own)

-- one more row
pub row_once : (saves same : List Save) (rows new : List Row) (row : Row) (state : StateId) (sorts : SignalSorts) → row.state ≡ Some state → row.signal ≡ Some sorts → AreOnce saves rows → is_taken state sorts.id saves rows ≡ false
    → new ≡ rows ++ row ∷ [] → same ≡ saves → AreOnce same new
row_once saves same rows new row state sorts own sent once none e f =
    let head : row_head row ≡ Some (state, sorts.id) = ap (λ (o : Option StateId). head_from o row.signal) own ∙ ap (λ (o : Option SignalSorts). head_from (Some state) o) sent in
    let z : StateId × SignalId = (state, sorts.id) in
    let all : List (StateId × SignalId) = heads_of saves rows in
    let bare : all ++ [] ≡ all = append-nil all in
    let apart : AllByRecursion (λ h. h ≢ z) (all ++ []) = subst (λ l. AllByRecursion (λ h. h ≢ z) l) (sym bare) (not_taken state sorts.id saves rows none) in
    let added : AreDistinct ((all ++ z ∷ []) ++ []) = distinct_between all [] z (subst (λ l. AreDistinct l) (sym bare) once) apart in
    let one : filter_map row_head (row ∷ []) ≡ z ∷ [] = ap (λ (o : Option (StateId × SignalId)). cons_option o []) head in
    let joined : heads_of saves (rows ++ row ∷ []) ≡ all ++ z ∷ [] =
    ap (λ l. map save_head saves ++ l) (filter_map-append row_head rows (row ∷ []) ∙ ap (λ l. filter_map row_head rows ++ l) one) ∙ sym (append_assoc (map save_head saves) (filter_map row_head rows) (z ∷ [])) in
    let whole : AreOnce saves (rows ++ row ∷ []) = subst (λ l. AreDistinct l) (sym joined) (subst (λ l. AreDistinct l) (append-nil (all ++ z ∷ [])) added) in
    subst (λ l. AreOnce same l) (sym e) (subst (λ l. AreOnce l (rows ++ row ∷ [])) (sym f) whole)
