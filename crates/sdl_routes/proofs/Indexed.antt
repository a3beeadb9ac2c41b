-- The entries of an index, row by row.
use Rattle.std.proofs.Common.{◌≡◌, ◌≢◌, ℕ, ◌+◌, ◌<◌, ◌≤◌, List, [], ◌∷◌, ◌++◌, length, map, take, get_or, slice_set, Some, slice_get, Contains, All, Result, Ok, Err, OnOk, ◌⊎◌, inl, inr, refl, ap, sym, ◌∙◌, subst, arith, add-one, zero-add}
use Rattle.std.proofs.lemmas.List.{get_or-set_same, get_or-set_other}
use Rattle.std.proofs.lemmas.List.Elements.{All-push, All-weaker, Contains-append_left, Contains-push}
use Rattle.std.proofs.lemmas.Bool.{cases_eq}
use Rattle.sdl_signal.specs.declared.ids.SignalId.{SignalId}
use Rattle.sdl_signal.specs.declared.ids.SetId.{SetId}
use Rattle.sdl_routes.specs.declared.route.TableRow.{TableRow}
use Rattle.sdl_routes.specs.declared.route.Wish.{Wish}
use Rattle.sdl_routes.specs.declared.route.Source.{Source}
use Rattle.sdl_routes.specs.declared.route.Via.{Via}
use Rattle.sdl_routes.specs.declared.route.EndPoint.{EndPoint}
use Rattle.sdl_routes.specs.declared.route.EndPoint.TheVariants as ends
use Rattle.sdl_routes.specs.declared.route.Goal.{Goal}
use Rattle.sdl_routes.specs.declared.route.Goal.TheVariants as goal
use Rattle.sdl_routes.specs.declared.entries.Entry.{Entry}
use Rattle.sdl_routes.specs.Routes.{Fits, AreFitting, EndsAs}
use Rattle.sdl_routes.specs.Index.{group_place, goal_place, end_goal, StandsAt, HasEntry, IsEntry, AreEntries}
use Rattle.sdl_routes.proofs.Fitting.{fit_more, fit_less, none_fit}

-- one row further
pub noted : (w : Wish) (rows : List TableRow) (k : ℕ) (row : TableRow) (fs : List ℕ) → slice_get rows k ≡ Some row → Fits row w
    → AreFitting w 0 (take k rows) fs → AreFitting w 0 (take (k + 1) rows) (fs ++ k ∷ [])
noted w rows k row fs at fits are = rw add-one (fit_more w 0 rows k row fs k at fits (sym (zero-add k)) are)

pub skipped : (w : Wish) (rows : List TableRow) (k : ℕ) (row : TableRow) (fs : List ℕ) → slice_get rows k ≡ Some row → ¬ Fits row w
    → AreFitting w 0 (take k rows) fs → AreFitting w 0 (take (k + 1) rows) fs
skipped w rows k row fs at never are = rw add-one (fit_less w 0 rows k row fs at never are)

-- one more entry
wish_more : (es : List Entry) (e : Entry) → map (λ (x : Entry). x.wish) (es ++ e ∷ []) ≡ map (λ (x : Entry). x.wish) es ++ e.wish ∷ []
wish_more [] e = refl
wish_more (x ∷ es) e = ap (λ l. x.wish ∷ l) (wish_more es e)

pub has_more : (es : List Entry) (e : Entry) (w : Wish) → HasEntry es w → HasEntry (es ++ e ∷ []) w
has_more es e w has =
    subst (λ (l : List Wish). Contains l w) (sym (wish_more es e)) (Contains-append_left (map (λ (x : Entry). x.wish) es) (e.wish ∷ []) w has)

pub has_new : (es : List Entry) (e : Entry) → HasEntry (es ++ e ∷ []) e.wish
has_new es e =
    subst (λ (l : List Wish). Contains l e.wish) (sym (wish_more es e)) (Contains-push (map (λ (x : Entry). x.wish) es) e.wish)

pub opened : (rows : List TableRow) (n p g : ℕ) (es : List Entry) (e : Entry) → StandsAt p g e.wish → e.numbers.items ≡ [] → (HasEntry es e.wish → ⊥)
    → AreEntries rows n p g es → AreEntries rows n p g (es ++ e ∷ [])
opened rows n p g es e stands empty new are =
    let none : AreFitting e.wish 0 (take n rows) [] = none_fit e.wish 0 rows n (λ k row at lt fits. new (are.all k row e.wish lt at fits stands)) in
    record {
      each = All-push (IsEntry rows n p g) es e are.each (record { place = stands; numbers = subst (λ (l : List ℕ). AreFitting e.wish 0 (take n rows) l) (sym empty) none });
      all = λ k row w lt at fits there. has_more es e w (are.all k row w lt at fits there);
    }

-- no entry at first
pub no_entries : (table : List TableRow) (p g : ℕ) → AreEntries table 0 p g []
no_entries table p g = record {
  each = λ k d lt. absurd (omega arith);
  all = λ k row w lt at fits there. absurd (omega arith);
}

same_row : (rows : List TableRow) (n k : ℕ) (row other : TableRow) → k ≡ n → slice_get rows n ≡ Some row → slice_get rows k ≡ Some other → other ≡ row
same_row rows n k row other is at there =
    let e : Some other ≡ Some row = sym there ∙ ap (λ (i : ℕ). slice_get rows i) is ∙ at in cc

-- the next row, which fits no entry of the place
pub passed : (rows : List TableRow) (n p g : ℕ) (es : List Entry) (row : TableRow) → slice_get rows n ≡ Some row → ((w : Wish) → StandsAt p g w → ¬ Fits row w)
    → AreEntries rows n p g es → AreEntries rows (n + 1) p g es
passed rows n p g es row at never are = record {
  each = All-weaker (IsEntry rows n p g) (IsEntry rows (n + 1) p g)
      (λ (e : Entry) h. record { place = h.place; numbers = skipped e.wish rows n row e.numbers.items at (never e.wish h.place) h.numbers }) es are.each;
  all = λ k other w lt there fits stands. elim (cases_eq k n) [
    | inl is ↦ absurd (never w stands (subst (λ (r : TableRow). Fits r w) (same_row rows n k row other is at there) fits))
    | inr not ↦ are.all k other w (omega arith) there fits stands
  ];
}

-- the next row, which is noted in each entry that it fits
pub noted_each : (rows : List TableRow) (n p g : ℕ) (es new : List Entry) (row : TableRow) → slice_get rows n ≡ Some row
    → map (λ (x : Entry). x.wish) new ≡ map (λ (x : Entry). x.wish) es → ((w : Wish) → Fits row w → StandsAt p g w → HasEntry es w)
    → All (IsEntry rows (n + 1) p g) new → AreEntries rows n p g es → AreEntries rows (n + 1) p g new
noted_each rows n p g es new row at same has each are = record {
  each = each;
  all = λ k other w lt there fits stands. subst (λ (l : List Wish). Contains l w) (sym same) (elim (cases_eq k n) [
    | inl is ↦ has w (subst (λ (r : TableRow). Fits r w) (same_row rows n k row other is at there) fits) stands
    | inr not ↦ are.all k other w (omega arith) there fits stands
  ]);
}

-- a goal is known by its place
pub same_goal : (a b : Goal) → goal_place a ≡ goal_place b → a ≡ b
same_goal goal.Anywhere goal.Anywhere e = refl
same_goal goal.Anywhere goal.Environment e = absurd (omega arith)
same_goal goal.Anywhere goal.Null e = absurd (omega arith)
same_goal goal.Anywhere (goal.Set t) e = absurd (omega arith)
same_goal goal.Environment goal.Anywhere e = absurd (omega arith)
same_goal goal.Environment goal.Environment e = refl
same_goal goal.Environment goal.Null e = absurd (omega arith)
same_goal goal.Environment (goal.Set t) e = absurd (omega arith)
same_goal goal.Null goal.Anywhere e = absurd (omega arith)
same_goal goal.Null goal.Environment e = absurd (omega arith)
same_goal goal.Null goal.Null e = refl
same_goal goal.Null (goal.Set t) e = absurd (omega arith)
same_goal (goal.Set t) goal.Anywhere e = absurd (omega arith)
same_goal (goal.Set t) goal.Environment e = absurd (omega arith)
same_goal (goal.Set t) goal.Null e = absurd (omega arith)
same_goal (goal.Set t) (goal.Set u) e = let f : t.0 ≡ u.0 = omega arith in ap goal.Set (same_set t u f)
  where
    same_set : (t u : SetId) → t.0 ≡ u.0 → t ≡ u
    same_set t u e = ap (λ (n : ℕ). let set : SetId = record { 0 = n } in set) e

-- the goals that a route fits
pub fits_goal : (row : TableRow) (w : Wish) → Fits row w → (w.goal ≡ goal.Anywhere) ⊎ (w.goal ≡ end_goal row.route.end)
fits_goal row w fits = by_goal w.goal row.route.end fits.end
  where
    by_goal : (g : Goal) (end : EndPoint) → EndsAs (record row.route { end = end }) g → (g ≡ goal.Anywhere) ⊎ (g ≡ end_goal end)
    by_goal goal.Anywhere end h = inl refl
    by_goal goal.Null end h = absurd h
    by_goal goal.Environment (ends.Environment e) h = inr refl
    by_goal goal.Environment (ends.Set t) h = absurd h
    by_goal (goal.Set t) end h = inr (sym (ap end_goal h))

pub fits_group : (row : TableRow) (w : Wish) (p g : ℕ) → Fits row w → StandsAt p g w → group_place row.source row.route.signal ≡ p
fits_group row w p g fits stands =
    ap (λ s. group_place s row.route.signal) fits.start ∙ ap (λ x. group_place w.source x) fits.signal ∙ stands.group

-- a loop that has come to the place i writes there
pub written : {X : Type 0} (P : X → Type 0) (xs : List X) (i : ℕ) (x : X) → i < length xs → P x → ((k : ℕ) (d : X) → k < i → P (get_or xs k d))
    → (k : ℕ) (d : X) → k < i + 1 → P (get_or (slice_set xs i x) k d)
written P xs i x lt is done k d low = elim (cases_eq k i) [
  | inl e ↦ subst P (sym (ap (λ (n : ℕ). get_or (slice_set xs i x) n d) e ∙ get_or-set_same xs i x d lt)) is
  | inr not ↦ subst P (sym (get_or-set_other xs i k x d not)) (done k d (omega arith))
]

pub unwritten : {X : Type 0} (xs old : List X) (i : ℕ) (x : X) → ((k : ℕ) (d : X) → i ≤ k → get_or xs k d ≡ get_or old k d)
    → (k : ℕ) (d : X) → i + 1 ≤ k → get_or (slice_set xs i x) k d ≡ get_or old k d
unwritten xs old i x rest k d from =
    let not : k ≢ i = λ e. omega arith in
    get_or-set_other xs i k x d not ∙ rest k d (omega arith)

pub entry_noted : (rows : List TableRow) (n p g : ℕ) (old new : Entry) → new.wish ≡ old.wish
    → (AreFitting old.wish 0 (take n rows) old.numbers.items → AreFitting old.wish 0 (take (n + 1) rows) new.numbers.items)
    → IsEntry rows n p g old → IsEntry rows (n + 1) p g new
entry_noted rows n p g old new same more is = record {
  place = subst (λ (w : Wish). StandsAt p g w) (sym same) is.place;
  numbers = subst (λ (w : Wish). AreFitting w 0 (take (n + 1) rows) new.numbers.items) (sym same) (more is.numbers);
}

-- a wish that the row fits, by its VIA
wish_of : Source → SignalId → Goal → Via → Wish
wish_of source signal goal via = record { source = source; signal = signal; goal = goal; via = via }

pub wish_is : (row : TableRow) (to : Goal) (p g : ℕ) (w : Wish) → Fits row w → StandsAt p g w → goal_place to ≡ g
    → record { source = row.source; signal = row.route.signal; goal = to; via = w.via } ≡ w
unfolding wish_of
wish_is row to p g w fits stands place =
    ap (λ (s : Source). wish_of s row.route.signal to w.via) fits.start
    ∙ ap (λ (x : SignalId). wish_of w.source x to w.via) fits.signal
    ∙ ap (λ (y : Goal). wish_of w.source w.signal y w.via) (same_goal to w.goal (place ∙ sym stands.goal))

pub on_ok : {X E P Q : Type 0} (r : Result X E) → (P → Q) → OnOk r P → OnOk r Q
on_ok (Ok x) f h = f h
on_ok (Err e) f h = tt
