-- The groups of an index, row by row.
use Rattle.std.proofs.Common.{◌≡◌, ◌≢◌, ℕ, ◌+◌, ◌<◌, List, [], length, map, take, get_or, slice_set, Some, slice_get, Vec, Contains, inl, inr, refl, ap, sym, ◌∙◌, subst, arith}
use Rattle.std.proofs.lemmas.List.{get_or-map, get_or-set_same, get_or-set_other, length-map, length-set, map-set}
use Rattle.std.proofs.lemmas.List.Elements.{All-contains}
use Rattle.std.proofs.lemmas.Bool.{cases_eq}
use Rattle.sdl_routes.specs.declared.route.TableRow.{TableRow}
use Rattle.sdl_routes.specs.declared.route.Wish.{Wish}
use Rattle.sdl_routes.specs.declared.route.EndPoint.{EndPoint}
use Rattle.sdl_routes.specs.declared.route.EndPoint.TheVariants as ends
use Rattle.sdl_routes.specs.declared.entries.Entry.{Entry}
use Rattle.sdl_routes.specs.declared.index.Index.{Index}
use Rattle.sdl_routes.specs.Routes.{AreFitting}
use Rattle.sdl_routes.specs.Index.{group_place, goal_place, end_goal, HasEntry, IsEntry, AreEntries, list_at, IsGroup, AreGroups, IsIndexOf}
use Rattle.sdl_routes.proofs.Fitting.{none_fit, whole}
use Rattle.sdl_routes.proofs.Indexed.{passed, fits_goal, fits_group}

-- a list of lists
module _ {X A : Type 0} where
  pub list_at_is : (lists : List (Vec X A)) (n : ℕ) (v : Vec X A) → n < length lists → v ≡ get_or lists n v → list_at lists n ≡ v.items
  list_at_is lists n v lt is = get_or-map (λ (w : Vec X A). w.items) lists n v [] lt ∙ ap (λ (w : Vec X A). w.items) (sym is)

  pub list_at_written : (lists : List (Vec X A)) (i : ℕ) (v : Vec X A) → i < length lists → list_at (slice_set lists i v) i ≡ v.items
  list_at_written lists i v lt =
      let long : length (map (λ (w : Vec X A). w.items) lists) ≡ length lists = length-map lists (λ (w : Vec X A). w.items) in
      ap (λ l. get_or l i []) (map-set (λ (w : Vec X A). w.items) lists i v)
      ∙ get_or-set_same (map (λ (w : Vec X A). w.items) lists) i v.items [] (omega arith)

  pub list_at_other : (lists : List (Vec X A)) (i n : ℕ) (v : Vec X A) → n ≢ i → list_at (slice_set lists i v) n ≡ list_at lists n
  list_at_other lists i n v not =
      ap (λ l. get_or l n []) (map-set (λ (w : Vec X A). w.items) lists i v)
      ∙ get_or-set_other (map (λ (w : Vec X A). w.items) lists) i n v.items [] not

pub found_at : {X A B : Type 0} (groups ds : List (Vec (Vec X A) B)) (p q g h : ℕ) (v : Vec (Vec X A) B) (es : List (Vec X A)) (u : Vec X A)
    → ds ≡ groups → p ≡ q → p < length ds → v ≡ get_or ds p v → es ≡ v.items → g ≡ h → g < length es → u ≡ get_or es g u
    → list_at (list_at groups q) h ≡ u.items
found_at groups ds p q g h v es u d pq lt vis eis gh low uis =
    let outer : list_at groups q ≡ es =
    ap (λ l. list_at l q) (sym d) ∙ ap (λ (n : ℕ). list_at ds n) (sym pq) ∙ list_at_is ds p v lt vis ∙ sym eis in
    ap (λ l. list_at l h) outer ∙ ap (λ (n : ℕ). list_at es n) (sym gh) ∙ list_at_is es g u low uis

-- lists that are read alike, and one of them
pub group_at : {A : Type 0} (rows : List TableRow) (n p g : ℕ) (old lists : List (Vec Entry A)) (v : Vec Entry A) → IsGroup rows n p old
    → list_at lists g ≡ list_at old g → g < length lists → v ≡ get_or lists g v → AreEntries rows n p g v.items
group_at rows n p g old lists v are same lt is = subst (λ l. AreEntries rows n p g l) (sym same ∙ list_at_is lists g v lt is) (are g)

pub groups_at : {A B : Type 0} (rows : List TableRow) (n p : ℕ) (old lists : List (Vec (Vec Entry A) B)) (v : Vec (Vec Entry A) B) → AreGroups rows n old
    → list_at lists p ≡ list_at old p → p < length lists → v ≡ get_or lists p v → IsGroup rows n p v.items
groups_at rows n p old lists v are same lt is = subst (λ l. IsGroup rows n p l) (sym same ∙ list_at_is lists p v lt is) (are p)

pub end_goal_place : (end : EndPoint) → 0 < goal_place (end_goal end)
end_goal_place (ends.Environment e) = omega arith
end_goal_place (ends.Set t) = omega arith

-- the next row, in the two lists of its group
pub grouped : {A : Type 0} (rows : List TableRow) (n p i : ℕ) (row : TableRow) (old lists : List (Vec Entry A)) (first second : Vec Entry A)
    → slice_get rows n ≡ Some row → ((m : ℕ) → list_at lists m ≡ list_at old m) → i < length lists → i ≡ goal_place (end_goal row.route.end)
    → AreEntries rows (n + 1) p 0 first.items → AreEntries rows (n + 1) p i second.items → IsGroup rows n p old
    → IsGroup rows (n + 1) p (slice_set (slice_set lists 0 first) i second)
grouped rows n p i row old lists first second at same lt place one two are g =
    let long : length (slice_set lists 0 first) ≡ length lists = length-set lists 0 first in
    let within : i < length (slice_set lists 0 first) = omega arith in
    let some : 0 < length lists = omega arith in
    elim (cases_eq g i) [
      | inl e ↦ subst (λ (m : ℕ). AreEntries rows (n + 1) p m (list_at (slice_set (slice_set lists 0 first) i second) m)) (sym e)
          (subst (λ l. AreEntries rows (n + 1) p i l) (sym (list_at_written (slice_set lists 0 first) i second within)) two)
      | inr not ↦ subst (λ l. AreEntries rows (n + 1) p g l) (sym (list_at_other (slice_set lists 0 first) i g second not)) (elim (cases_eq g 0) [
        | inl z ↦ subst (λ (m : ℕ). AreEntries rows (n + 1) p m (list_at (slice_set lists 0 first) m)) (sym z)
            (subst (λ l. AreEntries rows (n + 1) p 0 l) (sym (list_at_written lists 0 first some)) one)
        | inr more ↦ subst (λ l. AreEntries rows (n + 1) p g l) (sym (list_at_other lists 0 g first more ∙ same g))
            (passed rows n p g (list_at old g) row at (λ w stands fits. elim (fits_goal row w fits) [
              | inl any ↦ more (sym stands.goal ∙ ap goal_place any)
              | inr end ↦ not (sym stands.goal ∙ ap goal_place end ∙ sym place)
            ]) (are g))
      ])
    ]

-- the next row, in its group
pub indexed : {A B : Type 0} (rows : List TableRow) (n i : ℕ) (row : TableRow) (old lists : List (Vec (Vec Entry A) B)) (group : Vec (Vec Entry A) B)
    → slice_get rows n ≡ Some row → ((m : ℕ) → list_at lists m ≡ list_at old m) → i < length lists → i ≡ group_place row.source row.route.signal
    → IsGroup rows (n + 1) i group.items → AreGroups rows n old → AreGroups rows (n + 1) (slice_set lists i group)
indexed rows n i row old lists group at same lt place is are p =
    elim (cases_eq p i) [
      | inl e ↦ subst (λ (m : ℕ). IsGroup rows (n + 1) m (list_at (slice_set lists i group) m)) (sym e)
          (subst (λ l. IsGroup rows (n + 1) i l) (sym (list_at_written lists i group lt)) is)
      | inr not ↦ subst (λ l. IsGroup rows (n + 1) p l) (sym (list_at_other lists i p group not ∙ same p))
          (λ g. passed rows n p g (list_at (list_at old p) g) row at (λ w stands fits. not (sym (fits_group row w p g fits stands) ∙ sym place)) (are p g))
    ]

-- what an index has for a wish
pub chosen : (rows : List TableRow) (index : Index) (w : Wish) (e : Entry) → IsIndexOf rows index → e.wish ≡ w
    → Contains (list_at (list_at index.groups.items (group_place w.source w.signal)) (goal_place w.goal)) e → AreFitting w 0 rows e.numbers.items
chosen rows index w e are wish at =
    let p = group_place w.source w.signal in
    let g = goal_place w.goal in
    let is : IsEntry rows (length rows) p g e =
    All-contains (IsEntry rows (length rows) p g) (list_at (list_at index.groups.items p) g) e (are p g).each at in
    whole w rows e.numbers.items (subst (λ (v : Wish). AreFitting v 0 (take (length rows) rows) e.numbers.items) wish is.numbers)

pub none_chosen : (rows : List TableRow) (index : Index) (w : Wish) → IsIndexOf rows index
    → (HasEntry (list_at (list_at index.groups.items (group_place w.source w.signal)) (goal_place w.goal)) w → ⊥) → AreFitting w 0 rows []
none_chosen rows index w are none =
    whole w rows [] (none_fit w 0 rows (length rows) (λ k row at lt fits.
    none ((are (group_place w.source w.signal) (goal_place w.goal)).all k row w lt at fits (record { group = refl; goal = refl }))))
