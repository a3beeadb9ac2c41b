-- From what a table holds at a key to the fault there.
use Rattle.std.proofs.Common.{◌≡◌, ◌≢◌, ℕ, zero, suc, ◌<◌, Bool, true, false, List, [], ◌∷◌, length, map, get_or, Option, Some, None, IsSomeAnd, Contains, refl, sym, ap, subst, ◌∙◌, inl, inr, rules, arith}
use Rattle.std.specs.List.{list_all, HoldsAt}
use Rattle.arrayvec.specs.ArrayString.{ArrayString}
use Rattle.toml.specs.Data.{Data, Members}
use Rattle.toml.specs.View.{view}
use Rattle.toml.specs.declared.value.Value.{Value}
use Rattle.sdl_structure_tables.proofs.TableLemmas.{list_all-view, wrong_in, some_map, texts_kind}
use Rattle.sdl_structure_tables.specs.declared.place.Key.{Key}
use Rattle.sdl_structure_tables.specs.declared.place.Key.TheVariants as key
use Rattle.sdl_structure_tables.specs.declared.place.Place.{Place}
use Rattle.sdl_structure_tables.specs.declared.fault.FileFault.TheVariants as fault
use Rattle.sdl_structure_tables.specs.declared.walk.Walk.{Walk}
use Rattle.sdl_structure_tables.specs.Keys.{is_key, kind_of, needs_some, is_texts, tables}
use Rattle.sdl_structure_tables.specs.Tables.{data_at, text_at, elements_at, is_text, is_table, is_array_of, is_of_kind}
use Rattle.sdl_structure_tables.specs.Places.{names_before}
use Rattle.sdl_structure_tables.specs.Faults.{IsBroken, BreaksAt}
use Rattle.sdl_structure_tables.specs.Walks.{file_of, own, IsHere, name_texts}

-- a rule that is broken in the table where a walk stands
pub breaks : (w : Walk) (q : Place) (k : Key) (rule : Place → Members → Type 0) → IsHere w → is_key w.version w.place.part k ≡ true → q ≡ record w.place { key = k } → rule (record w.place { key = k }) (own w) → BreaksAt (file_of w) q rule
breaks w q k rule here listed e broken = rw e (record { place = here.place; listed = subst (λ v. is_key v w.place.part k ≡ true) here.version listed; broken = rw here.table broken })

pub wrong_texts : (w : Walk) (q : Place) (k : Key) (vs : List Value) → IsHere w → is_key w.version w.place.part k ≡ true → q ≡ record w.place { key = k } → is_texts (kind_of k) ≡ true → elements_at k (own w) ≡ map view vs → list_all (λ v. is_text (view v)) vs ≡ false → IsBroken (file_of w) (fault.WrongType q)
wrong_texts w q k vs here listed e kind held bad = breaks w q k _ here listed e
    (some_map (data_at k (own w)) (λ d. is_array_of is_text d ≡ false) (λ d. is_of_kind (kind_of k) d ≡ false) (λ d h. texts_kind (kind_of k) d kind ∙ h) (wrong_in is_text (data_at k (own w)) (map view vs) held (list_all-view is_text vs ∙ bad)))

pub wrong_tables : (w : Walk) (q : Place) (k : Key) (vs : List Value) → IsHere w → is_key w.version w.place.part k ≡ true → q ≡ record w.place { key = k } → kind_of k ≡ tables → elements_at k (own w) ≡ map view vs → list_all (λ v. is_table (view v)) vs ≡ false → IsBroken (file_of w) (fault.WrongType q)
wrong_tables w q k vs here listed e kind held bad = breaks w q k _ here listed e
    (some_map (data_at k (own w)) (λ d. is_array_of is_table d ≡ false) (λ d. is_of_kind (kind_of k) d ≡ false) (λ d h. rw kind h) (wrong_in is_table (data_at k (own w)) (map view vs) held (list_all-view is_table vs ∙ bad)))

-- a list of tables that may not be empty, and is there
pub empty_list : (w : Walk) (q : Place) (k : Key) (vs : List Value) → IsHere w → is_key w.version w.place.part k ≡ true → q ≡ record w.place { key = k } → needs_some w.version w.place.part k ≡ true → elements_at k (own w) ≡ map view vs → length vs ≡ 0 → data_at k (own w) ≢ None → IsBroken (file_of w) (fault.OutOfRange q)
empty_list w q k vs here listed e needed held none there = breaks w q k _ here listed e (inr (inl (subst (λ v. needs_some v w.place.part k ≡ true) here.version needed, held ∙ nothing vs none, there)))
  where
    nothing : (vs : List Value) → length vs ≡ 0 → map view vs ≡ []
    nothing [] e = refl
    nothing (v ∷ vs) e = cc

-- a name of the list stands among its texts
pub text_held : (names : List ArrayString) (i : ℕ) (text : List ℕ) → i < length names → HoldsAt (λ n. n.bytes ≡ text) names i → Contains (name_texts names) (Some text)
text_held names i text h found = let (a, b) = at names i h found in (i, a, b)
  where
    at : (names : List ArrayString) (i : ℕ) → i < length names → HoldsAt (λ n. n.bytes ≡ text) names i → (i < length (name_texts names)) × (get_or (name_texts names) i (Some text) ≡ Some text)
    at [] i h found = absurd (omega arith)
    at (n ∷ names) zero h found = (omega arith, ap Some (found n))
    at (n ∷ names) (suc i) h found = let (a, b) = at names i (omega arith) found in (omega arith, b)

pub taken : (w : Walk) (q : Place) (names : List ArrayString) (i : ℕ) (text : List ℕ) → IsHere w → is_key w.version w.place.part key.Name ≡ true → q ≡ record w.place { key = key.Name } → name_texts names ≡ names_before (file_of w) w.place → text_at key.Name (own w) ≡ Some text → i < length names → HoldsAt (λ n. n.bytes ≡ text) names i → IsBroken (file_of w) (fault.Duplicate q)
taken w q names i text here listed e before held h found = breaks w q key.Name _ here listed e
    (inl (refl, (text, held, rw (← before) (text_held names i text h found))))
