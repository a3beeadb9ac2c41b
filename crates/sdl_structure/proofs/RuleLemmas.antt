-- In a file that keeps all rules, no fault has a place.
use Rattle.std.proofs.Common.{◌≡◌, ◌≢◌, ℕ, ◌+◌, ◌<◌, List, [], ◌∷◌, length, Bool, true, false, ◌||◌, Option, Some, None, MatchOption, IsSomeAnd, bytes_eq, if◌then◌else◌, refl, sym, ap, subst, ◌∙◌, ◌⊎◌, inl, inr, arith}
use Rattle.std.specs.List.{AllByRecursion}
use Rattle.std.proofs.lemmas.Slice.Eq.{bytes_eq-Decides}
use Rattle.toml.specs.Data.{Data, Members}
use Rattle.sdl_structure_parts.specs.Structure.{Structure}
use Rattle.sdl_structure_parts.specs.declared.parts.Scope.TheVariants as scope
use Rattle.sdl_structure_tables.specs.declared.version.Version.{Version}
use Rattle.sdl_structure_tables.specs.declared.version.Version.TheVariants.{One, Two}
use Rattle.sdl_structure_tables.specs.declared.place.Part.{Part}
use Rattle.sdl_structure_tables.specs.declared.place.Part.TheVariants as part
use Rattle.sdl_structure_tables.specs.declared.place.Key.{Key}
use Rattle.sdl_structure_tables.specs.declared.place.Key.TheVariants as key
use Rattle.sdl_structure_tables.specs.declared.place.Place.{Place}
use Rattle.sdl_structure_tables.specs.Keys.{key_text, keys_of, kind_of, is_key, is_key_of, is_required, needs_some}
use Rattle.sdl_structure_tables.specs.Tables.{data_at, tables_at, own_version, is_of_kind, HasKindAt}
use Rattle.sdl_structure_tables.specs.Blocks.{blocks_of, blocks_from}
use Rattle.sdl_structure_tables.proofs.ListLemmas.{zip_length}
use Rattle.sdl_structure_tables.specs.Places.{table_at, IsPlace}
use Rattle.sdl_structure_tables.specs.Faults.{BreaksAt, HasUnknownKey, IsMissing, HasWrongType}
use Rattle.sdl_structure.specs.File.{IsFileOf, IsBlockTable}
use Rattle.sdl_structure.proofs.KeptLemmas.{IsKept, never, BlockKept, kept_at, shape_of}

-- a key's text tells which key it is
abbrev all_keys : List Key
all_keys = key.Version ∷ key.System ∷ key.Budget ∷ key.Signal ∷ key.Gate ∷ key.Block ∷ key.Channel ∷ key.Name ∷ key.Sorts ∷ key.Inward ∷ key.Outward ∷ key.Set ∷ key.Initial ∷ key.Maximum ∷ key.Ends ∷ key.Forth ∷ key.Back ∷ key.Nodelay ∷ []

abbrev key_in : List Key → List ℕ → Key
key_in [] bytes = key.Other
key_in (k ∷ ks) bytes = if bytes_eq (key_text k) bytes then k else key_in ks bytes

found : (k : Key) → key_in all_keys (key_text k) ≡ k
found key.Version = refl
found key.System = refl
found key.Budget = refl
found key.Signal = refl
found key.Gate = refl
found key.Block = refl
found key.Channel = refl
found key.Name = refl
found key.Sorts = refl
found key.Inward = refl
found key.Outward = refl
found key.Set = refl
found key.Initial = refl
found key.Maximum = refl
found key.Ends = refl
found key.Forth = refl
found key.Back = refl
found key.Nodelay = refl
found key.Other = refl

same_bytes : (xs ys : List ℕ) → bytes_eq xs ys ≡ true → xs ≡ ys
same_bytes xs ys e = (bytes_eq-Decides xs ys).0 e

same_key : (a b : Key) → bytes_eq (key_text a) (key_text b) ≡ true → a ≡ b
same_key a b e = sym (found a) ∙ ap (key_in all_keys) (same_bytes (key_text a) (key_text b) e) ∙ found b

-- what holds of all keys of a table holds of each key that it may have
listed_kind : (ms : Members) (ks : List Key) (k : Key) → AllByRecursion (HasKindAt ms) ks → is_key_of ks (key_text k) ≡ true → HasKindAt ms k
listed_kind ms [] k h listed = cc
listed_kind ms (x ∷ ks) k h listed = choose (bytes_eq (key_text x) (key_text k)) refl (λ l. listed_kind ms ks k h.1 l) listed
  where
    choose : (b : Bool) → bytes_eq (key_text x) (key_text k) ≡ b → (is_key_of ks (key_text k) ≡ true → HasKindAt ms k) → b || is_key_of ks (key_text k) ≡ true → HasKindAt ms k
    choose true e rest l = subst (HasKindAt ms) (same_key x k e) h.0
    choose false e rest l = rest l

pub kind_at : (root : Members) (s : Structure) (p : Place) → IsFileOf root s → IsPlace root p → is_key (own_version root) p.part p.key ≡ true → HasKindAt (table_at root p) p.key
kind_at root s p file place listed =
    listed_kind (table_at root p) (keys_of (own_version root) p.part) p.key (shape_of (own_version root) s p.part (table_at root p) (kept_at root s p.part p.block p.set p.item file place)).kinds listed

there : (o : Option Data) (required : Bool) (P : Data → Type 0) → MatchOption o (required ≡ false) P → required ≡ true → o ≡ None → ⊥
there None required P h r e = cc
there (Some d) required P h r e = cc

-- the lists that may not be empty
top_needs : (v : Version) (k : Key) → needs_some v part.System k ≡ true → k ≡ key.Block
top_needs v key.Version e = never e
top_needs v key.System e = never e
top_needs v key.Budget e = never e
top_needs v key.Signal e = never e
top_needs v key.Gate e = never e
top_needs v key.Block e = refl
top_needs v key.Channel e = never e
top_needs v key.Name e = never e
top_needs v key.Sorts e = never e
top_needs v key.Inward e = never e
top_needs v key.Outward e = never e
top_needs v key.Set e = never e
top_needs v key.Initial e = never e
top_needs v key.Maximum e = never e
top_needs v key.Ends e = never e
top_needs v key.Forth e = never e
top_needs v key.Back e = never e
top_needs v key.Nodelay e = never e
top_needs v key.Other e = never e

block_needs : (k : Key) → needs_some One part.Block k ≡ true → k ≡ key.Set
block_needs key.Version e = never e
block_needs key.System e = never e
block_needs key.Budget e = never e
block_needs key.Signal e = never e
block_needs key.Gate e = never e
block_needs key.Block e = never e
block_needs key.Channel e = never e
block_needs key.Name e = never e
block_needs key.Sorts e = never e
block_needs key.Inward e = never e
block_needs key.Outward e = never e
block_needs key.Set e = refl
block_needs key.Initial e = never e
block_needs key.Maximum e = never e
block_needs key.Ends e = never e
block_needs key.Forth e = never e
block_needs key.Back e = never e
block_needs key.Nodelay e = never e
block_needs key.Other e = never e

not_none : (n : ℕ) → 0 < n → n ≡ 0 → ⊥
not_none n h e = absurd (omega arith)

pub none_in_both : (a b : ℕ) → 0 < a + b → a ≡ 0 → b ≡ 0 → ⊥
none_in_both a b h e f = absurd (omega arith)

top_has : (root : Members) (s : Structure) → IsFileOf root s → tables_at key.Block root ≢ []
top_has root s file none =
    let empty : length (blocks_of root) ≡ 0 = ap (λ ts. length (blocks_from (own_version root) 4 scope.System 1 0 ts)) none in
    not_none (length s.blocks) file.limits.blocks.0 (zip_length IsBlockTable (blocks_of root) s.blocks file.parts.blocks ∙ empty)

block_has : (ms : Members) → BlockKept One ms → tables_at key.Set ms ≢ []
block_has ms kept none = none_in_both (length (tables_at key.Set ms)) 0 kept.some (ap (λ ts. length ts) none) refl

pub needed : (v : Version) (s : Structure) (q : Part) (k : Key) (ms : Members) → IsKept v s q ms → needs_some v q k ≡ true → tables_at k ms ≢ []
needed v s part.System k ms kept needs none = let e = top_needs v k needs in top_has ms s kept (subst (λ k. tables_at k ms ≡ []) e none)
needed v s part.Signal k ms kept needs none = never needs
needed v s part.Gate k ms kept needs none = never needs
needed v s part.Channel k ms kept needs none = never needs
needed One s part.Block k ms kept needs none = let e = block_needs k needs in block_has ms kept (subst (λ k. tables_at k ms ≡ []) e none)
needed Two s part.Block k ms kept needs none = never needs
needed v s part.BlockGate k ms kept needs none = never needs
needed v s part.BlockChannel k ms kept needs none = never needs
needed v s part.Set k ms kept needs none = never needs
needed v s part.SetGate k ms kept needs none = never needs

no_tables : (k : Key) (ms : Members) → data_at k ms ≡ None → tables_at k ms ≡ []
no_tables k ms e = rw e refl

pub none_missing : (root : Members) (s : Structure) (p : Place) → IsFileOf root s → ¬ BreaksAt root p (IsMissing root)
none_missing root s p file breaks = choose breaks.broken.0
  where
    choose : (is_required p.key ≡ true) ⊎ (needs_some (own_version root) p.part p.key ≡ true) → ⊥
    choose (inl required) = there (data_at p.key (table_at root p)) (is_required p.key) _ (kind_at root s p file breaks.place breaks.listed) required breaks.broken.1
    choose (inr needs) =
        needed (own_version root) s p.part p.key (table_at root p) (kept_at root s p.part p.block p.set p.item file breaks.place) needs (no_tables p.key (table_at root p) breaks.broken.1)

clash : (o : Option Data) (N : Type 0) (test : Data → Bool) → MatchOption o N (λ d. test d ≡ true) → IsSomeAnd o (λ d. test d ≡ false) → ⊥
clash None N test h k = k
clash (Some d) N test h k = cc

pub none_of_wrong_type : (root : Members) (s : Structure) (p : Place) → IsFileOf root s → ¬ BreaksAt root p HasWrongType
none_of_wrong_type root s p file breaks =
    clash (data_at p.key (table_at root p)) (is_required p.key ≡ false) (is_of_kind (kind_of p.key)) (kind_at root s p file breaks.place breaks.listed) breaks.broken

pub none_unknown : (root : Members) (s : Structure) (p : Place) → IsFileOf root s → ¬ HasUnknownKey root p
none_unknown root s p file breaks = apart (sym (shape_of (own_version root) s p.part (table_at root p) (kept_at root s p.part p.block p.set p.item file breaks.place)).others ∙ breaks.unknown)
  where
    apart : true ≡ false → ⊥
    apart e = cc
