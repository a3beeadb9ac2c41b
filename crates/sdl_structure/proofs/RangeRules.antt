-- In a file that keeps all rules, numbers are in their ranges, lists that need an element have one, and ends are two.
use Rattle.std.proofs.Common.{◌≡◌, ℕ, ℤ, pos, ◌≤◌, ◌≤ℤ◌, [], ◌∷◌, length, true, Option, Some, None, option_and_then, refl, sym, ap, subst, ◌∙◌, ◌⊎◌, inl, inr, arith}
use Rattle.std.proofs.lemmas.Int.{ints}
use Rattle.std.specs.Option.{option_map_or}
use Rattle.toml.specs.Data.{Data, Members, as_integer}
use Rattle.sdl_structure_parts.specs.Structure.{Structure}
use Rattle.sdl_structure_tables.specs.declared.version.Version.{Version}
use Rattle.sdl_structure_tables.specs.declared.version.Version.TheVariants.{One, Two}
use Rattle.sdl_structure_tables.specs.declared.place.Part.{Part}
use Rattle.sdl_structure_tables.specs.declared.place.Part.TheVariants as part
use Rattle.sdl_structure_tables.specs.declared.place.Key.{Key}
use Rattle.sdl_structure_tables.specs.declared.place.Key.TheVariants as key
use Rattle.sdl_structure_tables.specs.declared.place.Place.{Place}
use Rattle.sdl_structure_tables.specs.Keys.{is_key, least_of, greatest_of}
use Rattle.sdl_structure_tables.specs.Tables.{data_at, integer_at, elements_at, tables_at, own_version}
use Rattle.sdl_structure_tables.specs.Blocks.{inner_tables}
use Rattle.sdl_structure_tables.specs.Places.{table_at}
use Rattle.sdl_structure_tables.specs.Faults.{BreaksAt, IsOutOfRange}
use Rattle.sdl_structure_tables.proofs.ListLemmas.{zip_length}
use Rattle.sdl_structure_tables.proofs.SignalLemmas.{some_and}
use Rattle.sdl_structure.specs.File.{IsFileOf, NamesEnd, version_number}
use Rattle.sdl_structure.proofs.KeptLemmas.{IsKept, never, BlockKept, ChannelKept, SetKept, kept_at}
use Rattle.sdl_structure.proofs.KeyKinds.{number_key, channel_of}
use Rattle.sdl_structure.proofs.RuleLemmas.{none_in_both, needed}

abbrev InRange : Key → ℤ → Type 0
InRange k z = (least_of k ≤ℤ z) × (z ≤ℤ greatest_of k)

budget_range : (n : ℕ) → 1 ≤ n → n ≤ 1000000 → InRange key.Budget (pos n)
budget_range n low high = (omega (arith, ints), omega (arith, ints))

initial_range : (n : ℕ) → n ≤ 1024 → InRange key.Initial (pos n)
initial_range n high = (omega (arith, ints), omega (arith, ints))

maximum_range : (n : ℕ) → 1 ≤ n → n ≤ 1024 → InRange key.Maximum (pos n)
maximum_range n low high = (omega (arith, ints), omega (arith, ints))

-- a number that stands at the key is in the key's range
abbrev HoldsRange : Key → Members → Type 0
HoldsRange k ms = (z : ℤ) → integer_at k ms ≡ Some z → InRange k z

same : (x y : ℤ) → Some x ≡ Some y → x ≡ y
same x y e = cc

held : (o : Option Data) (default x y : ℤ) → option_map_or as_integer o (Some default) ≡ Some x → option_and_then as_integer o ≡ Some y → x ≡ y
held None default x y is h = cc
held (Some d) default x y is h = same x y (sym is ∙ h)

known : (v : Version) → InRange key.Version (version_number v)
known One = (omega (arith, ints), omega (arith, ints))
known Two = (omega (arith, ints), omega (arith, ints))

at_version : (v : Version) (s : Structure) (q : Part) (ms : Members) → IsKept v s q ms → is_key v q key.Version ≡ true → HoldsRange key.Version ms
at_version v s part.System ms kept l z h = subst (InRange key.Version) (same (version_number (own_version ms)) z (sym kept.version ∙ h)) (known (own_version ms))
at_version v s part.Signal ms kept l z h = never l
at_version v s part.Gate ms kept l z h = never l
at_version v s part.Channel ms kept l z h = never l
at_version One s part.Block ms kept l z h = never l
at_version Two s part.Block ms kept l z h = never l
at_version v s part.BlockGate ms kept l z h = never l
at_version v s part.BlockChannel ms kept l z h = never l
at_version v s part.Set ms kept l z h = never l
at_version v s part.SetGate ms kept l z h = never l

at_budget : (v : Version) (s : Structure) (q : Part) (ms : Members) → IsKept v s q ms → is_key v q key.Budget ≡ true → HoldsRange key.Budget ms
at_budget v s part.System ms kept l z h =
    subst (InRange key.Budget) (held (data_at key.Budget ms) (pos 100000) (pos s.budget) z kept.budget.0 h) (budget_range s.budget kept.budget.1 kept.budget.2)
at_budget v s part.Signal ms kept l z h = never l
at_budget v s part.Gate ms kept l z h = never l
at_budget v s part.Channel ms kept l z h = never l
at_budget One s part.Block ms kept l z h = never l
at_budget Two s part.Block ms kept l z h = never l
at_budget v s part.BlockGate ms kept l z h = never l
at_budget v s part.BlockChannel ms kept l z h = never l
at_budget v s part.Set ms kept l z h = never l
at_budget v s part.SetGate ms kept l z h = never l

-- only a set's table has these keys
set_of_initial : (v : Version) (s : Structure) (q : Part) (ms : Members) → IsKept v s q ms → is_key v q key.Initial ≡ true → SetKept ms
set_of_initial v s part.System ms kept l = never l
set_of_initial v s part.Signal ms kept l = never l
set_of_initial v s part.Gate ms kept l = never l
set_of_initial v s part.Channel ms kept l = never l
set_of_initial One s part.Block ms kept l = never l
set_of_initial Two s part.Block ms kept l = never l
set_of_initial v s part.BlockGate ms kept l = never l
set_of_initial v s part.BlockChannel ms kept l = never l
set_of_initial v s part.Set ms kept l = kept
set_of_initial v s part.SetGate ms kept l = never l

set_of_maximum : (v : Version) (s : Structure) (q : Part) (ms : Members) → IsKept v s q ms → is_key v q key.Maximum ≡ true → SetKept ms
set_of_maximum v s part.System ms kept l = never l
set_of_maximum v s part.Signal ms kept l = never l
set_of_maximum v s part.Gate ms kept l = never l
set_of_maximum v s part.Channel ms kept l = never l
set_of_maximum One s part.Block ms kept l = never l
set_of_maximum Two s part.Block ms kept l = never l
set_of_maximum v s part.BlockGate ms kept l = never l
set_of_maximum v s part.BlockChannel ms kept l = never l
set_of_maximum v s part.Set ms kept l = kept
set_of_maximum v s part.SetGate ms kept l = never l

at_initial : (ms : Members) → SetKept ms → HoldsRange key.Initial ms
at_initial ms (b, t, table) z h =
    subst (InRange key.Initial) (held (data_at key.Initial ms) (pos 1) (pos t.initial) z table.initial.0 h) (initial_range t.initial table.initial.1)

at_maximum : (ms : Members) → SetKept ms → HoldsRange key.Maximum ms
at_maximum ms (b, t, table) z h =
    subst (InRange key.Maximum) (held (data_at key.Maximum ms) (pos 1024) (pos t.maximum) z table.maximum.0 h) (maximum_range t.maximum table.maximum.1 table.maximum.2)

in_range : (v : Version) (s : Structure) (q : Part) (k : Key) (ms : Members) → IsKept v s q ms → is_key v q k ≡ true → (k ≡ key.Version) ⊎ (k ≡ key.Budget) ⊎ (k ≡ key.Initial) ⊎ (k ≡ key.Maximum) → HoldsRange k ms
in_range v s q k ms kept l (inl e) = subst (λ k. HoldsRange k ms) (sym e) (at_version v s q ms kept (subst (λ k. is_key v q k ≡ true) e l))
in_range v s q k ms kept l (inr (inl e)) = subst (λ k. HoldsRange k ms) (sym e) (at_budget v s q ms kept (subst (λ k. is_key v q k ≡ true) e l))
in_range v s q k ms kept l (inr (inr (inl e))) = subst (λ k. HoldsRange k ms) (sym e) (at_initial ms (set_of_initial v s q ms kept (subst (λ k. is_key v q k ≡ true) e l)))
in_range v s q k ms kept l (inr (inr (inr e))) = subst (λ k. HoldsRange k ms) (sym e) (at_maximum ms (set_of_maximum v s q ms kept (subst (λ k. is_key v q k ≡ true) e l)))

-- a list of tables that may not be empty has one
no_tables : (k : Key) (ms : Members) → elements_at k ms ≡ [] → tables_at k ms ≡ []
no_tables k ms e = rw e refl

-- a block has a set or a block
no_inner : (v : Version) (ms : Members) → tables_at key.Block ms ≡ [] → inner_tables v ms ≡ []
no_inner One ms e = refl
no_inner Two ms e = e

neither : (v : Version) (ms : Members) → BlockKept v ms → elements_at key.Set ms ≡ [] → elements_at key.Block ms ≡ [] → ⊥
neither v ms kept sets blocks =
    none_in_both (length (tables_at key.Set ms)) (length (inner_tables v ms)) kept.some (ap (λ ts. length ts) (no_tables key.Set ms sets)) (ap (λ ts. length ts) (no_inner v ms (no_tables key.Block ms blocks)))

two_ends : (s : Structure) (ms : Members) → ChannelKept s ms → length (elements_at key.Ends ms) ≡ 2
two_ends s ms (scope, c, table) = sym (zip_length (NamesEnd s.blocks s.sets s.gates scope) (elements_at key.Ends ms) (c.first ∷ c.second ∷ []) table.ends)

pub none_out_of_range : (root : Members) (s : Structure) (p : Place) → IsFileOf root s → ¬ BreaksAt root p (IsOutOfRange root)
none_out_of_range root s p file breaks = choose breaks.broken
  where
    kept : IsKept (own_version root) s p.part (table_at root p)
    kept = kept_at root s p.part p.block p.set p.item file breaks.place

    choose : IsOutOfRange root p (table_at root p) → ⊥
    choose (inl (kind, out)) =
        let (z, is, bad) = some_and (integer_at p.key (table_at root p)) (λ z. ¬ InRange p.key z) out in
        bad (in_range (own_version root) s p.part p.key (table_at root p) kept breaks.listed (number_key p.key kind) z is)
    choose (inr (inl (needs, none, there))) = needed (own_version root) s p.part p.key (table_at root p) kept needs (no_tables p.key (table_at root p) none)
    choose (inr (inr (inl (at, k, sets, blocks)))) = neither (own_version root) (table_at root p) (subst (λ q. IsKept (own_version root) s q (table_at root p)) at kept) sets blocks
    choose (inr (inr (inr (e, other, there)))) =
        let two = two_ends s (table_at root p) (channel_of (own_version root) s p.part (table_at root p) kept (subst (λ k. is_key (own_version root) p.part k ≡ true) e breaks.listed)) in
        other (subst (λ k. length (elements_at k (table_at root p)) ≡ 2) (sym e) two)
