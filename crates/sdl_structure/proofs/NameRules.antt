-- In a file that keeps all rules, what has to be a name is one, and each end has one dot.
use Rattle.std.proofs.Common.{◌≡◌, ℕ, List, true, IsSomeAnd, slice_get, sym, subst, ◌⊎◌, inl, inr}
use Rattle.toml.specs.Data.{Data, Members, as_str}
use Rattle.sdl_signal.specs.Names.{IsName}
use Rattle.sdl_structure_parts.specs.Structure.{Structure}
use Rattle.sdl_structure_parts.specs.declared.parts.End.{End}
use Rattle.sdl_structure_parts.specs.declared.parts.Scope.{Scope}
use Rattle.sdl_structure_tables.specs.declared.version.Version.{Version}
use Rattle.sdl_structure_tables.specs.declared.version.Version.TheVariants.{One, Two}
use Rattle.sdl_structure_tables.specs.declared.place.Part.{Part}
use Rattle.sdl_structure_tables.specs.declared.place.Part.TheVariants as part
use Rattle.sdl_structure_tables.specs.declared.place.Key.{Key}
use Rattle.sdl_structure_tables.specs.declared.place.Key.TheVariants as key
use Rattle.sdl_structure_tables.specs.declared.place.Place.{Place}
use Rattle.sdl_structure_tables.specs.Keys.{ends, is_key}
use Rattle.sdl_structure_tables.specs.Tables.{text_at, elements_at, own_version}
use Rattle.sdl_structure_tables.specs.Places.{table_at}
use Rattle.sdl_structure_tables.specs.Names.{HasName, HasOneDot, agent_part, gate_part}
use Rattle.sdl_structure_tables.specs.Faults.{BreaksAt, HasBadName, HoldsText}
use Rattle.sdl_structure_tables.proofs.SignalLemmas.{some_and}
use Rattle.sdl_structure_tables.proofs.TableLemmas.{some_map}
use Rattle.sdl_structure.specs.File.{IsFileOf, NamesEnd, IsAgent, side_in}
use Rattle.sdl_structure.proofs.KeptLemmas.{IsKept, never, ChannelKept, kept_at}
use Rattle.sdl_structure.proofs.KeyKinds.{of_kind, text_key, channel_of, zip_left, text_has}

abbrev Named : Key → Members → Type 0
Named k ms = (name : List ℕ) × HasName k ms name

system_name : (v : Version) (s : Structure) (q : Part) (ms : Members) → IsKept v s q ms → is_key v q key.System ≡ true → Named key.System ms
system_name v s part.System ms kept l = (s.system, kept.system)
system_name v s part.Signal ms kept l = never l
system_name v s part.Gate ms kept l = never l
system_name v s part.Channel ms kept l = never l
system_name One s part.Block ms kept l = never l
system_name Two s part.Block ms kept l = never l
system_name v s part.BlockGate ms kept l = never l
system_name v s part.BlockChannel ms kept l = never l
system_name v s part.Set ms kept l = never l
system_name v s part.SetGate ms kept l = never l

own_name : (v : Version) (s : Structure) (q : Part) (ms : Members) → IsKept v s q ms → is_key v q key.Name ≡ true → Named key.Name ms
own_name v s part.System ms kept l = never l
own_name v s part.Signal ms kept l = (kept.0.name.bytes, kept.1.name)
own_name v s part.Gate ms kept l = (kept.1.name.bytes, kept.2.name)
own_name v s part.Channel ms kept l = (kept.1.name.bytes, kept.2.name)
own_name v s part.Block ms kept l = (kept.named, kept.name)
own_name v s part.BlockGate ms kept l = (kept.1.name.bytes, kept.2.name)
own_name v s part.BlockChannel ms kept l = (kept.1.name.bytes, kept.2.name)
own_name v s part.Set ms kept l = (kept.1.name.bytes, kept.2.name)
own_name v s part.SetGate ms kept l = (kept.1.name.bytes, kept.2.name)

named : (v : Version) (s : Structure) (q : Part) (k : Key) (ms : Members) → IsKept v s q ms → is_key v q k ≡ true → (k ≡ key.System) ⊎ (k ≡ key.Name) → Named k ms
named v s q k ms kept listed (inl e) = subst (λ k. Named k ms) (sym e) (system_name v s q ms kept (subst (λ k. is_key v q k ≡ true) e listed))
named v s q k ms kept listed (inr e) = subst (λ k. Named k ms) (sym e) (own_name v s q ms kept (subst (λ k. is_key v q k ≡ true) e listed))

no_bad_name : (k : Key) (ms : Members) → Named k ms → IsSomeAnd (text_at k ms) (λ name. ¬ IsName name) → ⊥
no_bad_name k ms named bad = subst (λ o. IsSomeAnd o (λ name. ¬ IsName name)) named.1.0 bad named.1.1

-- each end that a text names has one dot
one_dot : (s : Structure) (scope : Scope) (d : Data) (e : End) → NamesEnd s.blocks s.sets s.gates scope d e → IsSomeAnd (as_str d) HasOneDot
one_dot s scope d e named =
    let (g, is, said) = some_and (slice_get s.gates e.gate.0) (λ g. IsSomeAnd (as_str d) (λ text. HasOneDot text × (g.name.bytes ≡ gate_part text) × IsAgent s.blocks s.sets scope (agent_part text) g.owner) × (e.side ≡ side_in scope g.owner)) named in
    some_map (as_str d) _ HasOneDot (λ text h. h.0) said.0

dotted : (s : Structure) (ms : Members) (i : ℕ) (end : List ℕ) → ChannelKept s ms → HoldsText key.Ends ms i end → HasOneDot end
dotted s ms i end kept held =
    text_has HasOneDot (elements_at key.Ends ms) i end (zip_left (NamesEnd s.blocks s.sets s.gates kept.0) (λ d. IsSomeAnd (as_str d) HasOneDot) _ _ (λ d e h. one_dot s kept.0 d e h) kept.2.ends) held

pub none_of_bad_name : (root : Members) (s : Structure) (p : Place) → IsFileOf root s → ¬ BreaksAt root p HasBadName
none_of_bad_name root s p file breaks = choose breaks.broken
  where
    kept : IsKept (own_version root) s p.part (table_at root p)
    kept = kept_at root s p.part p.block p.set p.item file breaks.place

    choose : HasBadName p (table_at root p) → ⊥
    choose (inl (kind, bad)) = no_bad_name p.key (table_at root p) (named (own_version root) s p.part p.key (table_at root p) kept breaks.listed (text_key p.key kind)) bad
    choose (inr (kind, end, i, held, bad)) =
        let e : p.key ≡ key.Ends = of_kind ends p.key kind in
        bad (dotted s (table_at root p) i end (channel_of (own_version root) s p.part (table_at root p) kept (subst (λ k. is_key (own_version root) p.part k ≡ true) e breaks.listed)) (subst (λ k. HoldsText k (table_at root p) i end) e held))
