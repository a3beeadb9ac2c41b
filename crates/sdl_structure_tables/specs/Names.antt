-- The names of the structure file: those of signals and of sorts, the lists of signals, and the ends of channels. (This project's own.)
use Rattle.std.specs.Prelude.{◌≡◌, ◌≢◌, ℕ, ◌+◌, ◌*◌, ◌<◌, ◌≤◌, pos, ◌==◌, Bool, true, false, List, [], ◌∷◌, ◌++◌, map, length, Option, Some, slice_get, codes, count_by, IsSomeAnd, AllPairs}
use Rattle.std.specs.List.{AllZip, before_first, after_first}
use Rattle.toml.specs.Data.{Data, Members, as_str}
use Rattle.sdl_signal.specs.declared.ids.SignalId.{SignalId}
use Rattle.sdl_signal.specs.declared.values.Sort.{Sort}
use Rattle.sdl_signal.specs.declared.values.Sort.TheVariants as sort
use Rattle.sdl_signal.specs.Names.{IsName}
use Rattle.sdl_structure_parts.specs.declared.parts.SignalDecl.{SignalDecl}
use Rattle.sdl_structure_tables.specs.declared.place.Key.{Key}
use Rattle.sdl_structure_tables.specs.declared.place.Key.TheVariants as key
use Rattle.sdl_structure_tables.specs.declared.place.Part.TheVariants as part
use Rattle.sdl_structure_tables.specs.Keys.{signal_keys}
use Rattle.sdl_structure_tables.specs.Tables.{integer_at, integer_or, flag_or, text_at, elements_at, tables_at, names_of, agent_names, channel_names, HasShape}

-- a name stands at the key
abbrev pub HasName : Key → Members → List ℕ → Type 0
HasName k ms name = (text_at k ms ≡ Some name) × IsName name

-- a sort as the file writes it
abbrev pub sort_text : Sort → List ℕ
sort_text sort.Integer = codes "Integer"
sort_text sort.Boolean = codes "Boolean"
sort_text sort.Pid = codes "Pid"

abbrev pub NamesSort : Data → Sort → Type 0
NamesSort d s = as_str d ≡ Some (sort_text s)

-- the table is a signal's, and says this
pub record IsSignalTable (ms : Members) (x : SignalDecl) : Type 0 where
  pub shape : HasShape signal_keys ms
  pub name : HasName key.Name ms x.name.bytes
  pub sorts : AllZip NamesSort (elements_at key.Sorts ms) x.sorts.items
  pub few_sorts : length x.sorts.items ≤ 4

-- the text is the name of the signal with this number
abbrev pub NamesSignal : List SignalDecl → Data → SignalId → Type 0
NamesSignal signals d id = IsSomeAnd (slice_get signals id.0) (λ x. as_str d ≡ Some x.name.bytes)

-- the list at the key names these signals, each once
pub record ListsSignals (signals : List SignalDecl) (k : Key) (ms : Members) (ids : List SignalId) : Type 0 where
  pub named : AllZip (NamesSignal signals) (elements_at k ms) ids
  pub once : AllPairs (λ x y. x.0 ≢ y.0) ids

-- an end is `AGENT.GATE`
abbrev pub is_dot : ℕ → Bool
is_dot b = b == 46

abbrev pub agent_part : List ℕ → List ℕ
agent_part text = before_first is_dot text

abbrev pub gate_part : List ℕ → List ℕ
gate_part text = after_first is_dot text

abbrev pub HasOneDot : List ℕ → Type 0
HasOneDot text = count_by is_dot text ≡ 1
