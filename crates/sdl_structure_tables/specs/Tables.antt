-- What a table of the structure file holds at the keys of the format.
use Rattle.std.specs.Prelude.{◌≡◌, ℕ, ℤ, List, [], ◌∷◌, ◌++◌, ◌+◌, map, flat_map, length, Bool, true, false, ◌&&◌, Option, Some, None, option_map, option_and_then, unwrap_or, is_some, slice_index_or, MatchOption, if◌then◌else◌}
use Rattle.std.specs.List.{list_all, AllByRecursion}
use Rattle.std.specs.Option.{option_map_or}
use Rattle.toml.specs.Data.{Data, Items, no_items, item, Members, no_members, member, get_member, as_integer, as_bool, as_array, as_table, as_str}
use Rattle.toml.specs.View.{view}
use Rattle.toml.specs.declared.value.Value.{Value}
use Rattle.sdl_structure_tables.specs.declared.version.Version.{Version}
use Rattle.sdl_structure_tables.specs.declared.version.Version.TheVariants.{One}
use Rattle.sdl_structure_tables.specs.Versions.{version_said}
use Rattle.sdl_structure_tables.specs.declared.place.Key.{Key}
use Rattle.sdl_structure_tables.specs.declared.place.Key.TheVariants as key
use Rattle.sdl_structure_tables.specs.Keys.{Kind, whole_number, text, flag, sorts, signals, ends, tables, nothing, key_text, keys_of, kind_of, is_key_of, is_required}

-- the elements of an array
abbrev pub list_of : Items → List Data
list_of no_items = []
list_of (item d ds) = d ∷ list_of ds

abbrev pub elements_of : Data → List Data
elements_of d = option_map_or list_of (as_array d) []

-- the value at a key
abbrev pub data_at : Key → Members → Option Data
data_at k ms = get_member (key_text k) ms

-- the number and the text at a key
abbrev pub integer_at : Key → Members → Option ℤ
integer_at k ms = option_and_then as_integer (data_at k ms)

abbrev pub text_at : Key → Members → Option (List ℕ)
text_at k ms = option_and_then as_str (data_at k ms)

-- the number and the flag at a key, where the default stands for an absent one
abbrev pub integer_or : ℤ → Key → Members → Option ℤ
integer_or default k ms = option_map_or as_integer (data_at k ms) (Some default)

abbrev pub flag_or : Bool → Key → Members → Option Bool
flag_or default k ms = option_map_or as_bool (data_at k ms) (Some default)

-- the version of a file, by its top table
abbrev pub own_version : Members → Version
own_version root = option_map_or version_said (integer_at key.Version root) One

-- the elements of the array at a key, where an absent one is empty
abbrev pub elements_at : Key → Members → List Data
elements_at k ms = option_map_or elements_of (data_at k ms) []

abbrev pub is_text : Data → Bool
is_text d = is_some (as_str d)

abbrev pub is_table : Data → Bool
is_table d = is_some (as_table d)

-- an array whose elements pass a test
abbrev pub is_array_of : (Data → Bool) → Data → Bool
is_array_of test d = is_some (as_array d) && list_all test (elements_of d)

-- the value is what a key of that kind holds
abbrev pub is_of_kind : Kind → Data → Bool
is_of_kind whole_number d = is_some (as_integer d)
is_of_kind text d = is_text d
is_of_kind flag d = is_some (as_bool d)
is_of_kind sorts d = is_array_of is_text d
is_of_kind signals d = is_array_of is_text d
is_of_kind ends d = is_array_of is_text d
is_of_kind tables d = is_array_of is_table d
is_of_kind nothing d = false

-- the table has no key but these
abbrev pub has_only : List Key → Members → Bool
has_only ks no_members = true
has_only ks (member bytes d ms) = is_key_of ks bytes && has_only ks ms

-- the key is there where it must be, and what is there is of its kind
abbrev pub HasKindAt : Members → Key → Type 0
HasKindAt ms k = MatchOption (data_at k ms) (is_required k ≡ false) (λ d. is_of_kind (kind_of k) d ≡ true)

-- the key is there where it must be, and what is there is an array
abbrev pub IsArrayAt : Members → Key → Type 0
IsArrayAt ms k = MatchOption (data_at k ms) (is_required k ≡ false) (λ d. is_some (as_array d) ≡ true)

-- the table has the keys that it must have, what these hold is of their kinds, and it has no other key
pub record HasShape (keys : List Key) (ms : Members) : Type 0 where
  pub kinds : AllByRecursion (HasKindAt ms) keys
  pub others : has_only keys ms ≡ true

-- the table that a value is
abbrev pub table_or_none : Data → Members
table_or_none d = unwrap_or (as_table d) no_members

abbrev pub table_in : Value → Members
table_in v = table_or_none (view v)

-- the tables of the list at a key; a list with an element that is no table has none
abbrev pub tables_at : Key → Members → List Members
tables_at k ms = if list_all is_table (elements_at k ms) then map table_or_none (elements_at k ms) else []

abbrev pub the_table : Key → ℕ → Members → Members
the_table k i ms = slice_index_or (tables_at k ms) i no_members

-- the texts of the list at a key, with no text for an element that is none
abbrev pub texts_at : Key → Members → List (Option (List ℕ))
texts_at k ms = map as_str (elements_at k ms)

-- the names of some tables
abbrev pub names_of : List Members → List (Option (List ℕ))
names_of ts = map (text_at key.Name) ts

-- the names of some blocks and of their sets, in the order of the walk, and those of the channels in the blocks
abbrev pub agent_names : List Members → List (Option (List ℕ))
agent_names blocks = flat_map (λ t. text_at key.Name t ∷ names_of (tables_at key.Set t)) blocks

abbrev pub channel_names : List Members → List (Option (List ℕ))
channel_names blocks = flat_map (λ t. names_of (tables_at key.Channel t)) blocks

-- how many tables some blocks have at a key
abbrev pub total : Key → List Members → ℕ
total k [] = 0
total k (t ∷ ts) = length (tables_at k t) + total k ts
