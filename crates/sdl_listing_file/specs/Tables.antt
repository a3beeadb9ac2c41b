-- What a table of the agents file holds at the keys of the format.
use Rattle.std.specs.Prelude.{◌≡◌, ℕ, ◌<◌, ℤ, List, [], ◌∷◌, map, length, Bool, true, ◌&&◌, Option, option_and_then, unwrap_or, is_some, slice_index_or}
use Rattle.std.specs.Option.{option_map_or}
use Rattle.toml.specs.Data.{Data, Items, no_items, item, Members, no_members, member, get_member, as_integer, as_array, as_table, as_str}
use Rattle.toml.specs.View.{view}
use Rattle.toml.specs.declared.value.Value.{Value}
use Rattle.sdl_listing_file.specs.declared.place.AgentsPart.{AgentsPart}
use Rattle.sdl_listing_file.specs.declared.place.AgentsPart.TheVariants as part
use Rattle.sdl_listing_file.specs.declared.place.AgentsKey.{AgentsKey}
use Rattle.sdl_listing_file.specs.declared.place.AgentsKey.TheVariants as key
use Rattle.sdl_listing_file.specs.declared.place.AgentsPlace.{AgentsPlace}
use Rattle.sdl_listing_file.specs.Keys.{key_text, is_key_of}

-- the elements of an array
abbrev pub list_of : Items → List Data
list_of no_items = []
list_of (item d ds) = d ∷ list_of ds

abbrev pub elements_of : Data → List Data
elements_of d = option_map_or list_of (as_array d) []

-- the value at a key
abbrev pub data_at : AgentsKey → Members → Option Data
data_at k ms = get_member (key_text k) ms

-- the number and the text at a key
abbrev pub integer_at : AgentsKey → Members → Option ℤ
integer_at k ms = option_and_then as_integer (data_at k ms)

abbrev pub text_at : AgentsKey → Members → Option (List ℕ)
text_at k ms = option_and_then as_str (data_at k ms)

-- the elements of the array at a key, where an absent one is empty
abbrev pub elements_at : AgentsKey → Members → List Data
elements_at k ms = option_map_or elements_of (data_at k ms) []

abbrev pub is_text : Data → Bool
is_text d = is_some (as_str d)

abbrev pub is_table : Data → Bool
is_table d = is_some (as_table d)

-- the text that an element is; none is empty
abbrev pub text_in : Data → List ℕ
text_in d = unwrap_or (as_str d) []

-- the texts of the list at a key
abbrev pub texts_at : AgentsKey → Members → List (List ℕ)
texts_at k ms = map text_in (elements_at k ms)

-- the table that an element is; none is empty
abbrev pub table_or_none : Data → Members
table_or_none d = unwrap_or (as_table d) no_members

-- the tables of the list at a key
abbrev pub tables_at : AgentsKey → Members → List Members
tables_at k ms = map table_or_none (elements_at k ms)

-- the same of a value as the code holds it
abbrev pub text_of : Value → List ℕ
text_of v = text_in (view v)

abbrev pub table_in : Value → Members
table_in v = table_or_none (view v)

-- the table has no key but these
abbrev pub has_only : List AgentsKey → Members → Bool
has_only ks no_members = true
has_only ks (member bytes d ms) = is_key_of ks bytes && has_only ks ms

-- the tables of a file: the top table, a behaviour's, and that of a group of states in it
abbrev pub the_table : AgentsKey → ℕ → Members → Members
the_table k i ms = slice_index_or (tables_at k ms) i no_members

abbrev pub table_at : Members → AgentsPart → ℕ → ℕ → Members
table_at root part.Agents b g = root
table_at root part.Behaviour b g = the_table key.Behaviour b root
table_at root part.State b g = the_table key.State g (the_table key.Behaviour b root)

-- there is a table with these positions, and one that means nothing is 0
abbrev pub Exists : Members → AgentsPart → ℕ → ℕ → Type 0
Exists root part.Agents b g = (b ≡ 0) × (g ≡ 0)
Exists root part.Behaviour b g = (b < length (tables_at key.Behaviour root)) × (g ≡ 0)
Exists root part.State b g = (b < length (tables_at key.Behaviour root)) × (g < length (tables_at key.State (the_table key.Behaviour b root)))

abbrev pub IsPlace : Members → AgentsPlace → Type 0
IsPlace root p = Exists root p.part p.behaviour p.state

-- the table at a place, whatever its key
abbrev pub table_of : Members → AgentsPlace → Members
table_of root p = table_at root p.part p.behaviour p.state
