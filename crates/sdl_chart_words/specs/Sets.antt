-- Which sets the options of `chart` name. (This project's own.)
use Rattle.std.specs.Prelude.{◌≡◌, ℕ, Bool, true, false, List, [], ◌∷◌, map, None, Some, codes, bytes_eq, ⊤}
use Rattle.sdl_signal.specs.declared.ids.SetId.{SetId}
use Rattle.sdl_structure_parts.specs.Structure.{Structure}
use Rattle.sdl_listing_expression_text.specs.Meanings.{set_named}
use Rattle.sdl_chart_words.specs.declared.sets.NoSets.{NoSets}
use Rattle.sdl_chart_words.specs.declared.sets.NoSets.TheVariants as none

-- the words behind `--only`; whether the first of them is one
abbrev pub names_in : Bool → List (List ℕ) → List (List ℕ)
names_in named [] = []
names_in true (word ∷ words) = word ∷ names_in false words
names_in false (word ∷ words) = names_in (bytes_eq word (codes "--only")) words

-- these are the sets that the words name, one for each name
abbrev pub AreNamed : Structure → List (List ℕ) → List SetId → Type 0
AreNamed s words sets = map (set_named s) (names_in false words) ≡ map Some sets

-- why they are not known: a name that is no set's, or a growth that was refused
abbrev pub IsWhy : Structure → NoSets → Type 0
IsWhy s none.Memory = ⊤
IsWhy s (none.NoSet name) = set_named s name.now ≡ None
