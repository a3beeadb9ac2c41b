-- The agents file: what a top table that keeps its rules says of the sets of a structure. (This project's own.)
use Rattle.std.specs.Prelude.{◌≡◌, ◌≢◌, ℕ, suc, ◌≤◌, pos, Bool, true, if◌then◌else◌, List, [], ◌∷◌, ◌++◌, map, flat_map, filter_map, length, Option, Some, None, IfSome, IsSomeAnd, All, AllPairs, Contains, slice_get, bytes_eq}
use Rattle.std.specs.List.{AllZip, AllByRecursion, list_any}
use Rattle.arrayvec.specs.ArrayString.{ArrayString}
use Rattle.toml.specs.Data.{Members}
use Rattle.sdl_signal.specs.declared.ids.SetId.{SetId}
use Rattle.sdl_signal.specs.declared.ids.StateId.{StateId}
use Rattle.sdl_structure_parts.specs.Structure.{Structure}
use Rattle.sdl_transition_saves.specs.declared.save.Save.{Save}
use Rattle.sdl_listing_body.specs.declared.syntax.Row.{Row}
use Rattle.sdl_listing_body.specs.declared.listing.ListedSet.{ListedSet}
use Rattle.sdl_listing_body.specs.Sound.{IsSound}
use Rattle.sdl_listing_expression_text.specs.declared.setting.Setting.{Setting}
use Rattle.sdl_listing_expression_text.specs.declared.setting.Constant.{Constant}
use Rattle.sdl_listing_expression_text.specs.declared.setting.Variable.{Variable}
use Rattle.sdl_listing_expression_text.specs.Meanings.{set_named, signal_named, state_named}
use Rattle.sdl_listing_body_text.specs.declared.places.Refusal.{Refusal}
use Rattle.sdl_listing_body_text.specs.declared.places.Refusal.TheVariants as refusal
use Rattle.sdl_listing_body_text.specs.Rows.{IsRowOf, IsInputRow, IsText, IsStart, IsInput}
use Rattle.sdl_listing_body_text.specs.Declarations.{IsConstant, IsVariable}
use Rattle.sdl_listing_file.specs.declared.place.AgentsKey.{AgentsKey}
use Rattle.sdl_listing_file.specs.declared.place.AgentsKey.TheVariants as key
use Rattle.sdl_listing_file.specs.declared.place.AgentsPart.TheVariants as part
use Rattle.sdl_listing_file.specs.declared.place.AgentsPlace.{AgentsPlace}
use Rattle.sdl_listing_file.specs.declared.fault.AgentsFault.{AgentsFault}
use Rattle.sdl_listing_file.specs.declared.fault.AgentsFault.TheVariants as fault
use Rattle.sdl_listing_file.specs.Keys.{keys_of}
use Rattle.sdl_listing_file.specs.Tables.{integer_at, text_at, texts_at, tables_at, has_only, table_of, IsPlace}
use Rattle.sdl_listing_file.specs.Uses.{uses_of}
use Rattle.sdl_listing_file.specs.Heads.{AreOnce}

-- the constants of these texts, behind those before them
abbrev pub AreConstants : Structure → List Constant → List (List ℕ) → List Constant → Type 0
AreConstants s before [] [] = Unit {0}
AreConstants s before (text ∷ texts) (c ∷ cs) = IsText (IsConstant s before c) text × AreConstants s (before ++ c ∷ []) texts cs
AreConstants s before _ _ = ⊥

-- the variables of these texts, behind those before them
abbrev pub AreVariables : Structure → List Constant → List Variable → List (List ℕ) → List Variable → Type 0
AreVariables s constants before [] [] = Unit {0}
AreVariables s constants before (text ∷ texts) (x ∷ xs) = IsText (IsVariable s constants before x) text × AreVariables s constants (before ++ x ∷ []) texts xs
AreVariables s constants before _ _ = ⊥

-- the bytes of names
abbrev pub bytes_of : List ArrayString → List (List ℕ)
bytes_of names = map (λ n. n.bytes) names

abbrev pub has_name : List (List ℕ) → List ℕ → Bool
has_name names name = list_any (λ n. bytes_eq n name) names

-- the names with one more, unless it is there
abbrev pub with_name : List (List ℕ) → List ℕ → List (List ℕ)
with_name names name = if has_name names name then names else names ++ name ∷ []

-- the names as they first appear, behind those before
abbrev pub first_seen : List (List ℕ) → List (List ℕ) → List (List ℕ)
first_seen before [] = before
first_seen before (name ∷ names) = first_seen (with_name before name) names

-- the names in the groups of states, each as often as it stands there
abbrev pub names_in : List Members → List (List ℕ)
names_in groups = flat_map (λ g. texts_at key.Names g) groups

-- the states of a behaviour, as they first appear in its groups
abbrev pub states_in : List Members → List (List ℕ)
states_in groups = first_seen [] (names_in groups)

-- the sets that behaviours name, each as often as it stands there
abbrev pub sets_in : List Members → List (List ℕ)
sets_in behaviours = flat_map (λ b. texts_at key.Sets b) behaviours

-- the states that a group names
abbrev pub states_of : Setting → Members → List StateId
states_of s g = filter_map (λ text. state_named s text) (texts_at key.Names g)

-- the text, in each of the states
abbrev pub in_each : List StateId → List ℕ → List (StateId × List ℕ)
in_each states text = map (λ state. (state, text)) states

-- each text of the list at the key of the group, in each state of the group
abbrev pub for_states : Setting → AgentsKey → Members → List (StateId × List ℕ)
for_states s k g = flat_map (in_each (states_of s g)) (texts_at k g)

abbrev pub for_groups : Setting → AgentsKey → List Members → List (StateId × List ℕ)
for_groups s k groups = flat_map (for_states s k) groups

-- the row is what the text of an input says in the state
pub record IsInputOf (s : Setting) (x : StateId × List ℕ) (row : Row) : Type 0 where
  pub sound : IsSound row
  pub own : IsInputRow s x.0 row
  pub spelled : IfSome row.signal (λ signal. IsText (IsInput s x.0 signal.id row.body) x.1)

-- the row is what the text of a start says
pub record IsStartOf (s : Setting) (text : List ℕ) (row : Row) : Type 0 where
  pub sound : IsSound row
  pub own : IsRowOf s None None row
  pub spelled : IsText (IsStart s row.body) text

-- the state saves the signal of this name
abbrev pub IsSaveOf : Setting → StateId × List ℕ → Save → Type 0
IsSaveOf s x save = (save.state ≡ x.0) × (signal_named s x.1 ≡ Some save.signal)

-- the table of a behaviour, which keeps its rules, says this of the set of the setting
pub record IsListedBy (s : Setting) (b : Members) (l : ListedSet) : Type 0 where
  pub set : l.set ≡ s.set
  pub uses : l.uses.items ≡ uses_of s.structure.now s.set
  pub vars : l.vars.items ≡ map (λ x. x.initial) s.variables.now.items
  pub states : l.states.items ≡ s.states.now.items
  pub start : IsSomeAnd (text_at key.Start b) (λ text. IsStartOf s text l.start)
  pub saves : AllZip (IsSaveOf s) (for_groups s key.Save (tables_at key.State b)) l.saves.items
  pub rows : AllZip (IsInputOf s) (for_groups s key.Input (tables_at key.State b)) l.rows.items
  pub once : AreOnce l.saves.items l.rows.items
  pub keys : has_only (keys_of part.Behaviour) b ≡ true
  pub groups : All (λ g. has_only (keys_of part.State) g ≡ true) (tables_at key.State b)

-- the setting is that of the set in this structure, and of the behaviour's variables and states
pub record IsSettingOf (parts : Structure) (known : List Constant) (b : Members) (s : Setting) : Type 0 where
  pub structure : s.structure.now ≡ parts
  pub constants : s.constants.now ≡ known
  pub variables : AreVariables parts known [] (texts_at key.Variables b) s.variables.now.items
  pub states : bytes_of s.states.now.items ≡ states_in (tables_at key.State b)

-- the set has one of the names
abbrev pub IsNamedIn : Structure → List (List ℕ) → SetId → Type 0
IsNamedIn structure names set = (name : List ℕ) × Contains names name × (set_named structure name ≡ Some set)

-- a behaviour of the file is of the set, and says this of it
abbrev pub IsListed : Structure → List Constant → Members → ListedSet → Type 0
IsListed structure constants root l =
    (b : Members)
    × (s : Setting)
    × Contains (tables_at key.Behaviour root) b
    × IsNamedIn structure (texts_at key.Sets b) l.set
    × IsSettingOf structure constants b s
    × IsListedBy s b l

-- the sets are those of the structure in order, from this number on
abbrev pub AreNumbered : ℕ → List ListedSet → Type 0
AreNumbered n [] = Unit {0}
AreNumbered n (l ∷ ls) = (l.set.0 ≡ n) × AreNumbered (suc n) ls

-- The top table is that of a file of the structure, and says this of its sets. The behaviours name as many sets as there are, so that
-- each set, which one of them names, stands once in them all.
pub record IsFileOf (structure : Structure) (root : Members) (listing : List ListedSet) : Type 0 where
  pub version : integer_at key.Version root ≡ Some (pos 1)
  pub system : text_at key.System root ≡ Some structure.system
  pub keys : has_only (keys_of part.Agents) root ≡ true
  pub all : length listing ≡ length structure.sets
  pub numbers : AreNumbered 0 listing
  pub once : length (sets_in (tables_at key.Behaviour root)) ≡ length structure.sets
  pub listed : (constants : List Constant) × AreConstants structure [] (texts_at key.Constants root) constants × AllByRecursion (IsListed structure constants root) listing

-- the second list is the first with more behind it, which are so of these one by one
abbrev pub Appends : {A B : Type 0} → (A → B → Type 0) → List A → List B → List B → Type 0
Appends {A} {B} R xs old new = (more : List B) × (new ≡ old ++ more) × AllZip R xs more

-- a slot that is taken has what is said of the set of its number
abbrev pub AreSlots : (ListedSet → Type 0) → List (Option ListedSet) → Type 0
AreSlots P slots = (k : ℕ) (l : ListedSet) → slice_get slots k ≡ Some (Some l) → (l.set.0 ≡ k) × P l

-- how many slots are taken
abbrev pub taken : List (Option ListedSet) → ℕ
taken [] = 0
taken (None ∷ slots) = taken slots
taken (Some l ∷ slots) = suc (taken slots)

-- the sets of these names, each once, of which the slots have nothing yet
pub record AreSetsOf (structure : Structure) (slots : List (Option ListedSet)) (names : List (List ℕ)) (sets : List SetId) : Type 0 where
  pub all : length sets ≡ length names
  pub named : All (IsNamedIn structure names) sets
  pub free : All (λ set. slice_get slots set.0 ≡ Some None) sets
  pub apart : AllPairs (λ x y. x.0 ≢ y.0) sets

-- the fault is that of the text at the position in the list at the place
abbrev pub IsTextFault : AgentsPlace → ℕ → Refusal → AgentsFault → Type 0
IsTextFault place i refusal.Memory fault.Memory = Unit {0}
IsTextFault place i (refusal.Fault f start end) (fault.Text p g t) = (p ≡ place) × (g ≡ f) × (t ≡ record { item = i; start = start; end = end })
IsTextFault place i _ _ = ⊥

-- the fault is of the text at the position in the list at the place, and lies within it, or memory was refused
abbrev pub IsFaultIn : AgentsPlace → ℕ → List ℕ → AgentsFault → Type 0
IsFaultIn place i text fault.Memory = Unit {0}
IsFaultIn place i text (fault.Text p f t) = (p ≡ place) × (t.item ≡ i) × (t.start ≤ t.end) × (t.end ≤ length text)
IsFaultIn place i text _ = ⊥

-- the text at a key of a table: alone, or by its position in a list
abbrev pub text_among : AgentsKey → ℕ → Members → Option (List ℕ)
text_among key.Start i ms = text_at key.Start ms
text_among k i ms = slice_get (texts_at k ms) i

-- The file is TOML, and the place of the fault lies in it. The fault of a text lies within that text, which stands there.
abbrev pub IsPlaced : Members → AgentsFault → Type 0
IsPlaced root fault.NotToml = ⊥
IsPlaced root (fault.MissingKey p) = IsPlace root p
IsPlaced root (fault.WrongType p) = IsPlace root p
IsPlaced root (fault.UnknownKey p) = IsPlace root p
IsPlaced root (fault.BadName p) = IsPlace root p
IsPlaced root (fault.Duplicate p) = IsPlace root p
IsPlaced root (fault.UnknownName p) = IsPlace root p
IsPlaced root (fault.TooMany p) = IsPlace root p
IsPlaced root (fault.OutOfRange p) = IsPlace root p
IsPlaced root fault.Memory = Unit {0}
IsPlaced root (fault.Text p f t) = IsPlace root p × IsSomeAnd (text_among p.key t.item (table_of root p)) (λ text. (t.start ≤ t.end) × (t.end ≤ length text))
IsPlaced root (fault.NoBehaviour s) = Unit {0}
