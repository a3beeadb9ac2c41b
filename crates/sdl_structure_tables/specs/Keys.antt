-- The keys of the structure file: how each is written, where it may stand and what it may hold. (This project's own.)
use Rattle.std.specs.Prelude.{ℕ, ℤ, pos, List, [], ◌∷◌, Bool, true, false, nat_lt, codes, bytes_eq}
use Rattle.std.specs.List.{list_any}
use Rattle.sdl_structure_tables.specs.declared.place.Part.{Part}
use Rattle.sdl_structure_tables.specs.declared.place.Part.TheVariants as part
use Rattle.sdl_structure_tables.specs.declared.version.Version.{Version}
use Rattle.sdl_structure_tables.specs.declared.version.Version.TheVariants.{One, Two}
use Rattle.sdl_structure_tables.specs.declared.place.Key.{Key}
use Rattle.sdl_structure_tables.specs.declared.place.Key.TheVariants as key

-- a part as a fault's text names it
abbrev pub part_text : Part → List ℕ
part_text part.System = codes "system"
part_text part.Signal = codes "signal"
part_text part.Gate = codes "gate"
part_text part.Channel = codes "channel"
part_text part.Block = codes "block"
part_text part.BlockGate = codes "block-gate"
part_text part.BlockChannel = codes "block-channel"
part_text part.Set = codes "set"
part_text part.SetGate = codes "set-gate"

-- a key as the file writes it; a table's key that the format does not know is `other`
abbrev pub key_text : Key → List ℕ
key_text key.Version = codes "version"
key_text key.System = codes "system"
key_text key.Budget = codes "budget"
key_text key.Signal = codes "signal"
key_text key.Gate = codes "gate"
key_text key.Block = codes "block"
key_text key.Channel = codes "channel"
key_text key.Name = codes "name"
key_text key.Sorts = codes "sorts"
key_text key.Inward = codes "inward"
key_text key.Outward = codes "outward"
key_text key.Set = codes "set"
key_text key.Initial = codes "initial"
key_text key.Maximum = codes "maximum"
key_text key.Ends = codes "ends"
key_text key.Forth = codes "forth"
key_text key.Back = codes "back"
key_text key.Nodelay = codes "nodelay"
key_text key.Other = codes "other"

-- the keys that a gate's table may have, and a channel's, in the order of the walk
abbrev pub gate_keys : List Key
gate_keys = key.Name ∷ key.Inward ∷ key.Outward ∷ []

abbrev pub channel_keys : List Key
channel_keys = key.Name ∷ key.Ends ∷ key.Forth ∷ key.Back ∷ key.Nodelay ∷ []

abbrev pub signal_keys : List Key
signal_keys = key.Name ∷ key.Sorts ∷ []

abbrev pub set_keys : List Key
set_keys = key.Name ∷ key.Initial ∷ key.Maximum ∷ key.Gate ∷ []

-- the keys that each kind of table may have, in the order of the walk; in version 2 a block may have blocks
abbrev pub keys_of : Version → Part → List Key
keys_of v part.System = key.Version ∷ key.System ∷ key.Budget ∷ key.Signal ∷ key.Gate ∷ key.Block ∷ key.Channel ∷ []
keys_of v part.Signal = signal_keys
keys_of v part.Gate = gate_keys
keys_of v part.Channel = channel_keys
keys_of One part.Block = key.Name ∷ key.Gate ∷ key.Set ∷ key.Channel ∷ []
keys_of Two part.Block = key.Name ∷ key.Gate ∷ key.Set ∷ key.Block ∷ key.Channel ∷ []
keys_of v part.BlockGate = gate_keys
keys_of v part.BlockChannel = channel_keys
keys_of v part.Set = set_keys
keys_of v part.SetGate = gate_keys

-- the bytes are those of one of the keys
abbrev pub is_key_of : List Key → List ℕ → Bool
is_key_of ks bytes = list_any (λ k. bytes_eq (key_text k) bytes) ks

-- a table of that kind may have the key
abbrev pub is_key : Version → Part → Key → Bool
is_key v p k = is_key_of (keys_of v p) (key_text k)

-- a table that may have the key must have it, whatever it is of
abbrev pub is_required : Key → Bool
is_required key.Version = true
is_required key.System = true
is_required key.Name = true
is_required key.Ends = true
is_required _ = false

-- the table must have the key, with a list that is not empty
abbrev pub needs_some : Version → Part → Key → Bool
needs_some v part.System key.Block = true
needs_some One part.Block key.Set = true
needs_some _ _ _ = false

-- the least and the greatest number that the key may hold
abbrev pub least_of : Key → ℤ
least_of key.Version = pos 1
least_of key.Budget = pos 1
least_of key.Maximum = pos 1
least_of _ = pos 0

abbrev pub greatest_of : Key → ℤ
greatest_of key.Version = pos 2
greatest_of key.Budget = pos 1000000
greatest_of key.Initial = pos 1024
greatest_of key.Maximum = pos 1024
greatest_of _ = pos 0

-- that many elements are more than the key's array may have; the blocks, the sets and the channels are counted over the whole file
abbrev pub is_over : Key → ℕ → Bool
is_over key.Signal n = nat_lt 64 n
is_over key.Gate n = nat_lt 8 n
is_over key.Sorts n = nat_lt 4 n
is_over _ n = false

-- what a key holds
pub data Kind : Type 0 where
  whole_number : Kind
  text : Kind
  flag : Kind
  sorts : Kind
  signals : Kind
  ends : Kind
  tables : Kind
  nothing : Kind

abbrev pub kind_of : Key → Kind
kind_of key.Version = whole_number
kind_of key.System = text
kind_of key.Budget = whole_number
kind_of key.Signal = tables
kind_of key.Gate = tables
kind_of key.Block = tables
kind_of key.Channel = tables
kind_of key.Name = text
kind_of key.Sorts = sorts
kind_of key.Inward = signals
kind_of key.Outward = signals
kind_of key.Set = tables
kind_of key.Initial = whole_number
kind_of key.Maximum = whole_number
kind_of key.Ends = ends
kind_of key.Forth = signals
kind_of key.Back = signals
kind_of key.Nodelay = flag
kind_of key.Other = nothing

-- the key holds a list of texts, or any list
abbrev pub is_texts : Kind → Bool
is_texts sorts = true
is_texts signals = true
is_texts ends = true
is_texts _ = false

abbrev pub is_list : Kind → Bool
is_list sorts = true
is_list signals = true
is_list ends = true
is_list tables = true
is_list _ = false
