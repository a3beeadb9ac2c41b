-- The keys of the agents file: how each is written, and where it may stand. (This project's own.)
use Rattle.std.specs.Prelude.{ℕ, List, [], ◌∷◌, Bool, codes, bytes_eq}
use Rattle.std.specs.List.{list_any}
use Rattle.sdl_listing_file.specs.declared.place.AgentsPart.{AgentsPart}
use Rattle.sdl_listing_file.specs.declared.place.AgentsPart.TheVariants as part
use Rattle.sdl_listing_file.specs.declared.place.AgentsKey.{AgentsKey}
use Rattle.sdl_listing_file.specs.declared.place.AgentsKey.TheVariants as key

-- a part as a fault's text names it
abbrev pub part_text : AgentsPart → List ℕ
part_text part.Agents = codes "agents"
part_text part.Behaviour = codes "behaviour"
part_text part.State = codes "state"

-- a key as the file writes it; a table's key that the format does not know is `other`
abbrev pub key_text : AgentsKey → List ℕ
key_text key.Version = codes "version"
key_text key.System = codes "system"
key_text key.Constants = codes "constants"
key_text key.Behaviour = codes "behaviour"
key_text key.Sets = codes "sets"
key_text key.Variables = codes "variables"
key_text key.Start = codes "start"
key_text key.State = codes "state"
key_text key.Names = codes "names"
key_text key.Save = codes "save"
key_text key.Input = codes "input"
key_text key.Other = codes "other"

-- the keys that a table of the part may have, in the order of the walk
abbrev pub keys_of : AgentsPart → List AgentsKey
keys_of part.Agents = key.Version ∷ key.System ∷ key.Constants ∷ key.Behaviour ∷ []
keys_of part.Behaviour = key.Sets ∷ key.Variables ∷ key.Start ∷ key.State ∷ []
keys_of part.State = key.Names ∷ key.Save ∷ key.Input ∷ []

abbrev pub is_key_of : List AgentsKey → List ℕ → Bool
is_key_of ks bytes = list_any (λ k. bytes_eq (key_text k) bytes) ks
