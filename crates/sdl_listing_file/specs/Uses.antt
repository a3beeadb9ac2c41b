-- What the texts of a set may name: the parts of the structure, by number and name. (This project's own.)
use Rattle.std.specs.Prelude.{ℕ, List, [], ◌∷◌, ◌++◌, flat_map, if◌then◌else◌}
use Rattle.std.specs.List.{enumerate_from}
use Rattle.arrayvec.specs.ArrayString.{ArrayString}
use Rattle.sdl_signal.specs.declared.ids.SetId.{SetId}
use Rattle.sdl_structure_parts.specs.declared.parts.SignalDecl.{SignalDecl}
use Rattle.sdl_structure_parts.specs.declared.parts.Set.{Set}
use Rattle.sdl_structure_parts.specs.declared.parts.Gate.{Gate}
use Rattle.sdl_structure_parts.specs.declared.parts.Channel.{Channel}
use Rattle.sdl_structure_parts.specs.Structure.{Structure}
use Rattle.sdl_transition_behaviour.specs.declared.behaviour.Kind.{Kind}
use Rattle.sdl_transition_behaviour.specs.declared.behaviour.Kind.TheVariants as kind
use Rattle.sdl_transition_behaviour.specs.declared.behaviour.Named.{Named}
use Rattle.sdl_listing_expression_text.specs.Meanings.{is_gate_of}

abbrev pub use_of : Kind → ℕ → ArrayString → Named
use_of k n name = record { kind = k; number = n; name = name }

abbrev pub use_of_signal : ℕ × SignalDecl → List Named
use_of_signal x = use_of kind.Signal x.0 x.1.name ∷ []

abbrev pub use_of_set : ℕ × Set → List Named
use_of_set x = use_of kind.Set x.0 x.1.name ∷ []

-- the gate, where it is one of the set
abbrev pub use_of_gate : SetId → ℕ × Gate → List Named
use_of_gate set x = if is_gate_of set x.1 then use_of kind.Gate x.0 x.1.name ∷ [] else []

abbrev pub use_of_channel : ℕ × Channel → List Named
use_of_channel x = use_of kind.Channel x.0 x.1.name ∷ []

-- each signal, each set, each gate of the set and each channel
abbrev pub uses_of : Structure → SetId → List Named
uses_of s set =
    flat_map use_of_signal (enumerate_from 0 s.signals)
    ++ flat_map use_of_set (enumerate_from 0 s.sets)
    ++ flat_map (use_of_gate set) (enumerate_from 0 s.gates)
    ++ flat_map use_of_channel (enumerate_from 0 s.channels)
