-- What `Names` shows.
use Rattle.std.specs.Prelude.{map}
use Rattle.sdl_signal.specs.declared.naming.Names.TheInside.{Inside}
use Rattle.sdl_signal.specs.Names.{Lexicon, IsLexicon}

-- the names, by their bytes
abbrev pub lexicon_of : Inside → Lexicon
lexicon_of n = record {
  gates = map (λ name. name.bytes) n.gates.items;
  signals = map (λ signal. record { name = signal.name.bytes; sorts = signal.sorts.items }) n.signals.items;
  sets = map (λ name. name.bytes) n.sets.items;
}

abbrev pub KeepsRules : Inside → Type 0
KeepsRules n = IsLexicon (lexicon_of n)
