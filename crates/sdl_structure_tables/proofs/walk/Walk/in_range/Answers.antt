use Rattle.std.proofs.Common.{rules, ◌≡◌, true, is_some, sym, ap}
use Rattle.toml.specs.View.{view}
use Rattle.sdl_structure_tables.specs.Walks.{own}
use Rattle.sdl_structure_tables.proofs.TableLemmas.{has_integer}
use Rattle.sdl_structure_tables.proofs.walk.Walk.in_range.Goals as goal

pub wrong_type-requires-clause-wrong : goal.wrong_type-requires-clause-wrong
wrong_type-requires-clause-wrong c = rw c.requires.kind (ap (λ o. is_some o) (sym c.in-None.ensures))

pub returns-then-allows-clause-kind : goal.returns-then-allows-clause-kind
returns-then-allows-clause-kind c = has_integer c.args.key (own c.args.self.now) (view c.args.value.now) c.in-Some.number c.requires.kind c.requires.there (sym c.in-Some.ensures)

pub returns-then-allows-clause-range : goal.returns-then-allows-clause-range
returns-then-allows-clause-range c = let yes : c.allows.result ≡ true = search rules in c.allows.ensures.0 yes
