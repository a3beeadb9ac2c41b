use Rattle.std.proofs.Common.{◌≡◌, true, map, refl, ap, subst, ◌∙◌}
use Rattle.sdl_listing_expression_text.specs.declared.setting.Variable.{Variable}
use Rattle.sdl_listing_file.specs.declared.place.AgentsPart.{AgentsPart}
use Rattle.sdl_listing_file.specs.Keys.{keys_of}
use Rattle.sdl_listing_file.specs.Tables.{has_only}
use Rattle.sdl_listing_file.specs.Walks.{own}
use Rattle.sdl_listing_file.proofs.behaviours.listed_of.Goals as goal

pub returns-clause-listed : goal.returns-clause-listed
returns-clause-listed c = record {
  set = refl;
  uses = c.in_ok-uses.ensures;
  vars = c.first_values.ensures ∙ ap (λ xs. map (λ (x : Variable). x.initial) xs) c.as_slice.ensures.value;
  states = c.copied_states.ensures ∙ c.as_slice-2.ensures.value;
  start = c.in_ok-start.ensures.start;
  saves = c.in_ok-all.ensures.saves;
  rows = c.in_ok-all.ensures.rows;
  once = c.in_ok-all.ensures.once;
  keys = subst (λ (p : AgentsPart). has_only (keys_of p) (own c.args.walk.now) ≡ true) c.requires.part c.in_ok-only_known_keys.ensures.keys;
  groups = c.in_ok-all.ensures.keys;
}
