use Rattle.std.proofs.Common.{◌≡◌, length, take, map}
use Rattle.sdl_listing_file.proofs.behaviours.first_values.Given as goal

abbrev pub invariant-loop-variable : goal.invariant-loop-variable
invariant-loop-variable l = record {
  values : l.values.items ≡ map (λ x. x.initial) (take l.variable-index l.variables);
  long : length l.values.items ≡ l.variable-index;
}
