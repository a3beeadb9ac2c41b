use Rattle.std.proofs.Common.{◌≡◌, ◌≢◌, [], map, take}
use Rattle.std.specs.List.{AllByRecursion}
use Rattle.sdl_signal.proofs.reading.fields.fields_of.Given as goal

abbrev pub invariant-loop-field : goal.invariant-loop-field
invariant-loop-field l = record {
  goes : (goal.iterator-loop-field).can_next l.field-iterator;
  ends : (goal.iterator-loop-field).is_finite l.field-iterator;
  cut : map (λ f. f.now) l.found.items ≡ take 9 (map (λ f. f.now) l.yielded);
  full : AllByRecursion (λ f. f ≢ []) (map (λ f. f.now) l.yielded);
}
