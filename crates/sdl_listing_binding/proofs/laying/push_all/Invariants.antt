use Rattle.std.proofs.Common.{◌≡◌, ◌++◌}
use Rattle.sdl_listing_binding.proofs.laying.push_all.Given as goal

abbrev pub invariant-loop-row : goal.invariant-loop-row
invariant-loop-row l = record {
  can_next : goal.iterator-loop-row.can_next l.row-iterator;
  is_finite : goal.iterator-loop-row.is_finite l.row-iterator;
  moved : l.list.items ++ l.row-iterator.rest.items ≡ l.fn.list.items ++ l.fn.rows.items;
}
