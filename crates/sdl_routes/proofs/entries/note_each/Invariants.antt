use Rattle.std.proofs.Common.{◌≡◌, ℕ, ◌+◌, ◌<◌, ◌≤◌, List, map, get_or, Some, slice_get, All}
use Rattle.sdl_routes.specs.declared.route.TableRow.{TableRow}
use Rattle.sdl_routes.specs.declared.entries.Entry.{Entry}
use Rattle.sdl_routes.specs.Index.{IsEntry}
use Rattle.sdl_routes.proofs.entries.note_each.Given as goal

abbrev pub invariant-loop-entry : goal.invariant-loop-entry
invariant-loop-entry l = record {
  wishes : map (λ e. e.wish) l.entry-items ≡ map (λ e. e.wish) l.fn.entries.items;
  noted : (rows : List TableRow) (p g : ℕ) → slice_get rows l.number ≡ Some l.row → All (IsEntry rows l.number p g) l.fn.entries.items → (k : ℕ) (d : Entry) → k < l.entry-index → IsEntry rows (l.number + 1) p g (get_or l.entry-items k d);
  rest : (k : ℕ) (d : Entry) → l.entry-index ≤ k → get_or l.entry-items k d ≡ get_or l.fn.entries.items k d;
}
