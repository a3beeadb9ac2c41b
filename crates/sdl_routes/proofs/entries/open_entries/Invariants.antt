use Rattle.std.proofs.Common.{◌≡◌, ℕ, ◌<◌, List, get_or}
use Rattle.sdl_routes.specs.declared.route.TableRow.{TableRow}
use Rattle.sdl_routes.specs.declared.route.Hop.{Hop}
use Rattle.sdl_routes.specs.declared.route.Via.{Via}
use Rattle.sdl_routes.specs.declared.route.Via.TheVariants as via
use Rattle.sdl_routes.specs.Index.{StandsAt, HasEntry, AreEntries}
use Rattle.sdl_routes.proofs.entries.open_entries.Given as goal

abbrev pub invariant-loop-hop : goal.invariant-loop-hop
invariant-loop-hop l = record {
  kept : (rows : List TableRow) (n p g : ℕ) → ((v : Via) → StandsAt p g (record l.wish { via = v })) → AreEntries rows n p g l.fn.entries.items → AreEntries rows n p g l.entries.items;
  any : HasEntry l.entries.items (record l.wish { via = via.Any });
  gate : HasEntry l.entries.items (record l.wish { via = via.Gate l.row.route.start });
  channels : (k : ℕ) (h : Hop) → k < l.hop-index → get_or l.hop-items k h ≡ h → HasEntry l.entries.items (record l.wish { via = via.Channel h.channel });
}
