use Rattle.std.proofs.Common.{rules, ◌≡◌, ◌<◌, Some, length, refl, sym, ap, subst, ◌∙◌}
use Rattle.toml.specs.Data.{Members, as_table}
use Rattle.toml.specs.View.{view, table_view}
use Rattle.sdl_listing_file.specs.declared.place.AgentsKey.TheVariants as key
use Rattle.sdl_listing_file.specs.Tables.{the_table, tables_at}
use Rattle.sdl_listing_file.proofs.TableLemmas.{behaviour_is, behaviour_exists}
use Rattle.sdl_listing_file.proofs.walk.Walk.group.Goals as goal

pub returns-clause-here : goal.returns-clause-here
returns-clause-here c =
    let w = c.args.self.now in
    let own = behaviour_is w c.requires.here c.requires.part in
    let same : as_table (view c.args.value.now) ≡ Some (table_view c.in-Some.table.now) = search rules in
    record {
      place = (behaviour_exists w c.requires.here c.requires.part, subst (λ (m : Members). c.args.state < length (tables_at key.State m)) own c.requires.within);
      table = ap (λ (m : Members). the_table key.State c.args.state m) (sym own) ∙ (c.requires.there ∙ rw same refl);
    }
