use Rattle.std.proofs.Common.{◌≡◌, ◌∙◌, sym}
use Rattle.sdl_structure_tables.proofs.TableLemmas.{has_only-entries}
use Rattle.sdl_structure_tables.proofs.checks.has_only.Goals as goal

pub returns : goal.returns
returns c = c.all_keys.ensures ∙ sym (has_only-entries c.args.keys.now c.args.table.now.entries)
