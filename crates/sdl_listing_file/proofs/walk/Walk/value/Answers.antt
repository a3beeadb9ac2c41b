use Rattle.toml.proofs.Views.{table_get}
use Rattle.sdl_listing_file.proofs.walk.Walk.value.Goals as goal

pub returns : goal.returns
returns c =
    let found = table_get c.get.result c.text.result.now c.args.self.now.table.now.entries c.get.ensures.value in
    rw (← c.text.ensures) found
