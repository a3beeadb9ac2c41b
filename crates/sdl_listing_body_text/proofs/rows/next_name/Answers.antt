use Rattle.sdl_listing_body_text.proofs.RowLemmas.{name_behind}
use Rattle.sdl_listing_body_text.proofs.rows.next_name.Goals as goal

pub returns-clause-added : goal.returns-clause-added
returns-clause-added c = (
  c.in_ok-name.name,
  c.push.ensures.items,
  name_behind c.args.setting.now c.args.sort c.as_slice-before.result.now c.args.names.now.items c.in_ok-name.name.now c.as_slice-before.ensures.value
      c.in_ok-name.ensures.free c.in_ok-behind.ensures.spelled c.in_ok-name.ensures.spelled,
)
