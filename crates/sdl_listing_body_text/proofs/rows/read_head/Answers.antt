use Rattle.std.proofs.Common.{List, subst}
use Rattle.sdl_signal.specs.declared.values.Sort.{Sort}
use Rattle.sdl_listing_expression_text.specs.Spelling.{Reads}
use Rattle.sdl_listing_body_text.specs.Rows.{IsList}
use Rattle.sdl_listing_body_text.proofs.Reading.{reads_then}
use Rattle.sdl_listing_body_text.proofs.rows.read_head.Goals as goal

pub returns : goal.returns
returns c =
    let names = subst (λ (l : List Sort). Reads (IsList c.args.setting.now l c.read_names.new.names.items) c.in_ok-signal.behind.tokens.now c.in_ok-rest.rest.tokens.now) c.sorts.ensures.value c.in_ok-rest.ensures in
    reads_then c.in_ok-signal.ensures (reads_then names c.in_ok-rest-2.ensures.read)
