use Rattle.sdl_listing_body_text.proofs.DeclarationLemmas.{reads_sort}
use Rattle.sdl_listing_body_text.proofs.declarations.read_sort.Goals as goal

pub returns-in-Some : goal.returns-in-Some
returns-in-Some c = reads_sort c.in-Some.sort c.in_ok-text.text.now c.in-Some.ensures c.in_ok-text.ensures.read
