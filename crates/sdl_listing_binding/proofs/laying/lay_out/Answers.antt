use Rattle.std.proofs.Common.{◌∙◌, map, sym}
use Rattle.std.proofs.lemmas.List.{nil_from_length}
use Rattle.sdl_listing_binding.specs.Parts.{head_parts}
use Rattle.sdl_listing_binding.proofs.Listed.{counted}
use Rattle.sdl_listing_binding.proofs.laying.lay_out.Goals as goal

pub returns-clause-count : goal.returns-clause-count
returns-clause-count c =
    let left = c.loop-listed.listed-iterator.rest in
    let none = nil_from_length left.items (sym left.ok.0 ∙ c.in-None.ensures.steps.0) in
    counted c.args.listing.items left.items (map head_parts c.loop-listed.heads.items) c.loop-listed.rows.items
    none c.loop-listed.invariant.heads c.loop-listed.invariant.rows
