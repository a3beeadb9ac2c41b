use Rattle.std.proofs.Common.{rules, ◌≡◌, length, sym, subst, ◌∙◌, true}
use Rattle.toml.specs.Data.{Members}
use Rattle.toml.specs.View.{table_view}
use Rattle.std.proofs.lemmas.Result.{err_from_is_err_and}
use Rattle.sdl_listing_file.specs.declared.place.AgentsPart.{AgentsPart}
use Rattle.sdl_listing_file.specs.Keys.{keys_of}
use Rattle.sdl_listing_file.specs.Tables.{has_only}
use Rattle.sdl_listing_file.specs.File.{IsListed, IsFileOf, AreSlots}
use Rattle.sdl_listing_file.specs.Walks.{own}
use Rattle.sdl_listing_file.proofs.SlotLemmas.{listing_long, all_taken, numbered, all_listed}
use Rattle.sdl_listing_file.proofs.reading.read_top.Goals as goal

pub returns-in_err-check_head-clause-fault : goal.returns-in_err-check_head-clause-fault
returns-in_err-check_head-clause-fault c = rw (← c.top-top.ensures.file) (search rules)

pub returns-in_err-only_known_keys-clause-fault : goal.returns-in_err-only_known_keys-clause-fault
returns-in_err-only_known_keys-clause-fault c = rw (← c.top-top.ensures.file) (search rules)

pub returns-in_err-constants-clause-fault : goal.returns-in_err-constants-clause-fault
returns-in_err-constants-clause-fault c = rw (← c.top-top.ensures.file) (search rules)

pub returns-in_err-slots-clause-fault : goal.returns-in_err-slots-clause-fault
returns-in_err-slots-clause-fault c = rw (← c.top-top.ensures.file) (search rules)

pub returns-in_err-listing-clause-fault : goal.returns-in_err-listing-clause-fault
returns-in_err-listing-clause-fault c =
    let p = err_from_is_err_and c.from_residual-in_err-listing.result c.from_residual-in_err-listing.ensures.1 in
    rw (p.1, p.2) (c.in_err-listing.ensures.fault (table_view c.args.table.now))

pub returns-clause-read : goal.returns-clause-read
returns-clause-read c =
    let s = c.args.structure.now in
    let m = own c.top-top.result in
    let cs = c.in_ok-constants.constants.items in
    let slots = c.in_ok-slots.slots.items in
    let listing = c.in_ok-listing.listing.items in
    let moved = c.in_ok-listing.ensures.slots in
    let P = IsListed s cs m in
    let are : AreSlots P slots = rw c.as_slice.ensures.value at c.in_ok-slots.ensures.listed in
    let long : length listing ≡ length slots = listing_long slots listing moved in
    let whole : IsFileOf s m listing = record {
      version = c.in_ok-check_head.ensures.version;
      system = c.in_ok-check_head.ensures.system;
      keys = subst (λ (p : AgentsPart). has_only (keys_of p) m ≡ true) c.top-top.ensures.part c.in_ok-only_known_keys.ensures.keys;
      all = long ∙ c.in_ok-slots.ensures.all;
      numbers = numbered P slots listing moved are;
      once = sym c.in_ok-slots.ensures.count ∙ (all_taken slots listing moved ∙ (long ∙ c.in_ok-slots.ensures.all));
      listed = (cs, c.in_ok-constants.ensures.read, all_listed P slots listing moved are);
    } in
    subst (λ (t : Members). IsFileOf s t listing) c.top-top.ensures.table whole
