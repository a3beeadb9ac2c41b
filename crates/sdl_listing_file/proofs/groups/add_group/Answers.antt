use Rattle.std.proofs.Common.{◌≡◌, true, subst}
use Rattle.sdl_listing_file.specs.declared.place.AgentsPart.{AgentsPart}
use Rattle.sdl_listing_file.specs.Keys.{keys_of}
use Rattle.sdl_listing_file.specs.Tables.{has_only}
use Rattle.sdl_listing_file.specs.Walks.{own}
use Rattle.sdl_listing_file.proofs.groups.add_group.Goals as goal

pub returns-clause-keys : goal.returns-clause-keys
returns-clause-keys c = subst (λ (p : AgentsPart). has_only (keys_of p) (own c.args.group.now) ≡ true) c.requires.part c.in_ok-only_known_keys.ensures.keys
