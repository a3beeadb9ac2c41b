use Rattle.std.proofs.Common.{◌≡◌, ℕ, List, Some, rules}
use Rattle.std.specs.Prelude.{position, bytes_eq}
use Rattle.sdl_listing_body_text.proofs.Reading.{reads_name_that}
use Rattle.sdl_listing_body_text.proofs.statements.read_target.Goals as goal

pub returns-in-Some-clause-spelled : goal.returns-in-Some-clause-spelled
returns-in-Some-clause-spelled c =
    reads_name_that (λ (text : List ℕ). position (λ x. bytes_eq x.name.bytes text) c.args.meanings.now.setting.variables.now.items ≡ Some c.in-Some.place)
    c.in_ok-text.text.now (search rules) c.in_ok-text.ensures.read
