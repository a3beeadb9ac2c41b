use Rattle.std.proofs.Common.{rules, ◌≡◌, ◌<◌, ◌^◌, length, get_or, eq-eqb, eqb-true}
use Rattle.sdl_forward_ends.specs.Marks.{HasMark}
use Rattle.sdl_forward_ends.proofs.MarkSets.{empty_tells}
use Rattle.sdl_forward_ends.proofs.marks.Marks.is_empty.Goals as goal

pub returns : goal.returns
unfolding HasMark
returns c =
    let words = c.args.self.now.words in
    let four : length words ≡ 4 = search rules in
    let first : get_or words 0 0 < 2 ^ 64 = search rules in
    let second : get_or words 1 0 < 2 ^ 64 = search rules in
    let third : get_or words 2 0 < 2 ^ 64 = search rules in
    let fourth : get_or words 3 0 < 2 ^ 64 = search rules in
    let tells = empty_tells words four first second third fourth in
    (λ yes. tells.0 (eqb-true _ 0 yes), λ none. eq-eqb _ 0 (tells.1 none))
