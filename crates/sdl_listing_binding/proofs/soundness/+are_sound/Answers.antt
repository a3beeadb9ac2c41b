use Rattle.std.proofs.Common.{◌≡◌, ◌∙◌, ◌-◌, ◌∷◌, length, take, drop, ap, sym}
use Rattle.sdl_listing_binding.proofs.Listed.{first_and_rest, sound_on, sound_off}
use Rattle.sdl_listing_binding.proofs.soundness.+are_sound.Goals as goal

pub returns-then-is_sound_set : goal.returns-then-is_sound_set
returns-then-is_sound_set t c =
    let sets = c.args.sets.now in
    let rest = take (length sets - 1) (drop 1 sets) in
    let set = c.set-item.result in
    let first : sets ≡ set ∷ rest = first_and_rest sets set c.in-len1-up.len_at_least ∙ ap (λ s. s ∷ rest) (sym c.set-item.is) in (
      λ yes. sound_on sets rest set first (c.is_sound_set.ensures.0 c.if-is_sound_set.true) (c.are_sound.ensures.0 yes),
      λ all. c.are_sound.ensures.1 (sound_off sets rest set first all).1,
    )

pub returns-else-is_sound_set : goal.returns-else-is_sound_set
returns-else-is_sound_set t c =
    let sets = c.args.sets.now in
    let rest = take (length sets - 1) (drop 1 sets) in
    let set = c.set-item.result in
    let first : sets ≡ set ∷ rest = first_and_rest sets set c.in-len1-up.len_at_least ∙ ap (λ s. s ∷ rest) (sym c.set-item.is) in
    (λ yes. cc, λ all. let sound = c.is_sound_set.ensures.1 (sound_off sets rest set first all).0 in cc)
