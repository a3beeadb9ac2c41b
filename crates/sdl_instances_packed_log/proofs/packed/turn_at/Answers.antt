use Rattle.std.proofs.Common.{ℕ, Some, slice_range, length, refl, ap, sym, ◌∙◌, subst}
use Rattle.std.proofs.lemmas.Option.{slice_get_read}
use Rattle.sdl_instances_packed_log.specs.Packed.{turn_of}
use Rattle.sdl_instances_packed_log.proofs.Packing.{IsWithin, turn_within, turn_there}
use Rattle.sdl_instances_packed_log.proofs.packed.turn_at.Goals as goal

pub show_turn-requires-clause-actions : goal.show_turn-requires-clause-actions
show_turn-requires-clause-actions c =
    let hs = c.args.heads.now in
    let h = c.index-heads-place.result in
    let there = slice_get_read hs (length hs) c.args.place h refl c.requires.within c.index-heads-place.is in
    let within = subst (λ (b : ℕ × ℕ). IsWithin b h (length c.args.actions.now) (length c.args.done.now)) (sym c.begin_of-begin.ensures)
    (turn_within 0 0 hs (length c.args.actions.now) (length c.args.done.now) c.args.place h c.requires.heads there) in
    (within.actions_begin, within.actions_end)

pub show_turn-requires-clause-done : goal.show_turn-requires-clause-done
show_turn-requires-clause-done c =
    let hs = c.args.heads.now in
    let h = c.index-heads-place.result in
    let there = slice_get_read hs (length hs) c.args.place h refl c.requires.within c.index-heads-place.is in
    let within = subst (λ (b : ℕ × ℕ). IsWithin b h (length c.args.actions.now) (length c.args.done.now)) (sym c.begin_of-begin.ensures)
    (turn_within 0 0 hs (length c.args.actions.now) (length c.args.done.now) c.args.place h c.requires.heads there) in
    (within.done_begin, within.done_end)

pub returns : goal.returns
returns c =
    let hs = c.args.heads.now in
    let h = c.index-heads-place.result in
    let there = slice_get_read hs (length hs) c.args.place h refl c.requires.within c.index-heads-place.is in
    turn_there 0 0 hs c.args.actions.now c.args.done.now c.args.place h there
    ∙ (ap (λ (b : ℕ × ℕ). Some (turn_of h (slice_range c.args.actions.now b.0 h.actions_end) (slice_range c.args.done.now b.1 h.done_end))) (sym c.begin_of-begin.ensures)
    ∙ ap Some (sym c.show_turn.ensures))
