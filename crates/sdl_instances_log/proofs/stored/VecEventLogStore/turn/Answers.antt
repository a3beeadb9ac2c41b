use Rattle.std.proofs.Common.{◌≡◌, ℕ, ◌-◌, ◌++◌, ◌∷◌, [], List, length, length-append, slice_set, ap, ◌∙◌, arith}
use Rattle.sdl_instances_log.specs.declared.event.Event.{Event}
use Rattle.sdl_instances_log.proofs.Counting.{set_last}
use Rattle.sdl_instances_log.proofs.stored.VecEventLogStore.turn.Goals as goal

pub returns : goal.returns
returns c =
    let old = c.args.self.now.items in
    let e = c.unfilled.result in
    let full = c.fill.new.blank in
    let at : c.len-last.result - 1 ≡ length old = omega (arith, c.len-last.ensures, ap length c.push_reserved.ensures.items, length-append old (e ∷ [])) in
    ap (λ (l : List Event). slice_set l (c.len-last.result - 1) full) c.push_reserved.ensures.items
    ∙ (ap (λ (n : ℕ). slice_set (old ++ e ∷ []) n full) at
    ∙ (set_last old e full
    ∙ ap (λ (x : Event). old ++ x ∷ []) c.fill.ensures))
