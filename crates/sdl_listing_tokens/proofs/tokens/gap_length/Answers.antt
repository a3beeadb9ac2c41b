use Rattle.std.proofs.Common.{◌≡◌, ◌<◌, List, ℕ, Some, false, get_or, take, length, sym, ◌∙◌, subst, arith}
use Rattle.std.proofs.lemmas.List.{take_more}
use Rattle.sdl_listing_tokens.specs.Tokens.{gap_after}
use Rattle.sdl_listing_tokens.proofs.Cutting.{gap_push}
use Rattle.sdl_listing_tokens.proofs.tokens.gap_length.Goals as goal

pub loop-i-preserved : goal.loop-i-preserved
loop-i-preserved c =
    let i = c.loop-i.i in
    let text = c.args.text.now in
    let inside : i < length text = omega arith in
    subst (λ (l : List ℕ). gap_after false l ≡ Some c.in-Some.behind) (sym (take_more text i 0 inside))
    (gap_push (take i text) (get_or text i 0) false c.loop-i.in_comment (Some c.in-Some.behind) c.loop-i.invariant (sym c.gap_step.ensures ∙ c.in-Some.is))
