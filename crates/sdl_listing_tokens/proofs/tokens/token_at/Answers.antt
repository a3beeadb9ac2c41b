use Rattle.std.proofs.Common.{◌≡◌, ◌≤◌, ℕ, List, length, Some, sym, ◌∙◌, subst}
use Rattle.sdl_listing_tokens.specs.declared.signs.Sign.{Sign}
use Rattle.sdl_listing_tokens.specs.Tokens.{all_signs, sign_text, sign_at, begins_with}
use Rattle.sdl_listing_tokens.proofs.Cutting.{first_passes, sign_fits}
use Rattle.sdl_listing_tokens.proofs.tokens.token_at.Goals as goal

pub returns-in-Some-clause-within : goal.returns-in-Some-clause-within
returns-in-Some-clause-within c =
    let text = c.args.text.now in
    let found : sign_at text ≡ Some c.in-Some.sign = sym c.sign_at.ensures ∙ c.in-Some.is in
    let fits : length (sign_text c.in-Some.sign) ≤ length text = sign_fits text c.in-Some.sign (first_passes (λ (s : Sign). begins_with text s) all_signs c.in-Some.sign found) in
    subst (λ (l : List ℕ). length l ≤ length text) (sym c.text.ensures) fits
