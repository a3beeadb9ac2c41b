-- What is read of the tokens of a text is read of the text.
use Rattle.std.proofs.Common.{◌≡◌, sym, subst, ℕ, ◌+◌, ◌<◌, ◌≤◌, List, length, Option, Some, None, IfSome, MatchOption, All, Contains, HoldsAt}
use Rattle.std.specs.Borrow.{Bor}
use Rattle.sdl_listing_tokens.specs.declared.tokens.Token.{Token}
use Rattle.sdl_listing_tokens.specs.Tokens.{AreTokens}
use Rattle.sdl_listing_body_text.specs.Rows.{IsText}

pub text_of : (P : List Token → Type 0) (text : List ℕ) (tokens all : List Token) → all ≡ tokens → AreTokens 0 text tokens → P all → IsText P text
text_of P text tokens all same cut p = (tokens, cut, subst P same p)

-- all of the tokens lie within the text
pub all_within : (text : List ℕ) (tokens all : List Token) → all ≡ tokens → All (λ t. t.start + length t.text.now ≤ length text) tokens
    → All (λ t. t.start + length t.text.now ≤ length text) all
all_within text tokens all same h = subst (λ (l : List Token). All (λ t. t.start + length t.text.now ≤ length text) l) (sym same) h

-- a token among them does
pub one_within : (text : List ℕ) (tokens : List Token) (t : Token) → All (λ t. t.start + length t.text.now ≤ length text) tokens → Contains tokens t
    → t.start + length t.text.now ≤ length text
one_within text tokens t h (k, inside, same) = subst (λ (x : Token). x.start + length x.text.now ≤ length text) same (h k t inside)

-- what is looked up is among the others
pub among : {X : Type 0} (xs : List X) (i : ℕ) (r : Option (Bor X)) → MatchOption r (length xs ≤ i) (λ x. (i < length xs) × HoldsAt (λ y. x.now ≡ y) xs i)
    → IfSome r (λ x. Contains xs x.now)
among xs i None h = tt
among xs i (Some x) h = (i, h.0, sym (h.1 x.now))
