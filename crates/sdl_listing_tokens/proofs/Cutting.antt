-- What is kept while a text is cut.
use Rattle.std.proofs.Common.{◌≡◌, refl, sym, ◌∙◌, ap, subst, ℕ, ◌+◌, ◌≤◌, Bool, true, List, [], ◌∷◌, ◌++◌, length, take, drop, Option, Some, None, arith, length-append, append-nil, append_assoc, length-drop, length-take-le, take-append-drop, drop-drop}
use Rattle.std.proofs.lemmas.List.{take_all}
use Rattle.std.specs.Prelude.{option_and_then, position, slice_get}
use Rattle.std.proofs.lemmas.Bool.Decides.{Decides-eqb}
use Rattle.std.proofs.lemmas.Slice.Eq.{starts_is}
use Rattle.std.proofs.lemmas.Option.{get_or_from_slice_get}
use Rattle.std.proofs.lemmas.List.Quantifiers.{position-Some}
use Rattle.sdl_listing_tokens.specs.declared.signs.Sign.{Sign}
use Rattle.sdl_listing_tokens.specs.declared.tokens.Token.{Token}
use Rattle.sdl_listing_tokens.specs.Tokens.{first_that, begins_with, sign_text, gap_step, gap_after, token_at, has_new_line, IsGap, IsLastGap, AreTokens}

-- a byte more
step_more : (q : Option Bool) (bs : List ℕ) (b : ℕ) (n : Bool) (p : Option Bool) → option_and_then (λ c. gap_after c bs) q ≡ Some n → gap_step n b ≡ p
    → ((c : Bool) → gap_after c bs ≡ Some n → gap_after c (bs ++ b ∷ []) ≡ p) → option_and_then (λ c. gap_after c (bs ++ b ∷ [])) q ≡ p
step_more None bs b n p e f more = absurd (let bad : ⊥ = cc in bad)
step_more (Some c) bs b n p e f more = more c e

one_more : (n : Bool) (b : ℕ) (p : Option Bool) → gap_step n b ≡ p → option_and_then (λ c. gap_after c []) (gap_step n b) ≡ p
one_more n b None e = ap (λ (o : Option Bool). option_and_then (λ c. gap_after c []) o) e
one_more n b (Some c) e = ap (λ (o : Option Bool). option_and_then (λ c. gap_after c []) o) e

pub gap_push : (bs : List ℕ) (b : ℕ) (o n : Bool) (p : Option Bool) → gap_after o bs ≡ Some n → gap_step n b ≡ p → gap_after o (bs ++ b ∷ []) ≡ p
gap_push [] b o n p e f = one_more o b p (let same : o ≡ n = cc in cc)
gap_push (x ∷ bs) b o n p e f = step_more (gap_step o x) bs b n p e f (λ c h. gap_push bs b c n p h f)

-- a token more
pub one_token : (at : ℕ) (rest gap after : List ℕ) (t : Token) (more : List Token) → rest ≡ gap ++ (t.text.now ++ after) → IsGap gap
    → token_at (t.text.now ++ after) ≡ Some (t.kind, length t.text.now) → t.start ≡ at + length gap → t.fresh ≡ has_new_line gap
    → AreTokens (t.start + length t.text.now) after more → AreTokens at rest (t ∷ more)
one_token at rest gap after t more e g k s f h = (gap, after, e, record { apart = g; longest = k; start = s; fresh = f }, h)

-- nothing more
pub no_token : (text : List ℕ) (ts : List Token) → AreTokens 0 text (ts ++ []) → AreTokens 0 text ts
no_token text ts h = subst (λ (l : List Token). AreTokens 0 text l) (append-nil ts) h

pub all_gap : (rest : List ℕ) (n : ℕ) → length (drop n rest) ≡ 0 → IsLastGap (take n rest) → IsLastGap rest
all_gap rest n e h = subst IsLastGap (take_all n rest (omega (arith, length-drop n rest))) h

-- the tokens before, and one more
pub token_more : (text rest gap behind after : List ℕ) (at n m : ℕ) (ts new : List Token) (t : Token)
    → ((more : List Token) → AreTokens at rest more → AreTokens 0 text (ts ++ more)) → gap ≡ take n rest → behind ≡ drop n rest → IsGap (take n rest)
    → t.text.now ≡ take m behind → after ≡ drop m behind → m ≤ length behind → t.start ≡ at + length gap → t.fresh ≡ has_new_line gap
    → token_at behind ≡ Some (t.kind, m) → new ≡ ts ++ t ∷ [] → (more : List Token) → AreTokens (at + length gap + m) after more → AreTokens 0 text (new ++ more)
token_more text rest gap behind after at n m ts new t all g b is_gap w a within s f k pushed more h =
    let joined : t.text.now ++ after ≡ behind = ap (λ (l : List ℕ). l ++ after) w ∙ (ap (λ (l : List ℕ). take m behind ++ l) a ∙ take-append-drop m behind) in
    let whole : rest ≡ gap ++ (t.text.now ++ after) =
    sym (take-append-drop n rest) ∙ (ap (λ (l : List ℕ). l ++ drop n rest) (sym g) ∙ ap (λ (l : List ℕ). gap ++ l) (sym b ∙ sym joined)) in
    let size : length t.text.now ≡ m = ap (λ (l : List ℕ). length l) w ∙ length-take-le m behind within in
    let here : token_at (t.text.now ++ after) ≡ Some (t.kind, length t.text.now) =
    ap (λ (l : List ℕ). token_at l) joined ∙ (k ∙ ap (λ (x : ℕ). Some (t.kind, x)) (sym size)) in
    let place : t.start + length t.text.now ≡ at + length gap + m = omega (arith, s, size) in
    let one : AreTokens at rest (t ∷ more) =
    one_token at rest gap after t more whole (subst IsGap (sym g) is_gap) here s f (subst (λ (x : ℕ). AreTokens x after more) (sym place) h) in
    subst (λ (l : List Token). AreTokens 0 text l) (sym (ap (λ (l : List Token). l ++ more) pushed ∙ append_assoc ts (t ∷ []) more)) (all (t ∷ more) one)

pub rest_more : (text rest behind after : List ℕ) (at n m : ℕ) → rest ≡ drop at text → behind ≡ drop n rest → after ≡ drop m behind → after ≡ drop (at + n + m) text
rest_more text rest behind after at n m r b a =
    a ∙ (ap (λ (l : List ℕ). drop m l) (b ∙ (ap (λ (l : List ℕ). drop n l) r ∙ drop-drop n at text)) ∙ drop-drop m (at + n) text)

-- ---- signs

first_at : {X : Type 0} (p : X → Bool) (xs : List X) (x : X) (o : Option ℕ) → position p xs ≡ o → option_and_then (λ n. slice_get xs n) o ≡ Some x → p x ≡ true
first_at p xs x None e h = absurd (let bad : ⊥ = cc in bad)
first_at p xs x (Some i) e h = subst (λ y. p y ≡ true) (get_or_from_slice_get xs i x x h) (position-Some p xs i x e).1

-- the first that passes does
pub first_passes : {X : Type 0} (p : X → Bool) (xs : List X) (x : X) → first_that p xs ≡ Some x → p x ≡ true
first_passes p xs x h = first_at p xs x (position p xs) refl h

-- a sign that stands at the front is no longer than the text
pub sign_fits : (text : List ℕ) (s : Sign) → begins_with text s ≡ true → length (sign_text s) ≤ length text
sign_fits text s h =
    let whole : text ≡ sign_text s ++ drop (length (sign_text s)) text = (starts_is Decides-eqb text (sign_text s) (begins_with text s) refl).0 h in
    omega (arith, ap (λ (l : List ℕ). length l) whole, length-append (sign_text s) (drop (length (sign_text s)) text))
