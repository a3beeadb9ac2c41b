-- What is read after one another is spelled together.
use Rattle.std.proofs.Common.{◌≡◌, refl, sym, ◌∙◌, ap, subst, inl, inr, ℕ, zero, suc, ◌+◌, ◌<◌, ◌≤◌, ℤ, pos, neg_ℤ, decimal, if◌then◌else◌, Bool, true, false, List, [], ◌∷◌, ◌++◌, length, append_assoc, Option, Some, None, arith}
use Rattle.std.proofs.lemmas.Bool.{cases_lt}
use Rattle.std.proofs.lemmas.Bool.Decides.{nat_tests}
use Rattle.sdl_signal.specs.declared.ids.SetId.{SetId}
use Rattle.sdl_listing_expression.specs.declared.syntax.Expr.{Expr, Integer, Boolean, Null, Env, Own, Parameter, Variable, Negated', Not', Serial', Instance', Two', Choice'}
use Rattle.sdl_listing_tokens.specs.declared.words.Reserved.{Reserved}
use Rattle.sdl_listing_tokens.specs.declared.words.Reserved.TheVariants as word
use Rattle.sdl_listing_tokens.specs.declared.signs.Sign.{Sign}
use Rattle.sdl_listing_tokens.specs.declared.signs.Sign.TheVariants as sign
use Rattle.sdl_listing_tokens.specs.declared.tokens.Kind.{Kind}
use Rattle.sdl_listing_tokens.specs.declared.tokens.Kind.TheVariants as kind
use Rattle.sdl_listing_tokens.specs.declared.tokens.Token.{Token}
use Rattle.sdl_listing_expression_text.specs.declared.setting.Meanings.{Meanings}
use Rattle.sdl_listing_expression_text.specs.declared.operators.Infix.{Infix}
use Rattle.sdl_listing_expression_text.specs.Meanings.{set_named, value_named}
use Rattle.sdl_listing_expression_text.specs.Built.{IsNegated, IsInverse, IsSerial, IsInstance, IsJoined, IsChoice}
use Rattle.sdl_listing_expression_text.specs.Spelling.{infix_of_sign, infix_of_word, infix_of, IsOne, Joined, InBrackets, Within, Anyhow, IsDigits, IsLiteral, IsNamed, IsNameOf, IsSetName, IsWordOf, IsValueWord, IsOperator, Sides, IsInfix, HasNone, Stops, first_level, begins_number, Bare, Spells, Reads}
use Rattle.sdl_listing_expression_text.proofs.Plain.{IsPlain, value_plain}

-- ---- levels

pub weaker_bare : (m : Meanings) (e : Expr) (l k : ℕ) (ts : List Token) → k ≤ l → Bare m e l ts → Bare m e k ts
weaker_bare m (Integer z) l k ts le (inl (inl p)) = inl (inl p)
weaker_bare m (Integer z) l k ts le (inl (inr (h, p))) = inl (inr (omega arith, p))
weaker_bare m (Integer z) l k ts le (inr p) = inr p
weaker_bare m (Boolean b) l k ts le p = p
weaker_bare m Null l k ts le p = p
weaker_bare m Env l k ts le p = p
weaker_bare m (Own w) l k ts le p = p
weaker_bare m (Parameter i s) l k ts le p = p
weaker_bare m (Variable i s) l k ts le p = p
weaker_bare m (Negated' _ a) l k ts le (h, p) = (omega arith, p)
weaker_bare m (Not' _ a) l k ts le (h, p) = (omega arith, p)
weaker_bare m (Serial' _ a) l k ts le p = p
weaker_bare m (Instance' set _ a) l k ts le p = p
weaker_bare m (Two' op _ a _ b) l k ts le (left, right, t, i, e, f, g, h, sides) = (left, right, t, i, e, f, g, omega arith, sides)
weaker_bare m (Choice' _ c _ a _ b) l k ts le p = p

pub weaker : (m : Meanings) (e : Expr) (l k : ℕ) (ts : List Token) → k ≤ l → Spells m e l ts → Spells m e k ts
weaker m e l k ts le (zero, p) = (zero, weaker_bare m e l k ts le p)
weaker m e l k ts le (suc n, p) = (suc n, p)

pub first_above : (l : ℕ) → l ≤ first_level l
first_above l = grind (arith, nat_tests)

pub first_below : (l : ℕ) → first_level l ≤ l + 1
first_below l = grind (arith, nat_tests)

pub first_same : (l : ℕ) → (l ≡ 2 → ⊥) → first_level l ≤ l
first_same l h = grind (arith, nat_tests)

-- ---- where an expression stops

IsLow : Option Infix → Type 0
IsLow None = Unit {0}
IsLow (Some i) = i.level ≤ 4

low_sign : (s : Sign) → IsLow (infix_of_sign s)
unfolding IsLow
low_sign sign.Equal = omega arith
low_sign sign.Differs = omega arith
low_sign sign.Less = omega arith
low_sign sign.AtMost = omega arith
low_sign sign.Greater = omega arith
low_sign sign.AtLeast = omega arith
low_sign sign.Plus = omega arith
low_sign sign.Minus = omega arith
low_sign sign.Times = omega arith
low_sign sign.Slash = omega arith
low_sign _ = tt

low_word : (w : Reserved) → IsLow (infix_of_word w)
unfolding IsLow
low_word word.Or = omega arith
low_word word.Xor = omega arith
low_word word.And = omega arith
low_word word.Modulo = omega arith
low_word word.Remainder = omega arith
low_word _ = tt

low : (k : Kind) → IsLow (infix_of k)
unfolding IsLow
low (kind.Sign s) = low_sign s
low (kind.Word w) = low_word w
low kind.Integer = tt
low kind.Name = tt

low_level : (k : Kind) (i : Infix) → infix_of k ≡ Some i → i.level ≤ 4
unfolding IsLow
low_level k i e = subst IsLow e (low k)

pub stops_high : (level : ℕ) (ts : List Token) → 5 ≤ level → Stops level ts
stops_high level [] h = tt
stops_high level (t ∷ ts) h = λ i e le. absurd (omega (arith, low_level t.kind i e))

pub stops_here : (level : ℕ) (ts : List Token) → HasNone level ts → Stops (level + 1) ts → Stops level ts
stops_here level [] p q = tt
stops_here level (t ∷ ts) p q = λ i e le. elim (cases_lt level i.level) [ inl h ↦ q i e (omega arith) | inr h ↦ absurd (p i e (omega arith)) ]

pub stops_compared : (level : ℕ) (ts : List Token) → level ≡ 2 → Stops (level + 1) ts → Stops level ts
stops_compared level [] two q = tt
stops_compared level (t ∷ ts) two q = λ i e le. elim (cases_lt level i.level) [ inl h ↦ q i e (omega arith) | inr h ↦ omega arith ]

-- ---- reading

pub reads_as : {P Q : List Token → Type 0} {a b : List Token} → ((ts : List Token) → P ts → Q ts) → Reads P a b → Reads Q a b
reads_as f r = record { front = r.front; split = r.split; spelled = f r.front r.spelled }

pub reads_from : {P : List Token → Type 0} {a b c : List Token} → a ≡ c → Reads P a b → Reads P c b
reads_from d r = record { front = r.front; split = sym d ∙ r.split; spelled = r.spelled }

pub reads_then : {P Q : List Token → Type 0} {a b c : List Token} → Reads P a b → Reads Q b c → Reads (Joined P Q) a c
reads_then {c = c} p q = record {
  front = p.front ++ q.front;
  split = p.split ∙ (ap (λ (l : List Token). p.front ++ l) q.split ∙ sym (append_assoc p.front q.front c));
  spelled = (p.front, q.front, refl, p.spelled, q.spelled);
}

pub reads_weaker : (m : Meanings) (e : Expr) (l k : ℕ) {a b : List Token} → k ≤ l → Reads (Spells m e l) a b → Reads (Spells m e k) a b
reads_weaker m e l k le r = reads_as (λ ts p. weaker m e l k ts le p) r

-- ---- one token

pub shorter : (t : Token) (a b : List Token) → a ≡ t ∷ b → length b < length a
shorter t a b e = omega (arith, ap (λ (l : List Token). length l) e)

pub reads_one : (k : Kind) (t : Token) {a b : List Token} → a ≡ t ∷ b → t.kind ≡ k → Reads (IsOne k) a b
reads_one k t e same = record { front = t ∷ []; split = e; spelled = (t, refl, same) }

pub reads_name : (text : List ℕ) (t : Token) {a b : List Token} → a ≡ t ∷ b → t.kind ≡ kind.Name → t.text.now ≡ text → Reads (IsNameOf text) a b
reads_name text t e same named = record { front = t ∷ []; split = e; spelled = (t, refl, same, named) }

pub reads_operator : (i : Infix) (t : Token) {a b : List Token} → a ≡ t ∷ b → infix_of t.kind ≡ Some i → Reads (IsOperator i) a b
reads_operator i t e same = record { front = t ∷ []; split = e; spelled = (t, refl, same) }

pub reads_digits : (negative : Bool) (z : ℤ) (n : ℕ) (t : Token) {a b : List Token} → a ≡ t ∷ b → t.kind ≡ kind.Integer → t.text.now ≡ decimal n
    → z ≡ (if negative then neg_ℤ (pos n) else pos n) → (negative ≡ true → 0 < n) → Reads (IsLiteral negative z) a b
reads_digits negative z n t e same digits value some = record { front = t ∷ []; split = e; spelled = (n, value, some, (t, refl, same, digits)) }

-- ---- brackets

one_more : (m : Meanings) (e : Expr) (level : ℕ) (ts : List Token) → InBrackets (Spells m e 0) ts → Spells m e level ts
one_more m e level ts (front, back, d, begin, (inner, close, f, (n, p), c)) = (suc n, (front, back, d, begin, (inner, close, f, p, c)))

pub reads_bracketed : (m : Meanings) (e : Expr) (level : ℕ) {a b : List Token} → Reads (InBrackets (Spells m e 0)) a b → Reads (Spells m e level) a b
reads_bracketed m e level r = reads_as (one_more m e level) r

-- ---- words, numbers and names

word_spelled : (m : Meanings) (e : Expr) (level : ℕ) (ts : List Token) → IsValueWord e ts → Spells m e level ts
word_spelled m (Integer z) level ts (w, h, p) = absurd h
word_spelled m (Boolean b) level ts (w, h, p) = (zero, inl (subst (λ v. IsOne (kind.Word v) ts) (sym h) p))
word_spelled m Null level ts (w, h, p) = (zero, subst (λ v. IsOne (kind.Word v) ts) (sym h) p)
word_spelled m Env level ts (w, h, p) = (zero, subst (λ v. IsOne (kind.Word v) ts) (sym h) p)
word_spelled m (Own own) level ts (w, h, p) = (zero, subst (λ v. IsOne (kind.Word v) ts) (sym h) p)
word_spelled m (Parameter i s) level ts (w, h, p) = absurd h
word_spelled m (Variable i s) level ts (w, h, p) = absurd h
word_spelled m (Negated' _ a) level ts (w, h, p) = absurd h
word_spelled m (Not' _ a) level ts (w, h, p) = absurd h
word_spelled m (Serial' _ a) level ts (w, h, p) = absurd h
word_spelled m (Instance' set _ a) level ts (w, h, p) = absurd h
word_spelled m (Two' op _ a _ b) level ts (w, h, p) = absurd h
word_spelled m (Choice' _ c _ a _ b) level ts (w, h, p) = absurd h

pub reads_word : (m : Meanings) (e : Expr) (level : ℕ) {a b : List Token} → Reads (IsValueWord e) a b → Reads (Spells m e level) a b
reads_word m e level r = reads_as (word_spelled m e level) r

pub reads_word_of : (w : Reserved) (e : Expr) {a b : List Token} → IsWordOf w e → Reads (IsOne (kind.Word w)) a b → Reads (IsValueWord e) a b
reads_word_of w e h r = reads_as (λ ts p. (w, h, p)) r

literal_spelled : (m : Meanings) (z : ℤ) (level : ℕ) (ts : List Token) → IsLiteral false z ts → Spells m (Integer z) level ts
literal_spelled m z level ts p = (zero, inl (inl p))

pub reads_integer : (m : Meanings) (z : ℤ) (level : ℕ) {a b : List Token} → Reads (IsLiteral false z) a b → Reads (Spells m (Integer z) level) a b
reads_integer m z level r = reads_as (literal_spelled m z level) r

negative_spelled : (m : Meanings) (z : ℤ) (ts : List Token) → Joined (IsOne (kind.Sign sign.Minus)) (IsLiteral true z) ts → Spells m (Integer z) 5 ts
negative_spelled m z ts p = (zero, inl (inr (omega arith, p)))

pub reads_negative : (m : Meanings) (z : ℤ) {a b c : List Token} → Reads (IsOne (kind.Sign sign.Minus)) a b → Reads (IsLiteral true z) b c → Reads (Spells m (Integer z) 5) a c
reads_negative m z p q = reads_as (negative_spelled m z) (reads_then p q)

plain_spelled : (m : Meanings) (e : Expr) (level : ℕ) (ts : List Token) → IsPlain e → IsNamed m e ts → Bare m e level ts
plain_spelled m (Integer z) level ts h p = inr p
plain_spelled m (Boolean b) level ts h p = inr p
plain_spelled m Null level ts h p = absurd h
plain_spelled m Env level ts h p = absurd h
plain_spelled m (Own w) level ts h p = absurd h
plain_spelled m (Parameter i s) level ts h p = p
plain_spelled m (Variable i s) level ts h p = p
plain_spelled m (Negated' _ a) level ts h p = absurd h
plain_spelled m (Not' _ a) level ts h p = absurd h
plain_spelled m (Serial' _ a) level ts h p = absurd h
plain_spelled m (Instance' set _ a) level ts h p = absurd h
plain_spelled m (Two' op _ a _ b) level ts h p = absurd h
plain_spelled m (Choice' _ c _ a _ b) level ts h p = absurd h

name_spelled : (m : Meanings) (text : List ℕ) (e : Expr) (level : ℕ) → set_named m.setting.structure.now text ≡ None → value_named m text ≡ Some e
    → (ts : List Token) → IsNameOf text ts → Spells m e level ts
name_spelled m text e level no_set value ts (t, one, same, named) =
    let here : IsNamed m e ts = (
      t,
      one,
      same,
      ap (λ (l : List ℕ). set_named m.setting.structure.now l) named ∙ no_set,
      ap (λ (l : List ℕ). value_named m l) named ∙ value,
    ) in (zero, plain_spelled m e level ts (value_plain m text e value) here)

-- the name of a variable, a parameter or a constant
pub reads_named : (m : Meanings) (text : List ℕ) (e : Expr) (level : ℕ) {a b : List Token} → set_named m.setting.structure.now text ≡ None → value_named m text ≡ Some e
    → Reads (IsNameOf text) a b → Reads (Spells m e level) a b
reads_named m text e level no_set value r = reads_as (name_spelled m text e level no_set value) r

-- ---- operators before a value

begins_front : (front rest : List Token) → begins_number (front ++ rest) ≡ false → begins_number front ≡ false
begins_front [] rest e = refl
begins_front (t ∷ ts) rest e = e

-- a value that is no number
reads_no_number : {P : List Token → Type 0} {a b : List Token} → begins_number a ≡ false → Reads P a b → Reads (λ ts. (begins_number ts ≡ false) × P ts) a b
reads_no_number {b = b} e r = record {
  front = r.front;
  split = r.split;
  spelled = (begins_front r.front b (sym (ap (λ (l : List Token). begins_number l) r.split) ∙ e), r.spelled);
}

negated_spelled : (m : Meanings) (inner e : Expr) → IsNegated inner e → (ts : List Token)
    → Joined (IsOne (kind.Sign sign.Minus)) (λ back. (begins_number back ≡ false) × Spells m inner 6 back) ts → Spells m e 5 ts
negated_spelled m inner (Negated' _ a) j ts p =
    (zero, (omega arith, subst (λ (x : Expr). Joined (IsOne (kind.Sign sign.Minus)) (λ back. (begins_number back ≡ false) × Spells m x 6 back) ts) (sym j) p))
negated_spelled m inner _ j ts p = absurd j

pub reads_negated : (m : Meanings) (inner e : Expr) {a b c : List Token} → IsNegated inner e → Reads (IsOne (kind.Sign sign.Minus)) a b → begins_number b ≡ false
    → Reads (Spells m inner 6) b c → Reads (Spells m e 5) a c
reads_negated m inner e j p other q = reads_as (negated_spelled m inner e j) (reads_then p (reads_no_number other q))

inverse_spelled : (m : Meanings) (inner e : Expr) → IsInverse inner e → (ts : List Token) → Joined (IsOne (kind.Word word.Not)) (Spells m inner 6) ts → Spells m e 5 ts
inverse_spelled m inner (Not' _ a) j ts p =
    (zero, (omega arith, subst (λ (x : Expr). Joined (IsOne (kind.Word word.Not)) (Spells m x 6) ts) (sym j) p))
inverse_spelled m inner _ j ts p = absurd j

pub reads_inverse : (m : Meanings) (inner e : Expr) {a b c : List Token} → IsInverse inner e → Reads (IsOne (kind.Word word.Not)) a b → Reads (Spells m inner 6) b c
    → Reads (Spells m e 5) a c
reads_inverse m inner e j p q = reads_as (inverse_spelled m inner e j) (reads_then p q)

serial_spelled : (m : Meanings) (inner e : Expr) (level : ℕ) → IsSerial inner e → (ts : List Token)
    → Joined (IsOne (kind.Word word.Serial)) (InBrackets (Spells m inner 0)) ts → Spells m e level ts
serial_spelled m inner (Serial' _ a) level j ts p =
    (zero, subst (λ (x : Expr). Joined (IsOne (kind.Word word.Serial)) (InBrackets (Spells m x 0)) ts) (sym j) p)
serial_spelled m inner _ level j ts p = absurd j

pub reads_serial : (m : Meanings) (inner e : Expr) (level : ℕ) {a b c : List Token} → IsSerial inner e → Reads (IsOne (kind.Word word.Serial)) a b
    → Reads (InBrackets (Spells m inner 0)) b c → Reads (Spells m e level) a c
reads_serial m inner e level j p q = reads_as (serial_spelled m inner e level j) (reads_then p q)

set_name : (m : Meanings) (set : SetId) (text : List ℕ) → set_named m.setting.structure.now text ≡ Some set → (ts : List Token) → IsNameOf text ts → IsSetName m set ts
set_name m set text found ts (t, one, same, named) = (t, one, same, ap (λ (l : List ℕ). set_named m.setting.structure.now l) named ∙ found)

instance_spelled : (m : Meanings) (set : SetId) (inner e : Expr) (level : ℕ) → IsInstance set inner e → (ts : List Token)
    → Joined (IsSetName m set) (InBrackets (Spells m inner 0)) ts → Spells m e level ts
instance_spelled m set inner (Instance' s _ a) level j ts p = (
  zero,
  subst (λ (x : Expr). Joined (IsSetName m s) (InBrackets (Spells m x 0)) ts) (sym j.1)
      (subst (λ (x : SetId). Joined (IsSetName m x) (InBrackets (Spells m inner 0)) ts) (sym j.0) p),
)
instance_spelled m set inner _ level j ts p = absurd j

pub reads_instance : (m : Meanings) (set : SetId) (text : List ℕ) (inner e : Expr) (level : ℕ) {a b c : List Token} → IsInstance set inner e
    → set_named m.setting.structure.now text ≡ Some set → Reads (IsNameOf text) a b → Reads (InBrackets (Spells m inner 0)) b c → Reads (Spells m e level) a c
reads_instance m set text inner e level j found p q = reads_as (instance_spelled m set inner e level j) (reads_then (reads_as (set_name m set text found) p) q)

-- ---- a choice

abbrev IsChosen : Meanings → Expr → Expr → Expr → List Token → Type 0
IsChosen m x y z ts =
    Joined (IsOne (kind.Word word.If)) (Joined (Spells m x 0)
    (Joined (IsOne (kind.Word word.Then)) (Joined (Spells m y 0)
    (Joined (IsOne (kind.Word word.Else)) (Joined (Spells m z 0) (IsOne (kind.Word word.Fi))))))) ts

choice_spelled : (m : Meanings) (x y z e : Expr) (level : ℕ) → IsChoice x y z e → (ts : List Token) → IsChosen m x y z ts → Spells m e level ts
choice_spelled m x y z (Choice' _ c _ a _ b) level j ts p = (
  zero,
  subst (λ (u : Expr). IsChosen m u a b ts) (sym j.0) (subst (λ (u : Expr). IsChosen m x u b ts) (sym j.1) (subst (λ (u : Expr). IsChosen m x y u ts) (sym j.2) p)),
)
choice_spelled m x y z _ level j ts p = absurd j

pub reads_choice : (m : Meanings) (x y z e : Expr) (level : ℕ) {a b c d f g h i : List Token} → IsChoice x y z e
    → Reads (IsOne (kind.Word word.If)) a b → Reads (Spells m x 0) b c
    → Reads (IsOne (kind.Word word.Then)) c d → Reads (Spells m y 0) d f
    → Reads (IsOne (kind.Word word.Else)) f g → Reads (Spells m z 0) g h
    → Reads (IsOne (kind.Word word.Fi)) h i → Reads (Spells m e level) a i
reads_choice m x y z e level j p q r s t u v =
    reads_as (choice_spelled m x y z e level j) (reads_then p (reads_then q (reads_then r (reads_then s (reads_then t (reads_then u v))))))

-- ---- two operands

sides : (m : Meanings) (turned : Bool) (left right a b : Expr) (level : ℕ) (ls rs : List Token) → a ≡ (if turned then right else left) → b ≡ (if turned then left else right)
    → Spells m left (first_level level) ls → Spells m right (level + 1) rs → Sides turned (Spells m a) (Spells m b) level ls rs
sides m false left right a b level ls rs d e p q =
    (subst (λ (x : Expr). Spells m x (first_level level) ls) (sym d) p, subst (λ (x : Expr). Spells m x (level + 1) rs) (sym e) q)
sides m true left right a b level ls rs d e p q =
    (subst (λ (x : Expr). Spells m x (first_level level) ls) (sym e) p, subst (λ (x : Expr). Spells m x (level + 1) rs) (sym d) q)

two_bare : (m : Meanings) (i : Infix) (left right e : Expr) (k : ℕ) (ls rs : List Token) (t : Token) → IsJoined i left right e → infix_of t.kind ≡ Some i → k ≤ i.level
    → Spells m left (first_level i.level) ls → Spells m right (i.level + 1) rs → Bare m e k (ls ++ t ∷ rs)
two_bare m i left right (Two' op _ a _ b) k ls rs t j same le p q = (ls, rs, t, i, refl, same, sym j.0, le, sides m i.is_turned left right a b i.level ls rs j.1 j.2 p q)
two_bare m i left right _ k ls rs t j same le p q = absurd j

two_spelled : (m : Meanings) (i : Infix) (left right e : Expr) (k : ℕ) → IsJoined i left right e → k ≤ i.level → (ts : List Token)
    → Joined (Spells m left (first_level i.level)) (Joined (IsOperator i) (Spells m right (i.level + 1))) ts → Spells m e k ts
two_spelled m i left right e k j le ts (ls, back, d, p, (os, rs, f, (t, one, same), q)) =
    let whole : ts ≡ ls ++ t ∷ rs = d ∙ ap (λ (l : List Token). ls ++ l) (f ∙ ap (λ (l : List Token). l ++ rs) one) in
    (zero, subst (λ (l : List Token). Bare m e k l) (sym whole) (two_bare m i left right e k ls rs t j same le p q))

-- an operand, an operator and an operand
pub reads_two : (m : Meanings) (i : Infix) (left right e : Expr) (level k : ℕ) {a b c d : List Token} → IsJoined i left right e → i.level ≡ level → k ≤ level
    → Reads (Spells m left (first_level level)) a b → Reads (IsOperator i) b c → Reads (Spells m right (level + 1)) c d → Reads (Spells m e k) a d
reads_two m i left right e level k {a = a} {b = b} {c = c} {d = d} j same le p o q =
    let first = subst (λ (n : ℕ). Reads (Spells m left (first_level n)) a b) (sym same) p in
    let second = subst (λ (n : ℕ). Reads (Spells m right (n + 1)) c d) (sym same) q in
    reads_as (two_spelled m i left right e k j (omega arith)) (reads_then first (reads_then o second))
