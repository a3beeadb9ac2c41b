-- How an expression is spelled by tokens: its operators by their levels, and brackets.
use Rattle.std.specs.Prelude.{◌≡◌, ℕ, zero, suc, ◌+◌, ◌≤◌, ◌<◌, ◌==◌, ◌⊎◌, ℤ, pos, neg_ℤ, Bool, true, false, if◌then◌else◌, List, [], ◌∷◌, ◌++◌, Option, Some, None, decimal}
use Rattle.sdl_signal.specs.declared.ids.SetId.{SetId}
use Rattle.sdl_listing_expression.specs.declared.syntax.Operator.{Operator}
use Rattle.sdl_listing_expression.specs.declared.syntax.Operator.TheVariants as operator
use Rattle.sdl_listing_expression.specs.declared.syntax.Word.{Word}
use Rattle.sdl_listing_expression.specs.declared.syntax.Word.TheVariants.{SelfPid, Parent, Offspring, Sender}
use Rattle.sdl_listing_expression.specs.declared.syntax.Expr.{Expr, Integer, Boolean, Null, Env, Own, Parameter, Variable, Negated', Not', Serial', Instance', Two', Choice'}
use Rattle.sdl_listing_tokens.specs.declared.words.Reserved.{Reserved}
use Rattle.sdl_listing_tokens.specs.declared.words.Reserved.TheVariants as word
use Rattle.sdl_listing_tokens.specs.declared.signs.Sign.{Sign}
use Rattle.sdl_listing_tokens.specs.declared.signs.Sign.TheVariants as sign
use Rattle.sdl_listing_tokens.specs.declared.tokens.Kind.{Kind}
use Rattle.sdl_listing_tokens.specs.declared.tokens.Kind.TheVariants as kind
use Rattle.sdl_listing_tokens.specs.declared.tokens.Token.{Token}
use Rattle.sdl_listing_expression_text.specs.declared.setting.Meanings.{Meanings}
use Rattle.sdl_listing_expression_text.specs.declared.operators.Infix.{Infix}
use Rattle.sdl_listing_expression_text.specs.Meanings.{set_named, value_named}

-- the operators between two operands, by levels: those that bind least have 0, and a turned one has its first operand behind it
abbrev pub infix_of_sign : Sign → Option Infix
infix_of_sign sign.Equal = Some (record { level = 2; operator = operator.Equal; is_turned = false })
infix_of_sign sign.Differs = Some (record { level = 2; operator = operator.Differs; is_turned = false })
infix_of_sign sign.Less = Some (record { level = 2; operator = operator.Less; is_turned = false })
infix_of_sign sign.AtMost = Some (record { level = 2; operator = operator.AtMost; is_turned = false })
infix_of_sign sign.Greater = Some (record { level = 2; operator = operator.Less; is_turned = true })
infix_of_sign sign.AtLeast = Some (record { level = 2; operator = operator.AtMost; is_turned = true })
infix_of_sign sign.Plus = Some (record { level = 3; operator = operator.Add; is_turned = false })
infix_of_sign sign.Minus = Some (record { level = 3; operator = operator.Subtract; is_turned = false })
infix_of_sign sign.Times = Some (record { level = 4; operator = operator.Multiply; is_turned = false })
infix_of_sign sign.Slash = Some (record { level = 4; operator = operator.Divide; is_turned = false })
infix_of_sign _ = None

abbrev pub infix_of_word : Reserved → Option Infix
infix_of_word word.Or = Some (record { level = 0; operator = operator.Or; is_turned = false })
infix_of_word word.Xor = Some (record { level = 0; operator = operator.Xor; is_turned = false })
infix_of_word word.And = Some (record { level = 1; operator = operator.And; is_turned = false })
infix_of_word word.Modulo = Some (record { level = 4; operator = operator.Modulo; is_turned = false })
infix_of_word word.Remainder = Some (record { level = 4; operator = operator.Remainder; is_turned = false })
infix_of_word _ = None

abbrev pub infix_of : Kind → Option Infix
infix_of (kind.Sign s) = infix_of_sign s
infix_of (kind.Word w) = infix_of_word w
infix_of kind.Integer = None
infix_of kind.Name = None

-- no operator of the level is the next token
abbrev pub HasNone : ℕ → List Token → Type 0
HasNone level [] = Unit {0}
HasNone level (t ∷ ts) = (i : Infix) → infix_of t.kind ≡ Some i → i.level ≡ level → ⊥

-- where an expression of the level stops: no operator of that level is next, and none that binds tighter; behind a comparison there may be another
abbrev pub Stops : ℕ → List Token → Type 0
Stops level [] = Unit {0}
Stops level (t ∷ ts) = (i : Infix) → infix_of t.kind ≡ Some i → level ≤ i.level → i.level ≡ 2

-- the first operand is of the operator's own level, so that operators of one level group to the left; comparisons do not chain
abbrev pub first_level : ℕ → ℕ
first_level level = if level == 2 then 3 else level

-- the word of a Pid
abbrev pub word_of : Word → Reserved
word_of SelfPid = word.SelfPid
word_of Parent = word.Parent
word_of Offspring = word.Offspring
word_of Sender = word.Sender

-- a token of the kind is the next one
abbrev pub BeginsWith : Kind → List Token → Type 0
BeginsWith k [] = ⊥
BeginsWith k (t ∷ ts) = t.kind ≡ k

-- one token, of the kind
abbrev pub IsOne : Kind → List Token → Type 0
IsOne k ts = (t : Token) × (ts ≡ t ∷ []) × (t.kind ≡ k)

-- these tokens, and then those
abbrev pub Joined : (List Token → Type 0) → (List Token → Type 0) → List Token → Type 0
Joined P Q ts = (front back : List Token) × (ts ≡ front ++ back) × P front × Q back

abbrev pub InBrackets : (List Token → Type 0) → List Token → Type 0
InBrackets P = Joined (IsOne (kind.Sign sign.Open)) (Joined P (IsOne (kind.Sign sign.Close)))

-- in so many pairs of brackets, within which any operator may stand
abbrev pub Within : ℕ → (ℕ → List Token → Type 0) → ℕ → List Token → Type 0
Within zero P level = P level
Within (suc n) P level = InBrackets (Within n P 0)

-- in any number of brackets
abbrev pub Anyhow : (ℕ → List Token → Type 0) → ℕ → List Token → Type 0
Anyhow P level ts = (n : ℕ) × Within n P level ts

-- the digits of a number without its sign
abbrev pub IsDigits : ℕ → List Token → Type 0
IsDigits n ts = (t : Token) × (ts ≡ t ∷ []) × (t.kind ≡ kind.Integer) × (t.text.now ≡ decimal n)

-- a number, and the one that it is behind a minus, where it is not 0
abbrev pub IsLiteral : Bool → ℤ → List Token → Type 0
IsLiteral is_negative z ts = (n : ℕ) × (z ≡ (if is_negative then neg_ℤ (pos n) else pos n)) × (is_negative ≡ true → 0 < n) × IsDigits n ts

-- the name of a variable, a parameter or a constant that stands for the expression
abbrev pub IsNamed : Meanings → Expr → List Token → Type 0
IsNamed m e ts =
    (t : Token) × (ts ≡ t ∷ []) × (t.kind ≡ kind.Name) × (set_named m.setting.structure.now t.text.now ≡ None) × (value_named m t.text.now ≡ Some e)

-- a name of these bytes
abbrev pub IsNameOf : List ℕ → List Token → Type 0
IsNameOf text ts = (t : Token) × (ts ≡ t ∷ []) × (t.kind ≡ kind.Name) × (t.text.now ≡ text)

-- the name of the set
abbrev pub IsSetName : Meanings → SetId → List Token → Type 0
IsSetName m set ts = (t : Token) × (ts ≡ t ∷ []) × (t.kind ≡ kind.Name) × (set_named m.setting.structure.now t.text.now ≡ Some set)

-- a minus before digits is the sign of a number
abbrev pub is_number : Kind → Bool
is_number kind.Integer = true
is_number _ = false

abbrev pub begins_number : List Token → Bool
begins_number [] = false
begins_number (t ∷ ts) = is_number t.kind

abbrev pub word_of_boolean : Bool → Reserved
word_of_boolean true = word.True
word_of_boolean false = word.False

-- the word is the expression by itself
abbrev pub IsWordOf : Reserved → Expr → Type 0
IsWordOf w (Boolean b) = word_of_boolean b ≡ w
IsWordOf w Null = word.Null ≡ w
IsWordOf w Env = word.Env ≡ w
IsWordOf w (Own own) = word_of own ≡ w
IsWordOf w _ = ⊥

abbrev pub IsValueWord : Expr → List Token → Type 0
IsValueWord e ts = (w : Reserved) × IsWordOf w e × IsOne (kind.Word w) ts

-- the operator as a token
abbrev pub IsOperator : Infix → List Token → Type 0
IsOperator i ts = (t : Token) × (ts ≡ t ∷ []) × (infix_of t.kind ≡ Some i)

-- two operands with an operator between them, which may be turned
abbrev pub Sides : Bool → (ℕ → List Token → Type 0) → (ℕ → List Token → Type 0) → ℕ → List Token → List Token → Type 0
Sides false A B level left right = A (first_level level) left × B (level + 1) right
Sides true A B level left right = B (first_level level) left × A (level + 1) right

abbrev pub IsInfix : Operator → (ℕ → List Token → Type 0) → (ℕ → List Token → Type 0) → ℕ → List Token → Type 0
IsInfix op A B level ts =
    (left right : List Token) × (t : Token) × (i : Infix) × (ts ≡ left ++ t ∷ right) × (infix_of t.kind ≡ Some i) × (i.operator ≡ op) × (level ≤ i.level)
    × Sides i.is_turned A B i.level left right

-- The expression without brackets round it, where operators outside brackets are of the level or bind tighter. Those before an
-- operand have level 5, and bind tightest.
abbrev pub Bare : Meanings → Expr → ℕ → List Token → Type 0
Bare m (Integer z) level ts = (IsLiteral false z ts ⊎ ((level ≤ 5) × Joined (IsOne (kind.Sign sign.Minus)) (IsLiteral true z) ts)) ⊎ IsNamed m (Integer z) ts
Bare m (Boolean b) level ts = IsOne (kind.Word (word_of_boolean b)) ts ⊎ IsNamed m (Boolean b) ts
Bare m Null level ts = IsOne (kind.Word word.Null) ts
Bare m Env level ts = IsOne (kind.Word word.Env) ts
Bare m (Own w) level ts = IsOne (kind.Word (word_of w)) ts
Bare m (Parameter k sort) level ts = IsNamed m (Parameter k sort) ts
Bare m (Variable k sort) level ts = IsNamed m (Variable k sort) ts
Bare m (Negated' _ a) level ts =
    (level ≤ 5) × Joined (IsOne (kind.Sign sign.Minus)) (λ back. (begins_number back ≡ false) × Anyhow (Bare m a) 6 back) ts
Bare m (Not' _ a) level ts = (level ≤ 5) × Joined (IsOne (kind.Word word.Not)) (Anyhow (Bare m a) 6) ts
Bare m (Serial' _ a) level ts = Joined (IsOne (kind.Word word.Serial)) (InBrackets (Anyhow (Bare m a) 0)) ts
Bare m (Instance' set _ a) level ts = Joined (IsSetName m set) (InBrackets (Anyhow (Bare m a) 0)) ts
Bare m (Two' op _ a _ b) level ts = IsInfix op (Anyhow (Bare m a)) (Anyhow (Bare m b)) level ts
Bare m (Choice' _ c _ a _ b) level ts =
    Joined (IsOne (kind.Word word.If)) (Joined (Anyhow (Bare m c) 0)
    (Joined (IsOne (kind.Word word.Then)) (Joined (Anyhow (Bare m a) 0)
    (Joined (IsOne (kind.Word word.Else)) (Joined (Anyhow (Bare m b) 0) (IsOne (kind.Word word.Fi))))))) ts

-- the tokens spell the expression, in brackets or not
abbrev pub Spells : Meanings → Expr → ℕ → List Token → Type 0
Spells m e level ts = Anyhow (Bare m e) level ts

-- what was read of these tokens is at their front, and those are left
pub record Reads (P : List Token → Type 0) (old new : List Token) : Type 0 where
  pub front : List Token
  pub split : old ≡ front ++ new
  pub spelled : P front
