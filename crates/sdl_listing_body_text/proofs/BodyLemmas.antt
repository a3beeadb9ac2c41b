-- Statements behind one another are bodies.
use Rattle.std.proofs.Common.{◌≡◌, refl, sym, ◌∙◌, ap, subst, inl, inr, Bool, true, false, List, [], ◌∷◌, ◌++◌, append_assoc}
use Rattle.sdl_listing_expression.specs.declared.syntax.Expr.{Expr}
use Rattle.sdl_listing_body.specs.declared.syntax.Params.{Params, Nothing as NoMore, First'}
use Rattle.sdl_listing_body.specs.declared.syntax.Body.{Body, Nothing, Output', Create', Assign', If', End}
use Rattle.sdl_listing_tokens.specs.declared.words.Reserved.TheVariants as word
use Rattle.sdl_listing_tokens.specs.declared.signs.Sign.TheVariants as sign
use Rattle.sdl_listing_tokens.specs.declared.tokens.Kind.TheVariants as kind
use Rattle.sdl_listing_tokens.specs.declared.tokens.Token.{Token}
use Rattle.sdl_listing_expression_text.specs.declared.setting.Meanings.{Meanings}
use Rattle.sdl_listing_expression_text.specs.Spelling.{BeginsWith, IsOne, Joined, Spells, Reads}
use Rattle.sdl_listing_body_text.specs.declared.statements.Statement.{Statement}
use Rattle.sdl_listing_body_text.specs.declared.statements.Statement.TheVariants as statement
use Rattle.sdl_listing_body_text.specs.declared.statements.Decision.{Decision}
use Rattle.sdl_listing_body_text.specs.Statements.{AreLeft, AreParams, IsFirst, IsOutput, IsCreate, IsAssignment, IsEnd, AreSemicolons, IsApart, MayFollow, Followed, InBraces, IsDecision, IsBody, IsStatement, is_braced, IsBefore}
use Rattle.sdl_listing_body_text.proofs.Reading.{reads_as, reads_then, joined_as}

-- ---- parameters

first_left : (m : Meanings) (e : Expr) (others all : Params) (ts : List Token) → IsFirst e others all
    → Joined (IsOne (kind.Sign sign.Comma)) (Joined (Spells m e 0) (AreLeft m others)) ts → AreLeft m all ts
first_left m e others NoMore ts h p = absurd h
first_left m e others (First' x _ rest) ts (d, f) (front, back, g, comma, (one, more, k, q, r)) =
    (front, back, g, comma, (one, more, k, subst (λ y. Spells m y 0 one) (sym d) q, subst (λ y. AreLeft m y more) (sym f) r))

pub reads_left : (m : Meanings) (e : Expr) (others all : Params) {a b c d : List Token} → IsFirst e others all → Reads (IsOne (kind.Sign sign.Comma)) a b
    → Reads (Spells m e 0) b c → Reads (AreLeft m others) c d → Reads (AreLeft m all) a d
reads_left m e others all h p q r = reads_as (λ ts k. first_left m e others all ts h k) (reads_then p (reads_then q r))

first_params : (m : Meanings) (e : Expr) (others all : Params) (ts : List Token) → IsFirst e others all
    → Joined (IsOne (kind.Sign sign.Open)) (Joined (Spells m e 0) (AreLeft m others)) ts → AreParams m all ts
first_params m e others NoMore ts h p = absurd h
first_params m e others (First' x _ rest) ts (d, f) (front, back, g, open_, (one, more, k, q, r)) =
    (front, back, g, open_, (one, more, k, subst (λ y. Spells m y 0 one) (sym d) q, subst (λ y. AreLeft m y more) (sym f) r))

pub reads_params : (m : Meanings) (e : Expr) (others all : Params) {a b c d : List Token} → IsFirst e others all → Reads (IsOne (kind.Sign sign.Open)) a b
    → Reads (Spells m e 0) b c → Reads (AreLeft m others) c d → Reads (AreParams m all) a d
reads_params m e others all h p q r = reads_as (λ ts k. first_params m e others all ts h k) (reads_then p (reads_then q r))

-- ---- semicolons

more_semicolons : (before ts : List Token) → AreSemicolons before → AreSemicolons ts → AreSemicolons (before ++ ts)
more_semicolons [] ts h k = k
more_semicolons (t ∷ before) ts (h, hs) k = (h, more_semicolons before ts hs k)

past_followed : (braced : Bool) (P Q : List Token → Type 0) (before ts : List Token) → AreSemicolons before → Followed braced P Q ts → Followed braced P Q (before ++ ts)
past_followed braced P Q before ts h (first, middle, behind, e, s, p, f, q) = (
  before ++ first,
  middle,
  behind,
  ap (λ (l : List Token). before ++ l) e ∙ sym (append_assoc before first (middle ++ behind)),
  more_semicolons before first h s,
  p,
  f,
  q,
)

past_body : (m : Meanings) (b : Body) (before ts : List Token) → AreSemicolons before → IsBody m b false ts → IsBody m b false (before ++ ts)
past_body m Nothing before ts h p = more_semicolons before ts h p
past_body m (Output' signal params to v _ rest) before ts h p = past_followed false (IsOutput m signal params to v) (IsBody m rest false) before ts h p
past_body m (Create' set _ rest) before ts h p = past_followed false (IsCreate m set) (IsBody m rest false) before ts h p
past_body m (Assign' k e _ rest) before ts h p = past_followed false (IsAssignment m k e) (IsBody m rest false) before ts h p
past_body m (If' c _ on_true _ on_false _ rest) before ts h p =
    past_followed true (IsDecision m c (IsBody m on_true false) (IsBody m on_false true)) (IsBody m rest false) before ts h p
past_body m (End n) before ts h p = past_followed false (IsEnd m n) (λ us. Unit {0}) before ts h p

past_joined : (m : Meanings) (b : Body) (ts : List Token) → Joined AreSemicolons (IsBody m b false) ts → IsBody m b false ts
past_joined m b ts (front, back, e, p, q) = subst (λ (l : List Token). IsBody m b false l) (sym e) (past_body m b front back p q)

-- semicolons before a body
pub reads_past : (m : Meanings) (b : Body) {a c d : List Token} → Reads AreSemicolons a c → Reads (IsBody m b false) c d → Reads (IsBody m b false) a d
reads_past m b p q = reads_as (λ ts r. past_joined m b ts r) (reads_then p q)

one_semicolon : (ts : List Token) → Joined (IsOne (kind.Sign sign.Semicolon)) AreSemicolons ts → AreSemicolons ts
one_semicolon ts (front, back, e, (t, one, k), q) = subst AreSemicolons (sym (e ∙ ap (λ (l : List Token). l ++ back) one)) (k, q)

-- a semicolon more
pub reads_semicolon : {a b c : List Token} → Reads (IsOne (kind.Sign sign.Semicolon)) a b → Reads AreSemicolons b c → Reads AreSemicolons a c
reads_semicolon p q = reads_as one_semicolon (reads_then p q)

-- ---- what may stand behind a statement

pub braced_follows : (braced : Bool) (ts : List Token) → braced ≡ true → MayFollow braced ts
braced_follows braced ts e = subst (λ (b : Bool). MayFollow b ts) (sym e) tt

pub apart_follows : (braced : Bool) (ts : List Token) → IsApart ts → MayFollow braced ts
apart_follows true ts h = tt
apart_follows false ts h = h

pub semicolon_follows : (braced : Bool) (ts : List Token) → BeginsWith (kind.Sign sign.Semicolon) ts → MayFollow braced ts
semicolon_follows braced [] h = absurd h
semicolon_follows braced (t ∷ ts) h = apart_follows braced (t ∷ ts) (inl (inl h))

pub brace_follows : (braced : Bool) (ts : List Token) → BeginsWith (kind.Sign sign.CloseBrace) ts → MayFollow braced ts
brace_follows braced [] h = absurd h
brace_follows braced (t ∷ ts) h = apart_follows braced (t ∷ ts) (inl (inr h))

pub none_apart : (ts : List Token) → ts ≡ [] → IsApart ts
none_apart ts e = subst IsApart (sym e) tt

pub fresh_apart : (t : Token) (ts all : List Token) → all ≡ t ∷ ts → t.fresh ≡ true → IsApart all
fresh_apart t ts all e h = subst IsApart (sym e) (inr h)

-- ---- a statement and what stands behind it

front_follows : (braced : Bool) (front back : List Token) → MayFollow braced (front ++ back) → MayFollow braced front
front_follows true front back h = tt
front_follows false [] back h = tt
front_follows false (t ∷ front) back h = h

pub same_decision : (m : Meanings) (d : Decision) (c : Expr) (on_true on_false : Body) (ts : List Token) → c ≡ d.condition → on_true ≡ d.yes → on_false ≡ d.no
    → IsStatement m (statement.Decision d) ts → IsDecision m c (IsBody m on_true false) (IsBody m on_false true) ts
same_decision m d c on_true on_false ts e f g p =
    subst (λ x. IsDecision m x (IsBody m on_true false) (IsBody m on_false true) ts) (sym e)
    (subst (λ x. IsDecision m d.condition (IsBody m x false) (IsBody m on_false true) ts) (sym f)
    (subst (λ x. IsDecision m d.condition (IsBody m d.yes false) (IsBody m x true) ts) (sym g) p))

first_of_body : (m : Meanings) (s : Statement) (behind whole : Body) (ts us : List Token) → IsBefore s behind whole → IsStatement m s ts → MayFollow (is_braced s) us
    → IsBody m behind false us → IsBody m whole false (ts ++ us)
first_of_body m (statement.Output o) behind (Output' signal params to v _ rest) ts us (e, d) p f q =
    ([], ts, us, refl, tt, subst (λ x. IsOutput m x.signal x.params x.to x.via ts) e p, f, subst (λ (b : Body). IsBody m b false us) (sym d) q)
first_of_body m (statement.Create set) behind (Create' s _ rest) ts us (e, d) p f q =
    ([], ts, us, refl, tt, subst (λ x. IsCreate m x ts) (sym e) p, f, subst (λ (b : Body). IsBody m b false us) (sym d) q)
first_of_body m (statement.Assignment a) behind (Assign' k x _ rest) ts us (e, d) p f q =
    ([], ts, us, refl, tt, subst (λ y. IsAssignment m y.place y.value ts) e p, f, subst (λ (b : Body). IsBody m b false us) (sym d) q)
first_of_body m (statement.Decision d) behind (If' c _ on_true _ on_false _ rest) ts us (e, g, h, k) p f q =
    ([], ts, us, refl, tt, same_decision m d c on_true on_false ts e g h p, f, subst (λ (b : Body). IsBody m b false us) (sym k) q)
first_of_body m (statement.End n) behind (End x) ts us e p f q = ([], ts, us, refl, tt, subst (λ y. IsEnd m y ts) (sym e) p, f, tt)
first_of_body m _ behind _ ts us h p f q = absurd h

pub reads_first : (m : Meanings) (s : Statement) (behind whole : Body) {a b c : List Token} → IsBefore s behind whole → Reads (IsStatement m s) a b
    → MayFollow (is_braced s) b → Reads (IsBody m behind false) b c → Reads (IsBody m whole false) a c
reads_first m s behind whole {c = c} h p apart q =
    let follows : MayFollow (is_braced s) (q.front ++ c) = subst (λ (l : List Token). MayFollow (is_braced s) l) q.split apart in
    record {
      front = p.front ++ q.front;
      split = p.split ∙ (ap (λ (l : List Token). p.front ++ l) q.split ∙ sym (append_assoc p.front q.front c));
      spelled = first_of_body m s behind whole p.front q.front h p.spelled (front_follows (is_braced s) q.front c follows) q.spelled;
    }

-- ---- the other side of a decision

-- a body in braces
pub else_braced : (m : Meanings) (b : Body) (ts : List Token) → Joined (IsOne (kind.Word word.Else)) (InBraces (IsBody m b false)) ts → IsBody m b true ts
else_braced m Nothing ts p = inr p
else_braced m (Output' signal params to v _ rest) ts p = p
else_braced m (Create' set _ rest) ts p = p
else_braced m (Assign' k e _ rest) ts p = p
else_braced m (If' c _ on_true _ on_false _ rest) ts p = inl p
else_braced m (End n) ts p = p

-- a further decision
pub else_decision : (m : Meanings) (d : Decision) (whole : Body) (ts : List Token) → IsBefore (statement.Decision d) Nothing whole
    → Joined (IsOne (kind.Word word.Else)) (IsStatement m (statement.Decision d)) ts → IsBody m whole true ts
else_decision m d (If' c _ on_true _ on_false _ rest) ts (e, f, g, h) p = inr (h, joined_as (λ us q. same_decision m d c on_true on_false us e f g q) p)
else_decision m d _ ts h p = absurd h
