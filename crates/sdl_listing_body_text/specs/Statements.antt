-- How statements and bodies are spelled by tokens.
use Rattle.std.specs.Prelude.{◌≡◌, ◌⊎◌, ℕ, Bool, true, false, List, [], ◌∷◌, ◌++◌, Some, position, bytes_eq}
use Rattle.sdl_signal.specs.declared.ids.SignalId.{SignalId}
use Rattle.sdl_signal.specs.declared.ids.SetId.{SetId}
use Rattle.sdl_routes.specs.declared.route.Via.{Via}
use Rattle.sdl_routes.specs.declared.route.Via.TheVariants as via
use Rattle.sdl_transition_behaviour.specs.declared.step.Next.{Next}
use Rattle.sdl_transition_behaviour.specs.declared.step.Next.TheVariants as next
use Rattle.sdl_listing_expression.specs.declared.syntax.Expr.{Expr}
use Rattle.sdl_listing_body.specs.declared.syntax.Params.{Params, Nothing as NoMore, First'}
use Rattle.sdl_listing_body.specs.declared.syntax.Goal.{Goal}
use Rattle.sdl_listing_body.specs.declared.syntax.Goal.TheVariants as goal
use Rattle.sdl_listing_body.specs.declared.syntax.Body.{Body, Nothing, Output', Create', Assign', If', End}
use Rattle.sdl_listing_body.specs.Offering.{sorts_of}
use Rattle.sdl_listing_tokens.specs.declared.words.Reserved.TheVariants as word
use Rattle.sdl_listing_tokens.specs.declared.signs.Sign.TheVariants as sign
use Rattle.sdl_listing_tokens.specs.declared.tokens.Kind.TheVariants as kind
use Rattle.sdl_listing_tokens.specs.declared.tokens.Token.{Token}
use Rattle.sdl_listing_expression_text.specs.declared.setting.Meanings.{Meanings}
use Rattle.sdl_listing_expression_text.specs.Meanings.{signal_named, gate_named, channel_named, state_named, sorts_of_signal, is_outward, lets_out, is_beside}
use Rattle.sdl_listing_expression_text.specs.Spelling.{IsOne, IsNameOf, IsSetName, Joined, Spells, word_of}
use Rattle.sdl_listing_body_text.specs.declared.statements.Statement.{Statement}
use Rattle.sdl_listing_body_text.specs.declared.statements.Statement.TheVariants as statement

-- a name with bytes of which this is so
abbrev pub IsNameThat : (List ℕ → Type 0) → List Token → Type 0
IsNameThat P ts = (text : List ℕ) × IsNameOf text ts × P text

-- the actual parameters that are left, with commas before them and the bracket that closes them
abbrev pub AreLeft : Meanings → Params → List Token → Type 0
AreLeft m NoMore ts = IsOne (kind.Sign sign.Close) ts
AreLeft m (First' e _ rest) ts = Joined (IsOne (kind.Sign sign.Comma)) (Joined (Spells m e 0) (AreLeft m rest)) ts

-- the first of actual parameters, and those behind it
abbrev pub IsFirst : Expr → Params → Params → Type 0
IsFirst e others NoMore = ⊥
IsFirst e others (First' x _ rest) = (x ≡ e) × (rest ≡ others)

-- the actual parameters in brackets, where there are some
abbrev pub AreParams : Meanings → Params → List Token → Type 0
AreParams m NoMore ts = ts ≡ []
AreParams m (First' e _ rest) ts = Joined (IsOne (kind.Sign sign.Open)) (Joined (Spells m e 0) (AreLeft m rest)) ts

-- what stands behind `to`: a set by itself, the word of a Pid, or an expression
abbrev pub IsGoalText : Meanings → Goal → List Token → Type 0
IsGoalText m goal.Anywhere ts = ⊥
IsGoalText m (goal.Own w) ts = IsOne (kind.Word (word_of w)) ts
IsGoalText m (goal.Set set) ts = IsSetName m set ts
IsGoalText m (goal.Pid e) ts = Spells m e 0 ts

-- the goal of an output, where there is one
abbrev pub IsGoal : Meanings → Goal → List Token → Type 0
IsGoal m to ts = ((to ≡ goal.Anywhere) × (ts ≡ [])) ⊎ Joined (IsOne (kind.Word word.To)) (IsGoalText m to) ts

-- what stands behind `via`: a gate of the set that lets the signal out, or a channel
abbrev pub IsViaText : Meanings → SignalId → Via → List Token → Type 0
IsViaText m signal via.Any ts = ⊥
IsViaText m signal (via.Gate gate) ts = IsNameThat (λ text. (gate_named m.setting text ≡ Some gate) × (lets_out m.setting gate signal ≡ true)) ts
IsViaText m signal (via.Channel channel) ts = Joined (IsOne (kind.Word word.Channel)) (IsNameThat (λ text. channel_named m.setting text ≡ Some channel)) ts

-- the way of an output, where one is said
abbrev pub IsVia : Meanings → SignalId → Via → List Token → Type 0
IsVia m signal v ts = ((v ≡ via.Any) × (ts ≡ [])) ⊎ Joined (IsOne (kind.Word word.Via)) (IsViaText m signal v) ts

-- a signal that some gate of the set lets out
abbrev pub IsOutwardName : Meanings → SignalId → List Token → Type 0
IsOutwardName m signal ts = IsNameThat (λ text. (signal_named m.setting text ≡ Some signal) × (is_outward m.setting signal ≡ true)) ts

-- an output with parameters of its signal's sorts
abbrev pub IsOutput : Meanings → SignalId → Params → Goal → Via → List Token → Type 0
IsOutput m signal params to v ts =
    (sorts_of params ≡ sorts_of_signal m.setting signal)
    × Joined (IsOne (kind.Word word.Output)) (Joined (IsOutwardName m signal) (Joined (AreParams m params) (Joined (IsGoal m to) (IsVia m signal v)))) ts

-- a create of an instance of a set in the same block
abbrev pub IsCreate : Meanings → SetId → List Token → Type 0
IsCreate m set ts = (is_beside m.setting set ≡ true) × Joined (IsOne (kind.Word word.Create)) (IsSetName m set) ts

-- the name of the variable at the place
abbrev pub IsVariableName : Meanings → ℕ → List Token → Type 0
IsVariableName m k ts = IsNameThat (λ text. position (λ x. bytes_eq x.name.bytes text) m.setting.variables.now.items ≡ Some k) ts

-- an assignment to the variable at the place
abbrev pub IsAssignment : Meanings → ℕ → Expr → List Token → Type 0
IsAssignment m k e ts = Joined (IsVariableName m k) (Joined (IsOne (kind.Sign sign.Becomes)) (Spells m e 0)) ts

-- what stands behind `next`: a state, where a minus is the state of the row
abbrev pub IsStateText : Meanings → Next → List Token → Type 0
IsStateText m next.Stop ts = ⊥
IsStateText m (next.State state) ts = IsNameThat (λ text. state_named m.setting text ≡ Some state) ts ⊎ ((m.state ≡ Some state) × IsOne (kind.Sign sign.Minus) ts)

-- an end: a stop, or a next state
abbrev pub IsEnd : Meanings → Next → List Token → Type 0
IsEnd m n ts = ((n ≡ next.Stop) × IsOne (kind.Word word.Stop) ts) ⊎ Joined (IsOne (kind.Word word.Next)) (IsStateText m n) ts

abbrev pub AreSemicolons : List Token → Type 0
AreSemicolons [] = Unit {0}
AreSemicolons (t ∷ ts) = (t.kind ≡ kind.Sign sign.Semicolon) × AreSemicolons ts

-- what may stand behind a statement: a semicolon, the brace that ends the body, or what is on a new line
abbrev pub IsApart : List Token → Type 0
IsApart [] = Unit {0}
IsApart (t ∷ ts) = ((t.kind ≡ kind.Sign sign.Semicolon) ⊎ (t.kind ≡ kind.Sign sign.CloseBrace)) ⊎ (t.fresh ≡ true)

-- behind a statement that ends with a brace anything may stand
abbrev pub MayFollow : Bool → List Token → Type 0
MayFollow true ts = Unit {0}
MayFollow false ts = IsApart ts

-- semicolons, a statement and what stands behind it
abbrev pub Followed : Bool → (List Token → Type 0) → (List Token → Type 0) → List Token → Type 0
Followed is_braced P Q ts =
    (before middle behind : List Token) × (ts ≡ before ++ (middle ++ behind)) × AreSemicolons before × P middle × MayFollow is_braced behind × Q behind

abbrev pub InBraces : (List Token → Type 0) → List Token → Type 0
InBraces P = Joined (IsOne (kind.Sign sign.OpenBrace)) (Joined P (IsOne (kind.Sign sign.CloseBrace)))

-- a body by itself, or as the other side of a decision
abbrev pub OnSide : Bool → (List Token → Type 0) → List Token → Type 0
OnSide false P ts = P ts
OnSide true P ts = Joined (IsOne (kind.Word word.Else)) (InBraces P) ts

-- a decision, with P between its braces and Q behind them
abbrev pub IsDecision : Meanings → Expr → (List Token → Type 0) → (List Token → Type 0) → List Token → Type 0
IsDecision m c P Q = Joined (IsOne (kind.Word word.If)) (Joined (Spells m c 0) (Joined (InBraces P) Q))

-- any tokens: nothing is done behind an end
abbrev pub Anything : List Token → Type 0
Anything ts = Unit {0}

-- The tokens spell the body, or the other side of a decision: none where it does nothing, a body in braces behind `else`, or a further
-- decision there.
abbrev pub IsBody : Meanings → Body → Bool → List Token → Type 0
IsBody m Nothing false ts = AreSemicolons ts
IsBody m Nothing true ts = (ts ≡ []) ⊎ OnSide true AreSemicolons ts
IsBody m (Output' signal params to v _ rest) side ts = OnSide side (Followed false (IsOutput m signal params to v) (IsBody m rest false)) ts
IsBody m (Create' set _ rest) side ts = OnSide side (Followed false (IsCreate m set) (IsBody m rest false)) ts
IsBody m (Assign' k e _ rest) side ts = OnSide side (Followed false (IsAssignment m k e) (IsBody m rest false)) ts
IsBody m (If' c _ on_true _ on_false _ rest) false ts =
    Followed true (IsDecision m c (IsBody m on_true false) (IsBody m on_false true)) (IsBody m rest false) ts
IsBody m (If' c _ on_true _ on_false _ rest) true ts =
    OnSide true (Followed true (IsDecision m c (IsBody m on_true false) (IsBody m on_false true)) (IsBody m rest false)) ts
    ⊎ ((rest ≡ Nothing) × Joined (IsOne (kind.Word word.Else)) (IsDecision m c (IsBody m on_true false) (IsBody m on_false true)) ts)
IsBody m (End n) side ts = OnSide side (Followed false (IsEnd m n) Anything) ts

-- the tokens are the statement, without what stands behind it
abbrev pub IsStatement : Meanings → Statement → List Token → Type 0
IsStatement m (statement.Output o) ts = IsOutput m o.signal o.params o.to o.via ts
IsStatement m (statement.Create set) ts = IsCreate m set ts
IsStatement m (statement.Assignment a) ts = IsAssignment m a.place a.value ts
IsStatement m (statement.Decision d) ts = IsDecision m d.condition (IsBody m d.yes false) (IsBody m d.no true) ts
IsStatement m (statement.End n) ts = IsEnd m n ts

-- the statement ends with a brace
abbrev pub is_braced : Statement → Bool
is_braced (statement.Decision d) = true
is_braced _ = false

-- the whole is the statement with the body behind it; behind an end nothing counts
abbrev pub IsBefore : Statement → Body → Body → Type 0
IsBefore (statement.Output o) behind (Output' signal params to v _ rest) = (o ≡ record { signal = signal; params = params; to = to; via = v }) × (rest ≡ behind)
IsBefore (statement.Create set) behind (Create' s _ rest) = (s ≡ set) × (rest ≡ behind)
IsBefore (statement.Assignment a) behind (Assign' k e _ rest) = (a ≡ record { place = k; value = e }) × (rest ≡ behind)
IsBefore (statement.Decision d) behind (If' c _ on_true _ on_false _ rest) =
    (c ≡ d.condition) × (on_true ≡ d.yes) × (on_false ≡ d.no) × (rest ≡ behind)
IsBefore (statement.End n) behind (End m) = m ≡ n
IsBefore _ _ _ = ⊥
