-- What a transition that was read is of its setting, and how its text spells it.
use Rattle.std.specs.Prelude.{◌≡◌, ℕ, zero, suc, ◌≤◌, nat_lt, nat_le, Bool, false, ◌||◌, List, [], ◌∷◌, ◌++◌, length, map, Option, Some, None, IfSome, option_and_then, slice_get, position, bytes_eq}
use Rattle.std.specs.Borrow.{Bor}
use Rattle.sdl_signal.specs.declared.ids.StateId.{StateId}
use Rattle.sdl_signal.specs.declared.ids.SignalId.{SignalId}
use Rattle.sdl_signal.specs.declared.values.Sort.{Sort}
use Rattle.sdl_transition_behaviour.specs.declared.offer.SignalSorts.{SignalSorts}
use Rattle.sdl_listing_expression.specs.declared.syntax.Expr.{Expr}
use Rattle.sdl_listing_body.specs.declared.syntax.Body.{Body, Assign'}
use Rattle.sdl_listing_body.specs.declared.syntax.Row.{Row}
use Rattle.sdl_listing_tokens.specs.declared.signs.Sign.TheVariants as sign
use Rattle.sdl_listing_tokens.specs.declared.tokens.Kind.TheVariants as kind
use Rattle.sdl_listing_tokens.specs.declared.tokens.Token.{Token}
use Rattle.sdl_listing_tokens.specs.Tokens.{AreTokens}
use Rattle.sdl_listing_expression_text.specs.declared.setting.Setting.{Setting}
use Rattle.sdl_listing_expression_text.specs.declared.setting.Meanings.{Meanings}
use Rattle.sdl_listing_expression_text.specs.declared.setting.Variable.{Variable}
use Rattle.sdl_listing_body_text.specs.declared.places.Refusal.{Refusal}
use Rattle.sdl_listing_body_text.specs.declared.places.Refusal.TheVariants as refusal
use Rattle.sdl_listing_expression_text.specs.Meanings.{set_named, signal_named, sorts_of_signal, parameter_at}
use Rattle.sdl_listing_expression_text.specs.Spelling.{IsOne, IsNameOf, Joined}
use Rattle.sdl_listing_body_text.specs.Statements.{IsNameThat, IsBody}

-- the row is for this state and signal, and has the structure's sets and the behaviour's variables
pub record IsRowOf (s : Setting) (own : Option StateId) (trigger : Option SignalSorts) (row : Row) : Type 0 where
  pub state : row.state ≡ own
  pub signal : row.signal ≡ trigger
  pub sets : row.sets ≡ length s.structure.now.sets
  pub vars : row.vars.items ≡ map (λ x. x.sort) s.variables.now.items

-- a signal with the sorts that the structure gives its parameters
abbrev pub IsDeclared : Setting → SignalSorts → Type 0
IsDeclared s signal = signal.sorts.items ≡ sorts_of_signal s signal.id

-- the row is for the state, and for a signal with its sorts
abbrev pub IsInputRow : Setting → StateId → Row → Type 0
IsInputRow s state row = (signal : SignalSorts) × IsDeclared s signal × IsRowOf s (Some state) (Some signal) row

-- the byte is the first of a character, and none behind the first
abbrev pub begins_character : ℕ → Bool
begins_character b = nat_lt b 128 || nat_le 192 b

-- the place of a fault lies within the text
abbrev pub IsWithin : List ℕ → Refusal → Type 0
IsWithin text refusal.Memory = Unit {0}
IsWithin text (refusal.Fault fault start end) = (start ≤ end) × (end ≤ length text)

-- the text is cut into tokens of which this is so
abbrev pub IsText : (List Token → Type 0) → List ℕ → Type 0
IsText P text = (tokens : List Token) × AreTokens 0 text tokens × P tokens

-- the place of the variable of this name
abbrev pub variable_place : List Variable → List ℕ → Option ℕ
variable_place variables text = position (λ x. bytes_eq x.name.bytes text) variables

-- the variable at the place has the sort
abbrev pub HasSort : List Variable → Sort → ℕ → Type 0
HasSort variables sort k = IfSome (slice_get variables k) (λ x. x.sort ≡ sort)

-- A parameter of the sort may have the name behind those before it: no set, no constant and none of those has it, and a variable that
-- has it is of the sort.
pub record IsFree (s : Setting) (before : List (Bor (List ℕ))) (sort : Sort) (text : List ℕ) : Type 0 where
  pub set : set_named s.structure.now text ≡ None
  pub constant : position (λ x. bytes_eq x.name.bytes text) s.constants.now ≡ None
  pub parameter : position (λ x. bytes_eq x.now text) before ≡ None
  pub variable : IfSome (variable_place s.variables.now.items text) (HasSort s.variables.now.items sort)

-- a comma, but before the first
abbrev pub IsComma : List (Bor (List ℕ)) → List Token → Type 0
IsComma [] ts = ts ≡ []
IsComma (x ∷ xs) ts = IsOne (kind.Sign sign.Comma) ts

-- a name that a parameter of the sort may have behind those before it, with the comma before it
abbrev pub IsNextName : Setting → List (Bor (List ℕ)) → Sort → List ℕ → List Token → Type 0
IsNextName s before sort text ts = IsFree s before sort text × Joined (IsComma before) (IsNameOf text) ts

-- the names that are left for parameters of these sorts, behind those before them, and the bracket that closes them
abbrev pub AreNames : Setting → List (Bor (List ℕ)) → List Sort → List (Bor (List ℕ)) → List Token → Type 0
AreNames s before [] [] ts = IsOne (kind.Sign sign.Close) ts
AreNames s before (sort ∷ sorts) (name ∷ names) ts = Joined (IsNextName s before sort name.now) (AreNames s (before ++ name ∷ []) sorts names) ts
AreNames s before _ _ ts = ⊥

-- the names of the parameters of these sorts: all of them in brackets, or none
abbrev pub IsList : Setting → List Sort → List (Bor (List ℕ)) → List Token → Type 0
IsList s sorts [] ts = ts ≡ []
IsList s sorts (name ∷ names) ts = Joined (IsOne (kind.Sign sign.Open)) (AreNames s [] sorts (name ∷ names)) ts

-- the second list is the first with a name behind it, of which this is so
abbrev pub HasNext : List (Bor (List ℕ)) → List (Bor (List ℕ)) → (Bor (List ℕ) → Type 0) → Type 0
HasNext old new P = (name : Bor (List ℕ)) × (new ≡ old ++ name ∷ []) × P name

-- the second list is the first with more behind it, of which this is so
abbrev pub HasMore : List (Bor (List ℕ)) → List (Bor (List ℕ)) → (List (Bor (List ℕ)) → Type 0) → Type 0
HasMore old new P = (more : List (Bor (List ℕ))) × (new ≡ old ++ more) × P more

-- the name of the signal
abbrev pub IsSignalName : Setting → SignalId → List Token → Type 0
IsSignalName s signal ts = IsNameThat (λ text. signal_named s text ≡ Some signal) ts

-- what stands before the body of an input: its signal, and names for the signal's parameters
abbrev pub IsHead : Setting → SignalId → List (Bor (List ℕ)) → List Token → Type 0
IsHead s signal names ts =
    Joined (IsSignalName s signal) (Joined (IsList s (sorts_of_signal s signal) names) (IsOne (kind.Sign sign.Colon))) ts

-- the place of the variable that has the name of the parameter at the place
abbrev pub place_assigned : Meanings → ℕ → Option ℕ
place_assigned m i = option_and_then (λ name. variable_place m.setting.variables.now.items name.now) (slice_get m.names.now i)

-- the assignment of a parameter to the variable that has its name, where one has
abbrev pub assignment_of : Option ℕ → Option Expr → List (ℕ × Expr)
assignment_of (Some k) (Some e) = (k, e) ∷ []
assignment_of _ _ = []

-- the assignments of the first so many parameters
abbrev pub assignments : Meanings → ℕ → List (ℕ × Expr)
assignments m zero = []
assignments m (suc n) = assignments m n ++ assignment_of (place_assigned m n) (parameter_at m.sorts.now n)

-- the whole is the body with these assignments in front of it
abbrev pub HasInFront : List (ℕ × Expr) → Body → Body → Type 0
HasInFront [] body whole = whole ≡ body
HasInFront (a ∷ rest) body (Assign' k e _ behind) = (a ≡ (k, e)) × HasInFront rest body behind
HasInFront (a ∷ rest) body _ = ⊥

-- the tokens spell a body, and the whole is that one behind assignments of the parameters that have variables' names
abbrev pub IsWhole : Meanings → Body → List Token → Type 0
IsWhole m whole ts = (body : Body) × IsBody m body false ts × HasInFront (assignments m (length m.names.now)) body whole

-- what the names of a text mean in its setting, where these are the state and the sorts of the signal's parameters
pub record AreMeanings (s : Setting) (own : Option StateId) (all : List Sort) (m : Meanings) : Type 0 where
  pub setting : m.setting ≡ s
  pub state : m.state ≡ own
  pub sorts : m.sorts.now ≡ all

-- the tokens spell what a start does
abbrev pub IsStart : Setting → Body → List Token → Type 0
IsStart s body ts = (m : Meanings) × AreMeanings s None [] m × (m.names.now ≡ []) × IsWhole m body ts

-- the tokens spell an input of the signal in the state, and what it does
abbrev pub IsInput : Setting → StateId → SignalId → Body → List Token → Type 0
IsInput s state signal body ts =
    (m : Meanings) × AreMeanings s (Some state) (sorts_of_signal s signal) m × Joined (IsHead s signal m.names.now) (IsWhole m body) ts
