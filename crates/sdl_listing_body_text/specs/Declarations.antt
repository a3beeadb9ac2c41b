-- How constants and variables are spelled by tokens.
use Rattle.std.specs.Prelude.{◌≡◌, ◌⊎◌, ℕ, pos, true, false, List, [], Some, None, codes, position, bytes_eq}
use Rattle.sdl_signal.specs.declared.values.Sort.{Sort}
use Rattle.sdl_signal.specs.declared.values.Sort.TheVariants as sort
use Rattle.sdl_signal.specs.declared.values.Value.{Value}
use Rattle.sdl_signal.specs.declared.values.Value.TheVariants as value
use Rattle.sdl_signal.specs.declared.values.Pid.TheVariants as pid
use Rattle.sdl_signal.specs.Sorts.{sort_of}
use Rattle.sdl_structure_parts.specs.Structure.{Structure}
use Rattle.sdl_listing_tokens.specs.declared.signs.Sign.TheVariants as sign
use Rattle.sdl_listing_tokens.specs.declared.tokens.Kind.TheVariants as kind
use Rattle.sdl_listing_tokens.specs.declared.tokens.Token.{Token}
use Rattle.sdl_listing_expression_text.specs.declared.setting.Constant.{Constant}
use Rattle.sdl_listing_expression_text.specs.declared.setting.Variable.{Variable}
use Rattle.sdl_listing_expression_text.specs.Meanings.{set_named, constant_named}
use Rattle.sdl_listing_expression_text.specs.Spelling.{IsOne, IsNameOf, Joined, IsLiteral, word_of_boolean}
use Rattle.sdl_listing_body_text.specs.Statements.{IsNameThat}

-- a name that no set and no constant has
abbrev pub IsNewName : Structure → List Constant → List ℕ → List Token → Type 0
IsNewName s constants text ts =
    (set_named s text ≡ None) × (position (λ x. bytes_eq x.name.bytes text) constants ≡ None) × IsNameOf text ts

-- a number, `true` or `false`
abbrev pub IsLiteralValue : Value → List Token → Type 0
IsLiteralValue (value.Integer z) ts = IsLiteral false z ts ⊎ Joined (IsOne (kind.Sign sign.Minus)) (IsLiteral true z) ts
IsLiteralValue (value.Boolean b) ts = IsOne (kind.Word (word_of_boolean b)) ts
IsLiteralValue (value.Pid p) ts = ⊥

-- the same, or the name of a constant
abbrev pub IsKnownValue : List Constant → Value → List Token → Type 0
IsKnownValue constants v ts = IsLiteralValue v ts ⊎ IsNameThat (λ text. constant_named constants text ≡ Some v) ts

-- a constant behind those before it: a name, an equals sign and a value
abbrev pub IsConstant : Structure → List Constant → Constant → List Token → Type 0
IsConstant s before c ts =
    Joined (IsNewName s before c.name.bytes) (Joined (IsOne (kind.Sign sign.Equal)) (IsLiteralValue c.value)) ts

-- a sort as a text writes it
abbrev pub sort_text : Sort → List ℕ
sort_text sort.Integer = codes "Integer"
sort_text sort.Boolean = codes "Boolean"
sort_text sort.Pid = codes "Pid"

-- what a variable of the sort is where nothing is said
abbrev pub blank : Sort → Value
blank sort.Integer = value.Integer (pos 0)
blank sort.Boolean = value.Boolean false
blank sort.Pid = value.Pid pid.Null

-- the value at the start, where one is said
abbrev pub IsInitial : List Constant → Sort → Value → List Token → Type 0
IsInitial constants own v ts = ((v ≡ blank own) × (ts ≡ [])) ⊎ Joined (IsOne (kind.Sign sign.Equal)) (IsKnownValue constants v) ts

-- a variable behind those before it: a name, a sort and maybe a value of the sort
pub record IsVariable (s : Structure) (constants : List Constant) (before : List Variable) (x : Variable) (ts : List Token) : Type 0 where
  pub apart : position (λ y. bytes_eq y.name.bytes x.name.bytes) before ≡ None
  pub fits : sort_of x.initial ≡ x.sort
  pub spelled : Joined (IsNewName s constants x.name.bytes) (Joined (IsNameOf (sort_text x.sort)) (IsInitial constants x.sort x.initial)) ts
