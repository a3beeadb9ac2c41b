-- Names, signs and values behind one another are constants and variables.
use Rattle.std.proofs.Common.{◌≡◌, sym, subst, ℕ, List, length, None, position, bytes_eq}
use Rattle.sdl_signal.specs.declared.values.Sort.{Sort}
use Rattle.sdl_signal.specs.Sorts.{sort_of}
use Rattle.sdl_structure_parts.specs.Structure.{Structure}
use Rattle.sdl_listing_tokens.specs.declared.signs.Sign.TheVariants as sign
use Rattle.sdl_listing_tokens.specs.declared.tokens.Kind.TheVariants as kind
use Rattle.sdl_listing_tokens.specs.declared.tokens.Token.{Token}
use Rattle.sdl_listing_expression_text.specs.declared.setting.Constant.{Constant}
use Rattle.sdl_listing_expression_text.specs.declared.setting.Variable.{Variable}
use Rattle.sdl_listing_expression_text.specs.Meanings.{set_named}
use Rattle.sdl_listing_expression_text.specs.Spelling.{IsOne, IsNameOf, Joined, Reads}
use Rattle.sdl_listing_body_text.specs.Declarations.{IsNewName, IsLiteralValue, IsConstant, sort_text, IsInitial, IsVariable}
use Rattle.sdl_listing_body_text.proofs.Reading.{reads_then, reads_all}

-- a name that no set and no constant has
pub reads_new_name : (s : Structure) (constants : List Constant) (text : List ℕ) {a b : List Token} → set_named s text ≡ None
    → position (λ x. bytes_eq x.name.bytes text) constants ≡ None → Reads (IsNameOf text) a b → Reads (IsNewName s constants text) a b
reads_new_name s constants text no_set no_constant r = record { front = r.front; split = r.split; spelled = (no_set, no_constant, r.spelled) }

same_name : (s : Structure) (constants : List Constant) (own text : List ℕ) {a b : List Token} → own ≡ text → Reads (IsNewName s constants text) a b
    → Reads (IsNewName s constants own) a b
same_name s constants own text {a = a} {b = b} same r = subst (λ (t : List ℕ). Reads (IsNewName s constants t) a b) (sym same) r

pub reads_sort : (sort : Sort) (text : List ℕ) {a b : List Token} → text ≡ sort_text sort → Reads (IsNameOf text) a b → Reads (IsNameOf (sort_text sort)) a b
reads_sort sort text {a = a} {b = b} same r = subst (λ (t : List ℕ). Reads (IsNameOf t) a b) same r

pub spells_constant : (s : Structure) (before : List Constant) (own : Constant) (text : List ℕ) (all : List Token) {a b c d : List Token} → own.name.bytes ≡ text → a ≡ all
    → Reads (IsNewName s before text) a b → Reads (IsOne (kind.Sign sign.Equal)) b c → Reads (IsLiteralValue own.value) c d → length d ≡ 0 → IsConstant s before own all
spells_constant s before own text all {a = a} {d = d} named same p q r none =
    subst (λ (l : List Token). IsConstant s before own l) same
    (reads_all (IsConstant s before own) a d (reads_then (same_name s before own.name.bytes text named p) (reads_then q r)) none)

abbrev IsSpelled : Structure → List Constant → Variable → List Token → Type 0
IsSpelled s constants x ts = Joined (IsNewName s constants x.name.bytes) (Joined (IsNameOf (sort_text x.sort)) (IsInitial constants x.sort x.initial)) ts

pub spells_variable : (s : Structure) (constants : List Constant) (before : List Variable) (own : Variable) (text : List ℕ) (all : List Token) {a b c d : List Token}
    → own.name.bytes ≡ text → position (λ y. bytes_eq y.name.bytes text) before ≡ None → sort_of own.initial ≡ own.sort → a ≡ all
    → Reads (IsNewName s constants text) a b → Reads (IsNameOf (sort_text own.sort)) b c → Reads (IsInitial constants own.sort own.initial) c d → length d ≡ 0
    → IsVariable s constants before own all
spells_variable s constants before own text all {a = a} {d = d} named apart fits same p q r none = record {
  apart = subst (λ (t : List ℕ). position (λ y. bytes_eq y.name.bytes t) before ≡ None) (sym named) apart;
  fits = fits;
  spelled = subst (λ (l : List Token). IsSpelled s constants own l) same
      (reads_all (IsSpelled s constants own) a d (reads_then (same_name s constants own.name.bytes text named p) (reads_then q r)) none);
}
