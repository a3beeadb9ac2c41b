-- What a token is, and how a text is cut into tokens.
use Rattle.std.specs.Prelude.{◌≡◌, ℕ, ◌+◌, ◌<◌, nat_le, nat_eq, ◌==◌, Bool, true, false, not, ◌&&◌, ◌||◌, if◌then◌else◌, List, [], ◌∷◌, ◌++◌, length, take, drop, Option, Some, None, IsSome, option_and_then, codes, bytes_eq, position, slice_get}
use Rattle.std.specs.List.{starts_with, list_any}
use Rattle.sdl_signal.specs.Names.{is_letter, is_name_byte}
use Rattle.sdl_listing_tokens.specs.declared.words.Reserved.{Reserved}
use Rattle.sdl_listing_tokens.specs.declared.words.Reserved.TheVariants as word
use Rattle.sdl_listing_tokens.specs.declared.signs.Sign.{Sign}
use Rattle.sdl_listing_tokens.specs.declared.signs.Sign.TheVariants as sign
use Rattle.sdl_listing_tokens.specs.declared.tokens.Kind.{Kind}
use Rattle.sdl_listing_tokens.specs.declared.tokens.Kind.TheVariants as kind
use Rattle.sdl_listing_tokens.specs.declared.tokens.Token.{Token}
use Rattle.sdl_listing_tokens.specs.declared.tokens.CutFault.{CutFault}
use Rattle.sdl_listing_tokens.specs.declared.tokens.CutFault.TheVariants as fault

-- a reserved word as a text writes it
abbrev pub word_text : Reserved → List ℕ
word_text word.Output = codes "output"
word_text word.Create = codes "create"
word_text word.Next = codes "next"
word_text word.Stop = codes "stop"
word_text word.If = codes "if"
word_text word.Then = codes "then"
word_text word.Else = codes "else"
word_text word.Fi = codes "fi"
word_text word.To = codes "to"
word_text word.Via = codes "via"
word_text word.Channel = codes "channel"
word_text word.And = codes "and"
word_text word.Or = codes "or"
word_text word.Xor = codes "xor"
word_text word.Not = codes "not"
word_text word.Modulo = codes "mod"
word_text word.Remainder = codes "rem"
word_text word.True = codes "true"
word_text word.False = codes "false"
word_text word.Null = codes "null"
word_text word.Env = codes "env"
word_text word.SelfPid = codes "self"
word_text word.Parent = codes "parent"
word_text word.Offspring = codes "offspring"
word_text word.Sender = codes "sender"
word_text word.Serial = codes "serial"

abbrev pub all_words : List Reserved
all_words =
    word.Output ∷ word.Create ∷ word.Next ∷ word.Stop ∷ word.If ∷ word.Then ∷ word.Else ∷ word.Fi ∷ word.To ∷ word.Via ∷ word.Channel
    ∷ word.And ∷ word.Or ∷ word.Xor ∷ word.Not ∷ word.Modulo ∷ word.Remainder ∷ word.True ∷ word.False ∷ word.Null ∷ word.Env
    ∷ word.SelfPid ∷ word.Parent ∷ word.Offspring ∷ word.Sender ∷ word.Serial ∷ []

-- a sign as a text writes it
abbrev pub sign_text : Sign → List ℕ
sign_text sign.Becomes = codes ":="
sign_text sign.Differs = codes "/="
sign_text sign.AtMost = codes "<="
sign_text sign.AtLeast = codes ">="
sign_text sign.Minus = codes "-"
sign_text sign.Plus = codes "+"
sign_text sign.Times = codes "*"
sign_text sign.Slash = codes "/"
sign_text sign.Equal = codes "="
sign_text sign.Less = codes "<"
sign_text sign.Greater = codes ">"
sign_text sign.Open = codes "("
sign_text sign.Close = codes ")"
sign_text sign.OpenBrace = codes "{"
sign_text sign.CloseBrace = codes "}"
sign_text sign.Comma = codes ","
sign_text sign.Semicolon = codes ";"
sign_text sign.Colon = codes ":"

-- of two that begin alike, the longer first
abbrev pub all_signs : List Sign
all_signs =
    sign.Becomes ∷ sign.Differs ∷ sign.AtMost ∷ sign.AtLeast ∷ sign.Minus ∷ sign.Plus ∷ sign.Times ∷ sign.Slash ∷ sign.Equal ∷ sign.Less
    ∷ sign.Greater ∷ sign.Open ∷ sign.Close ∷ sign.OpenBrace ∷ sign.CloseBrace ∷ sign.Comma ∷ sign.Semicolon ∷ sign.Colon ∷ []

abbrev pub is_digit : ℕ → Bool
is_digit b = nat_le 48 b && nat_le b 57

-- a blank, a tab or a new line
abbrev pub is_blank : ℕ → Bool
is_blank b = (b == 32 || b == 9) || b == 10

-- the first element that passes
abbrev pub first_that : {X : Type 0} → (X → Bool) → List X → Option X
first_that p xs = option_and_then (λ n. slice_get xs n) (position p xs)

abbrev pub is_word : List ℕ → Reserved → Bool
is_word text w = bytes_eq (word_text w) text

abbrev pub begins_with : List ℕ → Sign → Bool
begins_with text s = starts_with nat_eq text (sign_text s)

-- a reserved word, and else a name
abbrev pub kind_of_found : Option Reserved → Kind
kind_of_found (Some w) = kind.Word w
kind_of_found None = kind.Name

abbrev pub word_of : List ℕ → Option Reserved
word_of text = first_that (λ w. is_word text w) all_words

abbrev pub kind_of_word : List ℕ → Kind
kind_of_word text = kind_of_found (word_of text)

-- the first sign of the list that the text begins with
abbrev pub sign_at : List ℕ → Option Sign
sign_at text = first_that (λ s. begins_with text s) all_signs

abbrev pub of_sign : Option Sign → Option (Kind × ℕ)
of_sign (Some s) = Some (kind.Sign s, length (sign_text s))
of_sign None = None

-- a place, or else all of so many
abbrev pub up_to : Option ℕ → ℕ → ℕ
up_to (Some n) all = n
up_to None all = all

abbrev pub closes_name : ℕ → Bool
closes_name b = not (is_name_byte b)

abbrev pub closes_number : ℕ → Bool
closes_number b = not (is_digit b)

-- how many bytes a name has whose first one stands before these, and a number
abbrev pub name_size : List ℕ → ℕ
name_size bs = 1 + up_to (position closes_name bs) (length bs)

abbrev pub number_size : List ℕ → ℕ
number_size bs = 1 + up_to (position closes_number bs) (length bs)

-- The kind and the length of the token at the front. A letter begins a name, which goes on as far as letters, digits and underscores
-- do. A digit begins a number, which goes on as far as digits do. Of two signs the longer counts.
abbrev pub token_at : List ℕ → Option (Kind × ℕ)
token_at [] = None
token_at (b ∷ bs) =
    if is_letter b then Some (kind_of_word (take (name_size bs) (b ∷ bs)), name_size bs)
    else (if is_digit b then Some (kind.Integer, number_size bs)
    else of_sign (sign_at (b ∷ bs)))

-- Whether a comment is open behind the byte, where one is open before it or not, and none where the byte can't stand there. A comment
-- goes from # to the end of its line.
abbrev pub gap_step : Bool → ℕ → Option Bool
gap_step true b = Some (not (b == 10))
gap_step false b = if b == 35 then Some true else (if is_blank b then Some false else None)

-- the same behind several bytes
abbrev pub gap_after : Bool → List ℕ → Option Bool
gap_after o [] = Some o
gap_after o (b ∷ bs) = option_and_then (λ now. gap_after now bs) (gap_step o b)

-- what may stand between two tokens
abbrev pub IsGap : List ℕ → Type 0
IsGap bytes = gap_after false bytes ≡ Some false

-- what may stand behind the last token
abbrev pub IsLastGap : List ℕ → Type 0
IsLastGap bytes = IsSome (gap_after false bytes)

abbrev pub has_new_line : List ℕ → Bool
has_new_line bytes = list_any (λ b. b == 10) bytes

-- The token stands at that place, behind the gap: it is what the text begins with there.
pub record IsNext (at : ℕ) (gap : List ℕ) (t : Token) (rest : List ℕ) : Type 0 where
  pub apart : IsGap gap
  pub longest : token_at (t.text.now ++ rest) ≡ Some (t.kind, length t.text.now)
  pub start : t.start ≡ at + length gap
  pub fresh : t.fresh ≡ has_new_line gap

-- The tokens are all of the bytes, of which so many bytes of the text stand before: the bytes of the tokens with the gaps between
-- them are the text.
abbrev pub AreTokens : ℕ → List ℕ → List Token → Type 0
AreTokens at bytes [] = IsLastGap bytes
AreTokens at bytes (t ∷ ts) =
    (gap rest : List ℕ) × (bytes ≡ gap ++ (t.text.now ++ rest)) × IsNext at gap t rest × AreTokens (t.start + length t.text.now) rest ts

-- no token begins behind so many bytes, which are no last gap
abbrev pub IsBadByte : List ℕ → CutFault → Type 0
IsBadByte text fault.Memory = Unit {0}
IsBadByte text (fault.BadByte at) = (at < length text) × (token_at (drop at text) ≡ None)
