-- The texts of names and values: what bytes they have, how long they are, and that each tells its value.
use Rattle.std.proofs.Common.{◌≡◌, ◌≢◌, ℕ, zero, suc, ◌+◌, ◌^◌, ◌<◌, ◌≤◌, Bool, true, false, cond, eqb, ◌==◌, ltb, leb, not, ◌&&◌, List, [], ◌∷◌, ◌++◌, length, get_or, take, drop, Option, Some, None, refl, sym, ap, ◌∙◌, subst, codes, decimal, bytes_eq, arith, add-one, drop-cons}
use Rattle.std.specs.List.{position, position_from, slice_get, list_all, AllByRecursion}
use Rattle.std.specs.Option.{option_map}
use Rattle.std.specs.Str.Parse.{AllDigits}
use Rattle.std.proofs.lemmas.Str.Parse.{digit_from_value}
use Rattle.std.proofs.lemmas.Fmt.{decimal_is_IsNumeral, length-decimal-le}
use Rattle.std.proofs.lemmas.Bool.{false≢true}
use Rattle.std.proofs.lemmas.Bool.Decides.{nat_tests}
use Rattle.std.proofs.lemmas.Option.{same_Some, none-some}
use Rattle.std.proofs.lemmas.Iterator.Adapters.{option_map_id, position_from-zero}
use Rattle.sdl_signal.specs.declared.ids.SetId.{SetId}
use Rattle.sdl_signal.specs.declared.values.Pid.TheVariants as pid
use Rattle.sdl_signal.specs.Names.{Lexicon, IsLexicon, IsName, is_name_byte, is_letter, is_spelled}
use Rattle.sdl_signal.specs.Line.{colon, pid_text}
use Rattle.std.proofs.lemmas.List.{take-append-drop}
use Rattle.std.proofs.lemmas.List.Quantifiers.{position-Some}
use Rattle.std.proofs.lemmas.Bool.Decides.{Decides-eqb}
use Rattle.std.proofs.Math.Seq.{take-append_seam, drop-append-add}
use Rattle.sdl_signal.specs.Reading.{IsNowhere, IsPidText}

-- a byte that can be seen
abbrev pub IsGraphic : ℕ → Type 0
IsGraphic b = (32 < b) × (b < 127)

-- a byte of a name or a number
abbrev pub IsNoColon : ℕ → Type 0
IsNoColon b = (32 < b) × (b < 127) × (b ≢ 58)

-- a text that can be a field: one to n bytes that can be seen
pub record IsWord (n : ℕ) (bs : List ℕ) : Type 0 where
  pub some : 0 < length bs
  pub few : length bs ≤ n
  pub seen : AllByRecursion IsGraphic bs

pub all_at : {A : Type 0} (P : A → Type 0) (xs : List A) (i : ℕ) (x : A) → AllByRecursion P xs → slice_get xs i ≡ Some x → P x
all_at P [] i x h e = absurd (none-some x e)
all_at P (y ∷ ys) zero x h e = subst P (same_Some y x e) h.0
all_at P (y ∷ ys) (suc i) x h e = all_at P ys i x h.1 e

pub all_append : {A : Type 0} (P : A → Type 0) (xs ys : List A) → AllByRecursion P xs → AllByRecursion P ys → AllByRecursion P (xs ++ ys)
all_append P [] ys h k = k
all_append P (x ∷ xs) ys h k = (h.0, all_append P xs ys h.1 k)

pub map_is : {A B : Type 0} (f : A → B) (o : Option A) (t : B) → option_map f o ≡ Some t → (x : A) × (o ≡ Some x) × (f x ≡ t)
map_is f None t e = absurd (none-some t e)
map_is f (Some x) t e = (x, refl, same_Some (f x) t e)

guarded : {A : Type 0} (b : Bool) (o : Option A) (t : A) → cond b o None ≡ Some t → (b ≡ true) × (o ≡ Some t)
guarded true o t e = (refl, e)
guarded false o t e = absurd (none-some t e)

and_true : (a b : Bool) → (a && b) ≡ true → (a ≡ true) × (b ≡ true)
and_true true true e = (refl, refl)
and_true true false e = absurd (false≢true e)
and_true false b e = absurd (false≢true e)

no_colon_byte : (b : ℕ) → is_name_byte b ≡ true → IsNoColon b
no_colon_byte b e = (grind (arith, nat_tests), grind (arith, nat_tests), λ h. grind (arith, nat_tests))

no_colon_bytes : (bs : List ℕ) → list_all is_name_byte bs ≡ true → AllByRecursion IsNoColon bs
no_colon_bytes [] e = tt
no_colon_bytes (b ∷ bs) e = let p = and_true (is_name_byte b) (list_all is_name_byte bs) e in (no_colon_byte b p.0, no_colon_bytes bs p.1)

pub no_colon_digits : (ds : List ℕ) → AllDigits 10 ds → AllByRecursion IsNoColon ds
no_colon_digits [] h = tt
no_colon_digits (d ∷ ds) h =
    let r = digit_from_value d h.0 in
    ((omega arith, omega arith, λ e. omega arith), no_colon_digits ds h.1)

pub seen_without_colon : (bs : List ℕ) → AllByRecursion IsNoColon bs → AllByRecursion IsGraphic bs
seen_without_colon [] h = tt
seen_without_colon (b ∷ bs) h = ((h.0.0, h.0.1), seen_without_colon bs h.1)

pub record IsWordWithoutColon (n : ℕ) (bs : List ℕ) : Type 0 where
  pub some : 0 < length bs
  pub few : length bs ≤ n
  pub no_colon : AllByRecursion IsNoColon bs

name_without_colon : (bs : List ℕ) → IsName bs → IsWordWithoutColon 32 bs
name_without_colon bs h =
    let p = and_true (is_spelled bs && leb (length bs) 32) (not (bytes_eq bs (codes "env"))) h in
    let q = and_true (is_spelled bs) (leb (length bs) 32) p.0 in
    let r = and_true (ltb 0 (length bs) && is_letter (get_or bs 0 0)) (list_all is_name_byte bs) q.0 in
    let s = and_true (ltb 0 (length bs)) (is_letter (get_or bs 0 0)) r.0 in
    record { some = grind (arith, nat_tests, s.0); few = grind (arith, nat_tests, q.1); no_colon = no_colon_bytes bs r.1 }

pub no_colon_decimal : (k n : ℕ) → 0 < k → n < 10 ^ k → n < 2 ^ 64 → IsWordWithoutColon k (decimal n)
no_colon_decimal k n z h l =
    let m = decimal_is_IsNumeral n l in
    record { some = m.0.0; few = length-decimal-le k n z h l; no_colon = no_colon_digits (decimal n) m.0.1 }

pub word_without_colon : (n : ℕ) (bs : List ℕ) → IsWordWithoutColon n bs → IsWord n bs
word_without_colon n bs w = record { some = w.some; few = w.few; seen = seen_without_colon bs w.no_colon }

pub name_word : (bs : List ℕ) → IsName bs → IsWord 32 bs
name_word bs h = word_without_colon 32 bs (name_without_colon bs h)

-- what stands on the two sides of the first colon
colon_free : (a b : List ℕ) → AllByRecursion IsNoColon (a ++ colon ∷ b) → ⊥
colon_free [] b h = h.0.2 refl
colon_free (x ∷ a) b h = colon_free a b h.1

head_of : List ℕ → ℕ
head_of [] = 0
head_of (x ∷ xs) = x

tail_of : List ℕ → List ℕ
tail_of [] = []
tail_of (x ∷ xs) = xs

pub one_colon : (a b x y : List ℕ) → AllByRecursion IsNoColon a → AllByRecursion IsNoColon b → a ++ colon ∷ x ≡ b ++ colon ∷ y → (a ≡ b) × (x ≡ y)
one_colon [] [] x y ha hb e = (refl, cc)
one_colon [] (q ∷ b) x y ha hb e = let h : 58 ≡ q = cc in absurd (hb.0.2 (sym h))
one_colon (p ∷ a) [] x y ha hb e = let h : p ≡ 58 = cc in absurd (ha.0.2 h)
one_colon (p ∷ a) (q ∷ b) x y ha hb e =
    let h : p ≡ q = cc in
    let t : a ++ colon ∷ x ≡ b ++ colon ∷ y = cc in
    let r = one_colon a b x y ha.1 hb.1 t in
    (cc, r.1)

-- a text of an instance
pub record IsInstText (names : Lexicon) (set : ℕ) (serial : ℕ) (text : List ℕ) : Type 0 where
  pub low : 0 < serial
  pub name : List ℕ
  pub at : slice_get names.sets set ≡ Some name
  pub is : text ≡ name ++ colon ∷ decimal serial

pub inst_text : (names : Lexicon) (set : SetId) (serial : ℕ) (t : List ℕ) → pid_text names (pid.Inst set serial) ≡ Some t → IsInstText names set.0 serial t
inst_text names set serial t e =
    let g = guarded (ltb 0 serial) (option_map (λ name. name ++ colon ∷ decimal serial) (slice_get names.sets set.0)) t e in
    let m = map_is (λ (name : List ℕ). name ++ colon ∷ decimal serial) (slice_get names.sets set.0) t g.1 in
    record { low = grind (arith, nat_tests, g.0); name = m.0; at = m.1; is = sym m.2 }

pub set_has_no_colon : (names : Lexicon) (i : ℕ) (name : List ℕ) → IsLexicon names → slice_get names.sets i ≡ Some name → IsWordWithoutColon 32 name
set_has_no_colon names i name l e = name_without_colon name (all_at IsName names.sets i name l.sets.0 e)

-- a text with a colon is none of a name
pub inst_has_colon : (names : Lexicon) (set serial : ℕ) (t : List ℕ) → IsInstText names set serial t → AllByRecursion IsNoColon t → ⊥
inst_has_colon names set serial t h p = colon_free h.name (decimal serial) (subst (AllByRecursion IsNoColon) h.is p)

pub null_has_no_colon : AllByRecursion IsNoColon (codes "null")
null_has_no_colon = search arith

pub env_has_no_colon : AllByRecursion IsNoColon (codes "env")
env_has_no_colon = search arith

pub to_has_no_colon : AllByRecursion IsNoColon (codes "to")
to_has_no_colon = search arith

-- where the first colon stands
position_of_colon : (name ds : List ℕ) (i : ℕ) → AllByRecursion IsNoColon name → position_from (λ b. b == colon) i (name ++ colon ∷ ds) ≡ Some (i + length name)
position_of_colon [] ds i h = ap Some (omega arith)
position_of_colon (x ∷ xs) ds i h =
    let other : eqb x 58 ≡ false = grind (arith, nat_tests, h.0.2) in
    ap (λ b. cond b (Some i) (position_from (λ y. y == colon) (i + 1) (xs ++ colon ∷ ds))) other ∙ position_of_colon xs ds (i + 1) h.1 ∙ ap Some (omega arith)

colon_is_at : (names : Lexicon) (set serial : ℕ) (t : List ℕ) → IsLexicon names → (h : IsInstText names set serial t) → position (λ b. b == colon) t ≡ Some (length h.name)
colon_is_at names set serial t l h =
    ap (position (λ b. b == colon)) h.is
    ∙ position_from-zero (λ b. b == colon) (h.name ++ colon ∷ decimal serial)
    ∙ position_of_colon h.name (decimal serial) 0 (set_has_no_colon names set h.name l h.at).no_colon
    ∙ ap Some (omega arith)

-- what has the text of a Pid, and isn't `null` or `env`, has that of an instance. Its name and number stand beside the first
-- colon
inst_of_pid_text : {P : Type 0} (names : Lexicon) (t : List ℕ) → t ≢ codes "null" → t ≢ codes "env" → ((set : SetId) (serial : ℕ) → serial < 2 ^ 32 → IsInstText names set.0 serial t → P) → IsPidText names t → P
inst_of_pid_text names t n e then (pid.Null, fits, is) = absurd (n (sym (same_Some (codes "null") t is)))
inst_of_pid_text names t n e then (pid.Env, fits, is) = absurd (e (sym (same_Some (codes "env") t is)))
inst_of_pid_text names t n e then (pid.Inst set serial, fits, is) = then set serial fits (inst_text names set serial t is)

pub no_pid_without_colon : (names : Lexicon) (t : List ℕ) → IsLexicon names → t ≢ codes "null" → t ≢ codes "env" → position (λ b. b == colon) t ≡ None → ¬ IsPidText names t
no_pid_without_colon names t l n e p =
    inst_of_pid_text names t n e (λ set serial fits h. none-some (length h.name) (sym p ∙ colon_is_at names set.0 serial t l h))

pub no_pid_without_set : (names : Lexicon) (t : List ℕ) (i : ℕ) → IsLexicon names → t ≢ codes "null" → t ≢ codes "env" → position (λ b. b == colon) t ≡ Some i → IsNowhere (λ n. n) names.sets (take i t) → ¬ IsPidText names t
no_pid_without_set names t i l n e p absent =
    inst_of_pid_text names t n e (λ set serial fits h.
    let at : i ≡ length h.name = same_Some i (length h.name) (sym p ∙ colon_is_at names set.0 serial t l h) in
    let front : take i t ≡ h.name = ap (λ k. take k t) at ∙ ap (take (length h.name)) h.is ∙ take-append_seam h.name (colon ∷ decimal serial) in
    absent set.0 (option_map_id (slice_get names.sets set.0) ∙ h.at ∙ ap Some (sym front)))

pub no_pid_without_serial : (names : Lexicon) (t : List ℕ) (i : ℕ) → IsLexicon names → t ≢ codes "null" → t ≢ codes "env" → position (λ b. b == colon) t ≡ Some i → ((n : ℕ) → 0 < n → n < 2 ^ 32 → decimal n ≢ drop (i + 1) t) → ¬ IsPidText names t
no_pid_without_serial names t i l n e p absent =
    inst_of_pid_text names t n e (λ set serial fits h.
    let at : i ≡ length h.name = same_Some i (length h.name) (sym p ∙ colon_is_at names set.0 serial t l h) in
    let back : drop (i + 1) t ≡ decimal serial = ap (λ k. drop (k + 1) t) at ∙ ap (drop (length h.name + 1)) h.is ∙ drop-append-add h.name (colon ∷ decimal serial) 1 in
    absent serial h.low fits (sym back))

pub inst_from_parts : (names : Lexicon) (set : SetId) (serial i : ℕ) (t : List ℕ) → position (λ b. b == colon) t ≡ Some i → option_map (λ n. n) (slice_get names.sets set.0) ≡ Some (take i t) → decimal serial ≡ drop (i + 1) t → 0 < serial → pid_text names (pid.Inst set serial) ≡ Some t
inst_from_parts names set serial i t p at e low =
    let f = position-Some (λ b. b == colon) t i 0 p in
    let inside : i < length t = f.0 in
    let byte : get_or t i 0 ≡ 58 = (Decides-eqb (get_or t i 0) 58).0 f.1 in
    let whole : take i t ++ colon ∷ decimal serial ≡ t =
    ap (λ ds. take i t ++ colon ∷ ds) (e ∙ ap (λ k. drop k t) (add-one i))
    ∙ ap (λ b. take i t ++ b ∷ drop (suc i) t) (sym byte)
    ∙ ap (λ r. take i t ++ r) (sym (drop-cons t i 0 inside))
    ∙ take-append-drop i t in
    let test : ltb 0 serial ≡ true = grind (arith, nat_tests) in
    ap (λ b. cond b (option_map (λ name. name ++ colon ∷ decimal serial) (slice_get names.sets set.0)) None) test
    ∙ ap (option_map (λ name. name ++ colon ∷ decimal serial)) (sym (option_map_id (slice_get names.sets set.0)) ∙ at)
    ∙ ap Some whole
