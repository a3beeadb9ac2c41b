-- The texts of values as fields: how long they are, what bytes they have, and that each tells its value.
use Rattle.std.proofs.Common.{◌≡◌, ◌≢◌, ℕ, suc, ◌^◌, ◌<◌, ◌≤◌, ℤ, pos, negsuc, Bool, true, false, List, [], ◌∷◌, ◌++◌, length, get_or, Some, refl, sym, ap, ◌∙◌, subst, codes, decimal, option_map, arith, length-append}
use Rattle.std.specs.List.{AllByRecursion}
use Rattle.std.specs.Fmt.{signed_decimal}
use Rattle.std.specs.Str.Parse.{AllDigits}
use Rattle.std.proofs.lemmas.Str.Parse.{digit_from_value}
use Rattle.std.proofs.lemmas.Fmt.{decimal_is_IsNumeral, decimal_injective, signed_decimal_injective}
use Rattle.std.proofs.lemmas.Option.{same_Some, none-some}
use Rattle.sdl_signal.specs.declared.ids.SetId.{SetId}
use Rattle.sdl_signal.specs.declared.values.Sort.{Sort}
use Rattle.sdl_signal.specs.declared.values.Sort.TheVariants as sort
use Rattle.sdl_signal.specs.declared.values.Pid.{Pid}
use Rattle.sdl_signal.specs.declared.values.Pid.TheVariants as pid
use Rattle.sdl_signal.specs.declared.values.Value.{Value}
use Rattle.sdl_signal.specs.declared.values.Value.TheVariants as value
use Rattle.sdl_signal.specs.Names.{Lexicon, IsLexicon}
use Rattle.sdl_signal.specs.Line.{colon, PidFits, ValueFits, IsInteger, pid_text, value_text, value_texts}
use Rattle.sdl_signal.specs.Reading.{PidNamesFirst, ValueNamesFirst}
use Rattle.sdl_signal.proofs.Named.{first_is_one}
use Rattle.sdl_signal.proofs.Numbers.{mag_of_integer}
use Rattle.sdl_signal.proofs.Texts.{IsGraphic, IsNoColon, IsWord, IsWordWithoutColon, IsInstText, inst_text, inst_has_colon, set_has_no_colon, no_colon_decimal, seen_without_colon, word_without_colon, one_colon, null_has_no_colon, env_has_no_colon, to_has_no_colon, all_append}
use Rattle.sdl_signal.proofs.ValueTexts.{texts_of_cons}

-- a field of a value: 1 to 43 bytes that can be seen, and not `to`
pub record IsValueWord (bs : List ℕ) : Type 0 where
  pub word : IsWord 43 bs
  pub other : bs ≢ codes "to"

longer : (m n : ℕ) (bs : List ℕ) → m ≤ n → IsWord m bs → IsWord n bs
longer m n bs h w = record { some = w.some; few = omega (arith, h, w.few); seen = w.seen }

digits_are_not_to : (ds : List ℕ) → AllDigits 10 ds → ds ≢ codes "to"
digits_are_not_to ds h e =
    let t : AllDigits 10 (codes "to") = subst (AllDigits 10) e h in
    let r = digit_from_value 116 t.0 in
    omega (arith, r.1)

decimal_word : (n : ℕ) → n < 2 ^ 64 → IsWordWithoutColon 20 (decimal n)
decimal_word n h = no_colon_decimal 20 n (omega arith) (omega arith) h

integer_word : (n : ℤ) → IsInteger n → IsValueWord (signed_decimal n)
integer_word (pos n) h =
    let m = mag_of_integer (pos n) h in
    record { word = longer 20 43 (decimal n) (omega arith) (word_without_colon 20 (decimal n) (decimal_word n (omega arith))); other = digits_are_not_to (decimal n) (decimal_is_IsNumeral n (omega arith)).0.1 }
integer_word (negsuc n) h =
    let m = mag_of_integer (negsuc n) h in
    let w = decimal_word (suc n) (omega arith) in
    record {
      word = record { some = omega arith; few = omega (arith, w.few); seen = ((omega arith, omega arith), seen_without_colon (decimal (suc n)) w.no_colon) };
      other = λ e. let x = ap (λ l. get_or l 0 0) e in omega (arith, x);
    }

null_word : IsValueWord (codes "null")
null_word = record { word = record { some = omega arith; few = omega arith; seen = search arith }; other = λ e. let x = ap length e in omega (arith, x) }

env_word : IsValueWord (codes "env")
env_word = record { word = record { some = omega arith; few = omega arith; seen = search arith }; other = λ e. let x = ap length e in omega (arith, x) }

true_word : IsValueWord (codes "true")
true_word = record { word = record { some = omega arith; few = omega arith; seen = search arith }; other = λ e. let x = ap length e in omega (arith, x) }

false_word : IsValueWord (codes "false")
false_word = record { word = record { some = omega arith; few = omega arith; seen = search arith }; other = λ e. let x = ap length e in omega (arith, x) }

inst_word : (names : Lexicon) (set serial : ℕ) (t : List ℕ) → IsLexicon names → serial < 2 ^ 32 → IsInstText names set serial t → IsValueWord t
inst_word names set serial t l fits h =
    let name = set_has_no_colon names set h.name l h.at in
    let number = no_colon_decimal 10 serial (omega arith) (omega arith) (omega arith) in
    let size = length-append h.name (colon ∷ decimal serial) in
    let long : length (h.name ++ colon ∷ decimal serial) ≤ 43 = omega (arith, size, name.few, number.few) in
    let some : 0 < length (h.name ++ colon ∷ decimal serial) = omega (arith, size) in
    let seen : AllByRecursion IsGraphic (h.name ++ colon ∷ decimal serial) = all_append IsGraphic h.name (colon ∷ decimal serial) (seen_without_colon h.name name.no_colon) ((omega arith, omega arith), seen_without_colon (decimal serial) number.no_colon) in
    record {
      word = subst (IsWord 43) (sym h.is) (record { some = some; few = long; seen = seen });
      other = λ e. inst_has_colon names set serial t h (subst (AllByRecursion IsNoColon) (sym e) to_has_no_colon);
    }

pub pid_word : (names : Lexicon) (p : Pid) (t : List ℕ) → IsLexicon names → PidFits p → pid_text names p ≡ Some t → IsValueWord t
pid_word names pid.Null t l fits e = subst IsValueWord (same_Some (codes "null") t e) null_word
pid_word names pid.Env t l fits e = subst IsValueWord (same_Some (codes "env") t e) env_word
pid_word names (pid.Inst set serial) t l fits e = inst_word names set.0 serial t l fits (inst_text names set serial t e)

pub value_word : (names : Lexicon) (s : Sort) (v : Value) (t : List ℕ) → IsLexicon names → ValueFits v → value_text names s v ≡ Some t → IsValueWord t
value_word names sort.Integer (value.Integer n) t l fits e = subst IsValueWord (same_Some (signed_decimal n) t e) (integer_word n fits)
value_word names sort.Boolean (value.Boolean true) t l fits e = subst IsValueWord (same_Some (codes "true") t e) true_word
value_word names sort.Boolean (value.Boolean false) t l fits e = subst IsValueWord (same_Some (codes "false") t e) false_word
value_word names sort.Pid (value.Pid p) t l fits e = pid_word names p t l fits e
value_word names _ _ t l fits e = absurd (none-some t e)

pub value_words : (names : Lexicon) (sorts : List Sort) (values : List Value) (texts : List (List ℕ)) → IsLexicon names → AllByRecursion ValueFits values → value_texts names sorts values ≡ Some texts → AllByRecursion IsValueWord texts
value_words names [] [] texts l fits e = subst (AllByRecursion IsValueWord) (same_Some [] texts e) tt
value_words names [] (v ∷ values) texts l fits e = absurd (none-some texts e)
value_words names (s ∷ sorts) [] texts l fits e = absurd (none-some texts e)
value_words names (s ∷ sorts) (v ∷ values) texts l fits e =
    let p = texts_of_cons names s sorts v values texts e in
    subst (AllByRecursion IsValueWord) (sym p.is) (value_word names s v p.first l fits.0 p.of_first, value_words names sorts values p.rest l fits.1 p.of_rest)

-- each text tells its value
inst_one : (names : Lexicon) (a b : SetId) (m n : ℕ) (t : List ℕ) → IsLexicon names → m < 2 ^ 32 → n < 2 ^ 32 → PidNamesFirst names (pid.Inst a m) → PidNamesFirst names (pid.Inst b n) → IsInstText names a.0 m t → IsInstText names b.0 n t → pid.Inst a m ≡ pid.Inst b n
inst_one names a b m n t l fm fn ha hb p q =
    let r = one_colon p.name q.name (decimal m) (decimal n) (set_has_no_colon names a.0 p.name l p.at).no_colon (set_has_no_colon names b.0 q.name l q.at).no_colon (sym p.is ∙ q.is) in
    let number : m ≡ n = decimal_injective m n (omega arith) (omega arith) r.1 in
    let named = ap (option_map (λ (k : List ℕ). k)) (p.at ∙ ap Some r.0 ∙ sym q.at) in
    let set : a.0 ≡ b.0 = first_is_one (λ (k : List ℕ). k) names.sets a.0 b.0 named ha hb in
    ap (λ i. pid.Inst (record { 0 = i }) m) set ∙ ap (pid.Inst b) number

pub pid_one : (names : Lexicon) (p q : Pid) (t : List ℕ) → IsLexicon names → PidFits p → PidFits q → PidNamesFirst names p → PidNamesFirst names q → pid_text names p ≡ Some t → pid_text names q ≡ Some t → p ≡ q
pid_one names pid.Null pid.Null t l fp fq hp hq e f = refl
pid_one names pid.Null pid.Env t l fp fq hp hq e f = let x = ap length (same_Some (codes "null") t e ∙ sym (same_Some (codes "env") t f)) in absurd (omega (arith, x))
pid_one names pid.Env pid.Null t l fp fq hp hq e f = let x = ap length (same_Some (codes "env") t e ∙ sym (same_Some (codes "null") t f)) in absurd (omega (arith, x))
pid_one names pid.Env pid.Env t l fp fq hp hq e f = refl
pid_one names pid.Null (pid.Inst b n) t l fp fq hp hq e f = absurd (inst_has_colon names b.0 n t (inst_text names b n t f) (subst (AllByRecursion IsNoColon) (same_Some (codes "null") t e) null_has_no_colon))
pid_one names pid.Env (pid.Inst b n) t l fp fq hp hq e f = absurd (inst_has_colon names b.0 n t (inst_text names b n t f) (subst (AllByRecursion IsNoColon) (same_Some (codes "env") t e) env_has_no_colon))
pid_one names (pid.Inst a m) pid.Null t l fp fq hp hq e f = absurd (inst_has_colon names a.0 m t (inst_text names a m t e) (subst (AllByRecursion IsNoColon) (same_Some (codes "null") t f) null_has_no_colon))
pid_one names (pid.Inst a m) pid.Env t l fp fq hp hq e f = absurd (inst_has_colon names a.0 m t (inst_text names a m t e) (subst (AllByRecursion IsNoColon) (same_Some (codes "env") t f) env_has_no_colon))
pid_one names (pid.Inst a m) (pid.Inst b n) t l fp fq hp hq e f = inst_one names a b m n t l fp fq hp hq (inst_text names a m t e) (inst_text names b n t f)

boolean_one : (names : Lexicon) (a b : Bool) (t : List ℕ) → value_text names sort.Boolean (value.Boolean a) ≡ Some t → value_text names sort.Boolean (value.Boolean b) ≡ Some t → a ≡ b
boolean_one names true true t e f = refl
boolean_one names false false t e f = refl
boolean_one names true false t e f = let x = ap length (same_Some (codes "true") t e ∙ sym (same_Some (codes "false") t f)) in absurd (omega (arith, x))
boolean_one names false true t e f = let x = ap length (same_Some (codes "false") t e ∙ sym (same_Some (codes "true") t f)) in absurd (omega (arith, x))

pub value_one : (names : Lexicon) (s : Sort) (v w : Value) (t : List ℕ) → IsLexicon names → ValueFits v → ValueFits w → ValueNamesFirst names v → ValueNamesFirst names w → value_text names s v ≡ Some t → value_text names s w ≡ Some t → v ≡ w
value_one names sort.Integer (value.Integer a) (value.Integer b) t l fv fw hv hw e f =
    ap value.Integer (signed_decimal_injective a b (mag_of_integer a fv) (mag_of_integer b fw) (same_Some (signed_decimal a) t e ∙ sym (same_Some (signed_decimal b) t f)))
value_one names sort.Integer (value.Integer a) _ t l fv fw hv hw e f = absurd (none-some t f)
value_one names sort.Integer _ w t l fv fw hv hw e f = absurd (none-some t e)
value_one names sort.Boolean (value.Boolean a) (value.Boolean b) t l fv fw hv hw e f = ap value.Boolean (boolean_one names a b t e f)
value_one names sort.Boolean (value.Boolean a) _ t l fv fw hv hw e f = absurd (none-some t f)
value_one names sort.Boolean _ w t l fv fw hv hw e f = absurd (none-some t e)
value_one names sort.Pid (value.Pid p) (value.Pid q) t l fv fw hv hw e f = ap value.Pid (pid_one names p q t l fv fw hv hw e f)
value_one names sort.Pid (value.Pid p) _ t l fv fw hv hw e f = absurd (none-some t f)
value_one names sort.Pid _ w t l fv fw hv hw e f = absurd (none-some t e)

pub values_one : (names : Lexicon) (sorts : List Sort) (vs ws : List Value) (texts : List (List ℕ)) → IsLexicon names → AllByRecursion ValueFits vs → AllByRecursion ValueFits ws → AllByRecursion (ValueNamesFirst names) vs → AllByRecursion (ValueNamesFirst names) ws → value_texts names sorts vs ≡ Some texts → value_texts names sorts ws ≡ Some texts → vs ≡ ws
values_one names [] [] [] texts l fv fw hv hw e f = refl
values_one names [] (v ∷ vs) ws texts l fv fw hv hw e f = absurd (none-some texts e)
values_one names [] [] (w ∷ ws) texts l fv fw hv hw e f = absurd (none-some texts f)
values_one names (s ∷ sorts) [] ws texts l fv fw hv hw e f = absurd (none-some texts e)
values_one names (s ∷ sorts) (v ∷ vs) [] texts l fv fw hv hw e f = absurd (none-some texts f)
values_one names (s ∷ sorts) (v ∷ vs) (w ∷ ws) texts l fv fw hv hw e f =
    let p = texts_of_cons names s sorts v vs texts e in
    let q = texts_of_cons names s sorts w ws texts f in
    let same : p.first ∷ p.rest ≡ q.first ∷ q.rest = sym p.is ∙ q.is in
    let first : p.first ≡ q.first = cc in
    let rest : p.rest ≡ q.rest = cc in
    ap (λ x. x ∷ vs) (value_one names s v w q.first l fv.0 fw.0 hv.0 hw.0 (p.of_first ∙ ap Some first) q.of_first)
    ∙ ap (λ xs. w ∷ xs) (values_one names sorts vs ws q.rest l fv.1 fw.1 hv.1 hw.1 (p.of_rest ∙ ap Some rest) q.of_rest)
