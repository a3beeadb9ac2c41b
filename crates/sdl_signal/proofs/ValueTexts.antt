-- The values of a line and their texts, as lists.
use Rattle.std.proofs.Common.{◌≡◌, ℕ, zero, suc, ◌+◌, ◌<◌, List, [], ◌∷◌, ◌++◌, length, get_or, take, Option, Some, None, refl, sym, ap, ◌∙◌, subst, inl, inr, arith, option_map}
use Rattle.std.specs.List.{AllByRecursion}
use Rattle.std.proofs.lemmas.List.{take_more}
use Rattle.std.proofs.lemmas.Option.{same_Some, none-some}
use Rattle.sdl_signal.specs.declared.values.Sort.{Sort}
use Rattle.sdl_signal.specs.declared.values.Value.{Value}
use Rattle.sdl_signal.specs.Names.{Lexicon}
use Rattle.sdl_signal.specs.Line.{value_text, value_texts, ValueFits, ◌>>=◌}
use Rattle.sdl_signal.specs.Reading.{HasBadValue, IsValueText}

-- the parts of the texts of values
pub record AreTexts (names : Lexicon) (s : Sort) (sorts : List Sort) (v : Value) (values : List Value) (texts : List (List ℕ)) : Type 0 where
  pub first : List ℕ
  pub rest : List (List ℕ)
  pub is : texts ≡ first ∷ rest
  pub of_first : value_text names s v ≡ Some first
  pub of_rest : value_texts names sorts values ≡ Some rest

two_steps : (a : Option (List ℕ)) (b : Option (List (List ℕ))) (t : List (List ℕ)) → (a >>= λ x. option_map (λ xs. x ∷ xs) b) ≡ Some t → (x : List ℕ) × ((xs : List (List ℕ)) × (t ≡ x ∷ xs) × (a ≡ Some x) × (b ≡ Some xs))
two_steps None b t e = absurd (none-some t e)
two_steps (Some x) None t e = absurd (none-some t e)
two_steps (Some x) (Some xs) t e = (x, (xs, sym (same_Some (x ∷ xs) t e), refl, refl))

pub texts_of_cons : (names : Lexicon) (s : Sort) (sorts : List Sort) (v : Value) (values : List Value) (texts : List (List ℕ)) → value_texts names (s ∷ sorts) (v ∷ values) ≡ Some texts → AreTexts names s sorts v values texts
texts_of_cons names s sorts v values texts e =
    let r = two_steps (value_text names s v) (value_texts names sorts values) texts e in
    record { first = r.0; rest = r.1.0; is = r.1.1; of_first = r.1.2; of_rest = r.1.3 }

pub value_texts-cons : (names : Lexicon) (s : Sort) (sorts : List Sort) (v : Value) (values : List Value) (t : List ℕ) (ts : List (List ℕ)) → value_text names s v ≡ Some t → value_texts names sorts values ≡ Some ts → value_texts names (s ∷ sorts) (v ∷ values) ≡ Some (t ∷ ts)
value_texts-cons names s sorts v values t ts e f =
    ap (λ o. o >>= λ text. option_map (λ texts. text ∷ texts) (value_texts names sorts values)) e ∙ ap (option_map (λ texts. t ∷ texts)) f

pub value_texts-push : (names : Lexicon) (sorts : List Sort) (values : List Value) (ts : List (List ℕ)) (s : Sort) (v : Value) (t : List ℕ) → value_texts names sorts values ≡ Some ts → value_text names s v ≡ Some t → value_texts names (sorts ++ s ∷ []) (values ++ v ∷ []) ≡ Some (ts ++ t ∷ [])
value_texts-push names [] [] ts s v t e f =
    value_texts-cons names s [] v [] t [] f refl ∙ ap (λ xs. Some (xs ++ t ∷ [])) (same_Some [] ts e)
value_texts-push names [] (w ∷ values) ts s v t e f = absurd (none-some ts e)
value_texts-push names (r ∷ sorts) [] ts s v t e f = absurd (none-some ts e)
value_texts-push names (r ∷ sorts) (w ∷ values) ts s v t e f =
    let p = texts_of_cons names r sorts w values ts e in
    value_texts-cons names r (sorts ++ s ∷ []) w (values ++ v ∷ []) p.first (p.rest ++ t ∷ []) p.of_first (value_texts-push names sorts values p.rest s v t p.of_rest f)
    ∙ ap (λ xs. Some (xs ++ t ∷ [])) (sym p.is)

pub length-value_texts : (names : Lexicon) (sorts : List Sort) (values : List Value) (ts : List (List ℕ)) → value_texts names sorts values ≡ Some ts → (length values ≡ length sorts) × (length ts ≡ length sorts)
length-value_texts names [] [] ts e = (refl, ap length (sym (same_Some [] ts e)))
length-value_texts names [] (w ∷ values) ts e = absurd (none-some ts e)
length-value_texts names (r ∷ sorts) [] ts e = absurd (none-some ts e)
length-value_texts names (r ∷ sorts) (w ∷ values) ts e =
    let p = texts_of_cons names r sorts w values ts e in
    let h = length-value_texts names sorts values p.rest p.of_rest in
    let l : length ts ≡ suc (length p.rest) = ap length p.is in
    (omega (arith, h.0), omega (arith, h.1, l))

-- one more value, as a loop over the sorts and the fields goes on
pub value_texts_more : (names : Lexicon) (sorts : List Sort) (texts : List (List ℕ)) (values : List Value) (i : ℕ) (s : Sort) (v : Value) (t : List ℕ) → i < length sorts → i < length texts → value_texts names (take i sorts) values ≡ Some (take i texts) → value_text names (get_or sorts i s) v ≡ Some (get_or texts i t) → value_texts names (take (i + 1) sorts) (values ++ v ∷ []) ≡ Some (take (i + 1) texts)
value_texts_more names sorts texts values i s v t h k e f =
    ap (λ ss. value_texts names ss (values ++ v ∷ [])) (take_more sorts i s h)
    ∙ value_texts-push names (take i sorts) values (take i texts) (get_or sorts i s) v (get_or texts i t) e f
    ∙ ap Some (sym (take_more texts i t k))

pub bad_value_at : (names : Lexicon) (sorts : List Sort) (texts : List (List ℕ)) (i : ℕ) (s : Sort) (t : List ℕ) → i < length sorts → i < length texts → ¬ IsValueText names (get_or sorts i s) (get_or texts i t) → HasBadValue names sorts texts
bad_value_at names [] texts i s t h k bad = omega (arith, h)
bad_value_at names (r ∷ sorts) [] i s t h k bad = omega (arith, k)
bad_value_at names (r ∷ sorts) (x ∷ texts) zero s t h k bad = inl bad
bad_value_at names (r ∷ sorts) (x ∷ texts) (suc i) s t h k bad = inr (bad_value_at names sorts texts i s t (omega (arith, h)) (omega (arith, k)) bad)

-- texts of values are no bad values
pub no_bad_value : (names : Lexicon) (sorts : List Sort) (values : List Value) (texts : List (List ℕ)) → AllByRecursion ValueFits values → value_texts names sorts values ≡ Some texts → ¬ HasBadValue names sorts texts
no_bad_value names [] values texts fits e bad = bad
no_bad_value names (s ∷ sorts) [] texts fits e bad = none-some texts e
no_bad_value names (s ∷ sorts) (v ∷ values) texts fits e bad =
    let p = texts_of_cons names s sorts v values texts e in
    let at = subst (HasBadValue names (s ∷ sorts)) p.is bad in
    elim at [ inl h ↦ h (v, fits.0, p.of_first) | inr h ↦ no_bad_value names sorts values p.rest fits.1 p.of_rest h ]
