-- The texts of values, as they are appended to a line.
use Rattle.std.proofs.Common.{◌≡◌, ℕ, zero, suc, ◌+◌, ◌<◌, List, [], ◌∷◌, ◌++◌, length, get_or, map, take, Option, Some, None, refl, sym, ap, ◌∙◌, subst, IsSome, IfSome, unwrap_or, arith, append-nil, append_assoc}
use Rattle.std.specs.List.{join_with_byte}
use Rattle.std.proofs.lemmas.List.{take_more}
use Rattle.std.proofs.lemmas.Option.{none-some}
use Rattle.std.proofs.lemmas.Bool.{false≢true}
use Rattle.sdl_signal.specs.declared.values.Sort.{Sort}
use Rattle.sdl_signal.specs.declared.values.Sort.TheVariants as sort
use Rattle.sdl_signal.specs.declared.values.Value.{Value}
use Rattle.sdl_signal.specs.declared.values.Value.TheVariants as value
use Rattle.sdl_signal.specs.Names.{Lexicon}
use Rattle.sdl_signal.specs.Line.{space, value_text, value_texts}
use Rattle.sdl_signal.specs.Sorts.{sort_of}
use Rattle.sdl_signal.specs.Writing.{spaced}
use Rattle.sdl_signal.proofs.ValueTexts.{texts_of_cons}
use Rattle.sdl_signal.proofs.LineText.{spaced-append, join-spaced}

pub some_of : {A : Type 0} (o : Option A) (d : A) → IsSome o → o ≡ Some (unwrap_or o d)
some_of None d h = absurd (false≢true h)
some_of (Some x) d h = refl

pub is_some_of : {A : Type 0} (o : Option A) (x : A) → o ≡ Some x → IsSome o
is_some_of o x e = subst IsSome (sym e) refl

pub if_some_at : {A : Type 0} (P : A → Type 0) (o : Option A) (x : A) → o ≡ Some x → IfSome o P → P x
if_some_at P o x e h = subst (λ r. IfSome r P) e h

pub if_some_from : {A : Type 0} (P : A → Type 0) (o : Option A) (x : A) → o ≡ Some x → P x → IfSome o P
if_some_from P o x e h = subst (λ r. IfSome r P) (sym e) h

pub value_text_at : (names : Lexicon) (vs : List Value) (ts : List (List ℕ)) (i : ℕ) (d : Value) → value_texts names (map sort_of vs) vs ≡ Some ts → i < length vs → value_text names (sort_of (get_or vs i d)) (get_or vs i d) ≡ Some (get_or ts i [])
value_text_at names [] ts i d e lt = absurd (omega (arith, lt))
value_text_at names (v ∷ vs) ts zero d e lt =
    let p = texts_of_cons names (sort_of v) (map sort_of vs) v vs ts e in
    p.of_first ∙ ap (λ l. Some (get_or l 0 [])) (sym p.is)
value_text_at names (v ∷ vs) ts (suc i) d e lt =
    let p = texts_of_cons names (sort_of v) (map sort_of vs) v vs ts e in
    value_text_at names vs p.rest i d p.of_rest (omega (arith, lt)) ∙ ap (λ l. Some (get_or l (suc i) [])) (sym p.is)

pub spaced_more : (ts : List (List ℕ)) (i : ℕ) → i < length ts → spaced (take (i + 1) ts) ≡ spaced (take i ts) ++ space ∷ get_or ts i []
spaced_more ts i lt =
    ap spaced (take_more ts i [] lt)
    ∙ spaced-append (take i ts) (get_or ts i [] ∷ [])
    ∙ ap (λ r. spaced (take i ts) ++ space ∷ r) (append-nil (get_or ts i []))

-- one more value, with a space before it
pub appended_more : (start old one new t : List ℕ) (ts : List (List ℕ)) (i : ℕ) → i < length ts → t ≡ get_or ts i [] → old ≡ start ++ spaced (take i ts) → one ≡ old ++ space ∷ [] → new ≡ one ++ t → new ≡ start ++ spaced (take (i + 1) ts)
appended_more start old one new t ts i lt te e f g =
    g ∙ ap (λ o. o ++ t) (f ∙ ap (λ o. o ++ space ∷ []) e)
    ∙ ap (λ x. ((start ++ spaced (take i ts)) ++ space ∷ []) ++ x) te
    ∙ append_assoc (start ++ spaced (take i ts)) (space ∷ []) (get_or ts i [])
    ∙ append_assoc start (spaced (take i ts)) (space ∷ get_or ts i [])
    ∙ ap (λ r. start ++ r) (sym (spaced_more ts i lt))

sort_is : (names : Lexicon) (s : Sort) (v : Value) (t : List ℕ) → value_text names s v ≡ Some t → sort_of v ≡ s
sort_is names sort.Integer (value.Integer n) t e = refl
sort_is names sort.Boolean (value.Boolean b) t e = refl
sort_is names sort.Pid (value.Pid p) t e = refl
sort_is names _ _ t e = absurd (none-some t e)

pub sorts_are : (names : Lexicon) (sorts : List Sort) (vs : List Value) (ts : List (List ℕ)) → value_texts names sorts vs ≡ Some ts → map sort_of vs ≡ sorts
sorts_are names [] [] ts e = refl
sorts_are names [] (v ∷ vs) ts e = absurd (none-some ts e)
sorts_are names (s ∷ sorts) [] ts e = absurd (none-some ts e)
sorts_are names (s ∷ sorts) (v ∷ vs) ts e =
    let p = texts_of_cons names s sorts v vs ts e in
    ap (λ x. x ∷ map sort_of vs) (sort_is names s v p.first p.of_first) ∙ ap (λ xs. s ∷ xs) (sorts_are names sorts vs p.rest p.of_rest)

-- a line, appended part by part, is the text of its fields
pub line_joined : (none a b c new g h n m : List ℕ) (vs : List (List ℕ)) → g ≡ h → n ≡ m → none ≡ [] → a ≡ none ++ h → b ≡ a ++ space ∷ [] → c ≡ b ++ m → new ≡ c ++ spaced vs → join_with_byte space (g ∷ n ∷ vs ++ []) ≡ new
line_joined none a b c new g h n m vs ge ne z ae be ce e =
    let whole : new ≡ h ++ (space ∷ (m ++ spaced vs)) =
    e ∙ ap (λ r. r ++ spaced vs) (ce ∙ ap (λ r. r ++ m) (be ∙ ap (λ r. r ++ space ∷ []) (ae ∙ ap (λ r. r ++ h) z)))
    ∙ append_assoc (h ++ space ∷ []) m (spaced vs)
    ∙ append_assoc h (space ∷ []) (m ++ spaced vs) in
    join-spaced g (n ∷ vs ++ [])
    ∙ ap (λ ws. g ++ (space ∷ (n ++ spaced ws))) (append-nil vs)
    ∙ ap (λ x. x ++ (space ∷ (n ++ spaced vs))) ge
    ∙ ap (λ x. h ++ (space ∷ (x ++ spaced vs))) ne
    ∙ sym whole
