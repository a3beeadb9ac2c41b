-- The constants of a file and the variables of a behaviour, one by one.
use Rattle.std.proofs.Common.{◌≡◌, ℕ, ◌+◌, ◌<◌, ◌≤◌, List, [], ◌∷◌, ◌++◌, length, take, get_or, map, sym, subst, ◌∙◌, append-nil, append_assoc}
use Rattle.toml.specs.declared.value.Value.{Value}
use Rattle.sdl_structure_parts.specs.Structure.{Structure}
use Rattle.sdl_listing_expression_text.specs.declared.setting.Constant.{Constant}
use Rattle.sdl_listing_expression_text.specs.declared.setting.Variable.{Variable}
use Rattle.sdl_listing_body_text.specs.Rows.{IsText}
use Rattle.sdl_listing_body_text.specs.Declarations.{IsConstant, IsVariable}
use Rattle.sdl_listing_file.specs.Tables.{text_of}
use Rattle.sdl_listing_file.specs.File.{AreConstants, AreVariables}
use Rattle.sdl_listing_file.proofs.ListLemmas.{take_map_more, take_map_all}

constant_more : (s : Structure) (before : List Constant) (texts : List (List ℕ)) (cs : List Constant) (text : List ℕ) (c : Constant) → AreConstants s before texts cs
    → IsText (IsConstant s (before ++ cs) c) text → AreConstants s before (texts ++ text ∷ []) (cs ++ c ∷ [])
constant_more s before [] [] text c h p = (subst (λ l. IsText (IsConstant s l c) text) (append-nil before) p, tt)
constant_more s before [] (d ∷ cs) text c h p = absurd h
constant_more s before (t ∷ texts) [] text c h p = absurd h
constant_more s before (t ∷ texts) (d ∷ cs) text c (first, more) p =
    let behind : before ++ (d ∷ cs) ≡ (before ++ d ∷ []) ++ cs = sym (append_assoc before (d ∷ []) cs) in
    (first, constant_more s (before ++ d ∷ []) texts cs text c more (subst (λ l. IsText (IsConstant s l c) text) behind p))

pub constants_more : (s : Structure) (vs : List Value) (i : ℕ) (v : Value) (text : List ℕ) (cs : List Constant) (c : Constant) → i < length vs → v ≡ get_or vs i v → text ≡ text_of v
    → AreConstants s [] (take i (map text_of vs)) cs → IsText (IsConstant s cs c) text → AreConstants s [] (take (i + 1) (map text_of vs)) (cs ++ c ∷ [])
constants_more s vs i v text cs c h is read are more =
    let next : IsText (IsConstant s cs c) (text_of v) = subst (λ t. IsText (IsConstant s cs c) t) read more in
    subst (λ l. AreConstants s [] l (cs ++ c ∷ [])) (sym (take_map_more text_of vs i v h is)) (constant_more s [] (take i (map text_of vs)) cs (text_of v) c are next)

pub constants_all : (s : Structure) (vs : List Value) (i : ℕ) (texts : List (List ℕ)) (cs : List Constant) → texts ≡ map text_of vs → length vs ≤ i → AreConstants s [] (take i (map text_of vs)) cs → AreConstants s [] texts cs
constants_all s vs i texts cs held past are = subst (λ l. AreConstants s [] l cs) (take_map_all text_of vs i past ∙ sym held) are

variable_more : (s : Structure) (constants : List Constant) (before : List Variable) (texts : List (List ℕ)) (xs : List Variable) (text : List ℕ) (x : Variable)
    → AreVariables s constants before texts xs → IsText (IsVariable s constants (before ++ xs) x) text → AreVariables s constants before (texts ++ text ∷ []) (xs ++ x ∷ [])
variable_more s constants before [] [] text x h p = (subst (λ l. IsText (IsVariable s constants l x) text) (append-nil before) p, tt)
variable_more s constants before [] (y ∷ xs) text x h p = absurd h
variable_more s constants before (t ∷ texts) [] text x h p = absurd h
variable_more s constants before (t ∷ texts) (y ∷ xs) text x (first, more) p =
    let behind : before ++ (y ∷ xs) ≡ (before ++ y ∷ []) ++ xs = sym (append_assoc before (y ∷ []) xs) in
    (first, variable_more s constants (before ++ y ∷ []) texts xs text x more (subst (λ l. IsText (IsVariable s constants l x) text) behind p))

pub variables_more : (s : Structure) (constants : List Constant) (vs : List Value) (i : ℕ) (v : Value) (text : List ℕ) (xs : List Variable) (x : Variable) → i < length vs → v ≡ get_or vs i v → text ≡ text_of v
    → AreVariables s constants [] (take i (map text_of vs)) xs → IsText (IsVariable s constants xs x) text → AreVariables s constants [] (take (i + 1) (map text_of vs)) (xs ++ x ∷ [])
variables_more s constants vs i v text xs x h is read are more =
    let next : IsText (IsVariable s constants xs x) (text_of v) = subst (λ t. IsText (IsVariable s constants xs x) t) read more in
    subst (λ l. AreVariables s constants [] l (xs ++ x ∷ [])) (sym (take_map_more text_of vs i v h is)) (variable_more s constants [] (take i (map text_of vs)) xs (text_of v) x are next)

pub variables_all : (s : Structure) (constants : List Constant) (vs : List Value) (i : ℕ) (texts : List (List ℕ)) (xs : List Variable) → texts ≡ map text_of vs → length vs ≤ i
    → AreVariables s constants [] (take i (map text_of vs)) xs → AreVariables s constants [] texts xs
variables_all s constants vs i texts xs held past are = subst (λ l. AreVariables s constants [] l xs) (take_map_all text_of vs i past ∙ sym held) are
