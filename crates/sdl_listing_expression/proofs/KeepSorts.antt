-- The value of an expression that has its sorts is of its sort, and each Pid in it can be one.
use Rattle.std.proofs.Common.{◌≡◌, refl, ℕ, zero, suc, ◌<◌, ◌^◌, Bool, true, false, ◌&&◌, nat_lt, if◌then◌else◌, ℤ, pos, negsuc, List, [], ◌∷◌, All, Option, Some, None, slice_get, arith}
use Rattle.std.proofs.lemmas.List.Elements.{All-head, All-tail}
use Rattle.sdl_signal.specs.declared.ids.SetId.{SetId}
use Rattle.sdl_signal.specs.declared.values.Sort.{Sort}
use Rattle.sdl_signal.specs.declared.values.Sort.TheVariants as sort
use Rattle.sdl_signal.specs.declared.values.Pid.{Pid}
use Rattle.sdl_signal.specs.declared.values.Pid.TheVariants as pid
use Rattle.sdl_signal.specs.declared.values.Value.{Value}
use Rattle.sdl_signal.specs.declared.values.Value.TheVariants as value
use Rattle.sdl_signal.specs.Sorts.{sort_of}
use Rattle.sdl_transition_behaviour.specs.Offers.{IsLegalPid, IsLegalValue}
use Rattle.sdl_listing_expression.specs.declared.syntax.Word.{Word}
use Rattle.sdl_listing_expression.specs.declared.syntax.Word.TheVariants.{SelfPid, Parent, Offspring, Sender}
use Rattle.sdl_listing_expression.specs.declared.syntax.Operator.{Operator}
use Rattle.sdl_listing_expression.specs.declared.syntax.Operator.TheVariants.{Add, Subtract, Multiply, Divide, Modulo, Remainder, Equal, Differs, Less, AtMost, And, Or, Xor}
use Rattle.sdl_listing_expression.specs.declared.syntax.Expr.{Expr, Integer, Boolean, Null, Env, Own, Parameter, Variable, Negated', Not', Serial', Instance', Two', Choice'}
use Rattle.sdl_listing_expression.specs.Scene.{Scene, parameters, own_of, boolean_in, seen_as, of_sort, instance_at, integer_in}
use Rattle.sdl_listing_expression.specs.Values.{apply, evaluate}
use Rattle.sdl_listing_expression.specs.Sorted.{Scope, sort_made, sort_in, IsSorted, IsLegalScene}

sort_seen : (s : Sort) (v : Value) → sort_of (seen_as s v) ≡ s
sort_seen sort.Integer v = refl
sort_seen sort.Boolean v = refl
sort_seen sort.Pid v = refl

sort_of_place : (s : Sort) (o : Option Value) → sort_of (of_sort s o) ≡ s
sort_of_place s None = sort_seen s (value.Pid pid.Null)
sort_of_place s (Some v) = sort_seen s v

sort_applied : (op : Operator) (a b : Value) → sort_of (apply op a b) ≡ sort_made op
sort_applied Add a b = refl
sort_applied Subtract a b = refl
sort_applied Multiply a b = refl
sort_applied Divide a b = refl
sort_applied Modulo a b = refl
sort_applied Remainder a b = refl
sort_applied Equal a b = refl
sort_applied Differs a b = refl
sort_applied Less a b = refl
sort_applied AtMost a b = refl
sort_applied And a b = refl
sort_applied Or a b = refl
sort_applied Xor a b = refl

either : (P : Value → Type 0) (c : Bool) (v w : Value) → P v → P w → P (if c then v else w)
either P true v w p q = p
either P false v w p q = q

pub value_sorted : (scope : Scope) (s : Scene) (e : Expr) → IsSorted scope e → sort_of (evaluate s e) ≡ sort_in e
value_sorted scope s (Integer n) h = refl
value_sorted scope s (Boolean b) h = refl
value_sorted scope s Null h = refl
value_sorted scope s Env h = refl
value_sorted scope s (Own word) h = refl
value_sorted scope s (Parameter k t) h = sort_of_place t (slice_get (parameters s.frame) k)
value_sorted scope s (Variable k t) h = sort_of_place t (slice_get s.vars k)
value_sorted scope s (Negated' _ a) h = refl
value_sorted scope s (Not' _ a) h = refl
value_sorted scope s (Serial' _ a) h = refl
value_sorted scope s (Instance' set _ a) h = refl
value_sorted scope s (Two' op _ a _ b) h = sort_applied op (evaluate s a) (evaluate s b)
value_sorted scope s (Choice' _ c _ a _ b) h =
    let first : sort_of (evaluate s a) ≡ sort_in a = value_sorted scope s a h.1 in
    let second : sort_of (evaluate s b) ≡ sort_in b = value_sorted scope s b h.2 in
    let same : sort_in a ≡ sort_in b = h.4 in
    either (λ v. sort_of v ≡ sort_in a) (boolean_in (evaluate s c)) (evaluate s a) (evaluate s b) first (cc)

legal_seen : (sets : ℕ) (s : Sort) (v : Value) → IsLegalValue sets v → IsLegalValue sets (seen_as s v)
legal_seen sets sort.Integer v h = tt
legal_seen sets sort.Boolean v h = tt
legal_seen sets sort.Pid (value.Integer _) h = tt
legal_seen sets sort.Pid (value.Boolean _) h = tt
legal_seen sets sort.Pid (value.Pid p) h = h

legal_place : (sets : ℕ) (s : Sort) (vs : List Value) (k : ℕ) → All (IsLegalValue sets) vs → IsLegalValue sets (of_sort s (slice_get vs k))
legal_place sets s [] k h = legal_seen sets s (value.Pid pid.Null) tt
legal_place sets s (v ∷ vs) zero h = legal_seen sets s v (All-head (IsLegalValue sets) v vs h)
legal_place sets s (v ∷ vs) (suc k) h = legal_place sets s vs k (All-tail (IsLegalValue sets) v vs h)

legal_own : (sets : ℕ) (s : Scene) (word : Word) → IsLegalScene sets s → IsLegalPid sets (own_of s.frame word)
legal_own sets s SelfPid h = h.self_pid
legal_own sets s Parent h = h.parent
legal_own sets s Offspring h = h.offspring
legal_own sets s Sender h = h.sender

either_pid : (sets : ℕ) (c : Bool) (p q : Pid) → IsLegalPid sets p → IsLegalPid sets q → IsLegalPid sets (if c then p else q)
either_pid sets true p q l m = l
either_pid sets false p q l m = m

legal_instance : (sets : ℕ) (set : SetId) (n : ℤ) → set.0 < sets → IsLegalPid sets (instance_at set n)
legal_instance sets set (pos zero) h = tt
legal_instance sets set (pos (suc n)) h =
    either_pid sets (nat_lt 0 (suc n) && nat_lt (suc n) (2 ^ 32)) (pid.Inst set (suc n)) pid.Null (h, omega arith) tt
legal_instance sets set (negsuc n) h = tt

legal_applied : (sets : ℕ) (op : Operator) (a b : Value) → IsLegalValue sets (apply op a b)
legal_applied sets Add a b = tt
legal_applied sets Subtract a b = tt
legal_applied sets Multiply a b = tt
legal_applied sets Divide a b = tt
legal_applied sets Modulo a b = tt
legal_applied sets Remainder a b = tt
legal_applied sets Equal a b = tt
legal_applied sets Differs a b = tt
legal_applied sets Less a b = tt
legal_applied sets AtMost a b = tt
legal_applied sets And a b = tt
legal_applied sets Or a b = tt
legal_applied sets Xor a b = tt

pub value_legal : (scope : Scope) (s : Scene) (e : Expr) → IsLegalScene scope.sets s → IsSorted scope e → IsLegalValue scope.sets (evaluate s e)
value_legal scope s (Integer n) l h = tt
value_legal scope s (Boolean b) l h = tt
value_legal scope s Null l h = tt
value_legal scope s Env l h = tt
value_legal scope s (Own word) l h = legal_own scope.sets s word l
value_legal scope s (Parameter k t) l h = legal_place scope.sets t (parameters s.frame) k l.params
value_legal scope s (Variable k t) l h = legal_place scope.sets t s.vars k l.vars
value_legal scope s (Negated' _ a) l h = tt
value_legal scope s (Not' _ a) l h = tt
value_legal scope s (Serial' _ a) l h = tt
value_legal scope s (Instance' set _ a) l h = legal_instance scope.sets set (integer_in (evaluate s a)) h.0
value_legal scope s (Two' op _ a _ b) l h = legal_applied scope.sets op (evaluate s a) (evaluate s b)
value_legal scope s (Choice' _ c _ a _ b) l h =
    either (IsLegalValue scope.sets) (boolean_in (evaluate s c)) (evaluate s a) (evaluate s b) (value_legal scope s a l h.1) (value_legal scope s b l h.2)
