-- The entries of a map by their places, and the code's test of two Pids, which is equality.
use Rattle.std.proofs.Common.{◌≡◌, ℕ, zero, suc, ◌<◌, Bool, true, false, List, [], ◌∷◌, ◌++◌, All, Option, Some, refl, ap, sym, ◌∙◌, true≢false, is_some, unwrap_or, length, get_or, slice_get, slice_set, if◌then◌else◌, arith}
use Rattle.std.proofs.lemmas.Bool.{eqb-true, eq-eqb, and_parts, and_from}
use Rattle.std.specs.List.{AllByRecursion}
use Rattle.std.proofs.lemmas.List.Elements.{All-weaker, recursion_from_All}
use Rattle.indexmap.specs.IndexMap.{insert_entry}
use Rattle.indexmap.specs.Layout.{set_value_at}
use Rattle.sdl_signal.specs.declared.values.Pid.{Pid}
use Rattle.sdl_signal.specs.declared.values.Pid.TheVariants as pid
use Rattle.sdl_signal.specs.contracts.values.PidPartialEq.TheImpl as test
use Rattle.sdl_instances_processes.specs.Record.{Record}

module _ {K X : Type 0} where
  -- a written value is a written entry
  pub set_value_at-is : (es : List (K × X)) (i : ℕ) (p : K × X) (w : X) → slice_get es i ≡ Some p → set_value_at es i w ≡ slice_set es i (p.0, w)
  set_value_at-is [] i p w h = absurd (true≢false (sym (ap is_some h)))
  set_value_at-is (e ∷ es) zero p w h = ap (λ o. ((unwrap_or o p).0, w) ∷ es) h
  set_value_at-is (e ∷ es) (suc i) p w h = ap (λ l. e ∷ l) (set_value_at-is es i p w h)

  -- the same value written again changes nothing
  pub set_value_at-same : (es : List (K × X)) (i : ℕ) (p : K × X) → slice_get es i ≡ Some p → set_value_at es i p.1 ≡ es
  set_value_at-same [] i p h = refl
  set_value_at-same (e ∷ es) zero p h = ap (λ o. (e.0, (unwrap_or o p).1) ∷ es) (sym h)
  set_value_at-same (e ∷ es) (suc i) p h = ap (λ l. e ∷ l) (set_value_at-same es i p h)

-- two readings of one place agree
pub value_same : (es : List (Pid × Record)) (place : ℕ) (k p : Pid) (v r : Record) → slice_get es place ≡ Some (k, v) → slice_get es place ≡ Some (p, r) → v ≡ r
value_same es place k p v r is at = ap (λ (o : Option (Pid × Record)). (unwrap_or o (p, r)).1) (sym is ∙ at)

-- inside a list what stands for no element doesn't matter
pub get_any : (xs : List ℕ) (k a b : ℕ) → k < length xs → get_or xs k a ≡ get_or xs k b
get_any [] k a b h = absurd (omega (arith, h))
get_any (x ∷ xs) zero a b h = refl
get_any (x ∷ xs) (suc k) a b h = get_any xs k a b (omega (arith, h))

abbrev pub same : Pid → Pid → Bool
same p q = test.eq-value.it p q

pub same-self : (p : Pid) → same p p ≡ true
same-self pid.Null = refl
same-self pid.Env = refl
same-self (pid.Inst s n) = and_from _ _ (eq-eqb s.0 s.0 refl) (eq-eqb n n refl)

pub same-is : (p q : Pid) → same p q ≡ true → p ≡ q
same-is pid.Null pid.Null h = refl
same-is pid.Env pid.Env h = refl
same-is pid.Null pid.Env h = absurd (true≢false (sym h))
same-is pid.Env pid.Null h = absurd (true≢false (sym h))
same-is pid.Null (pid.Inst s n) h = absurd (true≢false (sym h))
same-is pid.Env (pid.Inst s n) h = absurd (true≢false (sym h))
same-is (pid.Inst s n) pid.Null h = absurd (true≢false (sym h))
same-is (pid.Inst s n) pid.Env h = absurd (true≢false (sym h))
same-is (pid.Inst s n) (pid.Inst t m) h =
    let parts = and_parts _ _ h in
    ap (λ k. pid.Inst (record { 0 = k }) n) (eqb-true s.0 t.0 parts.0) ∙ ap (λ k. pid.Inst t k) (eqb-true n m parts.1)

-- an entry with a new key goes last
pub insert_new : (es : List (Pid × Record)) (p : Pid) (r : Record) → AllByRecursion (λ e. same p e.0 ≡ false) es → insert_entry same es p r ≡ es ++ (p, r) ∷ []
insert_new [] p r h = refl
insert_new (e ∷ es) p r h =
    ap (λ b. if b then (e.0, r) ∷ es else e ∷ insert_entry same es p r) h.0 ∙ ap (λ l. e ∷ l) (insert_new es p r h.1)

-- an entry with a Pid that none has goes last
not_same : (p q : Pid) (b : Bool) → same p q ≡ b → (p ≡ q → ⊥) → b ≡ false
not_same p q false is never = refl
not_same p q true is never = absurd (never (same-is p q is))

pub insert_last : (es : List (Pid × Record)) (p : Pid) (r : Record) → All (λ (e : Pid × Record). p ≡ e.0 → ⊥) es → insert_entry same es p r ≡ es ++ (p, r) ∷ []
insert_last es p r h =
    let test : Pid × Record → Type 0 = λ e. same p e.0 ≡ false in
    insert_new es p r (recursion_from_All test es (All-weaker (λ (e : Pid × Record). p ≡ e.0 → ⊥) test (λ e never. not_same p e.0 (same p e.0) refl never) es h))

-- a record that is written through the map is written at its place
pub wrote : (es all : List (Pid × Record)) (place : ℕ) (k p : Pid) (v r w t : Record) → es ≡ all → slice_get es place ≡ Some (k, v) → slice_get all place ≡ Some (p, r) → (v ≡ r → w ≡ t)
    → set_value_at es place w ≡ slice_set all place (p, t)
wrote es all place k p v r w t is found at so =
    let there : slice_get es place ≡ Some (p, r) = ap (λ (l : List (Pid × Record)). slice_get l place) is ∙ at in
    set_value_at-is es place (p, r) w there
    ∙ ap (λ (l : List (Pid × Record)). slice_set l place (p, w)) is
    ∙ ap (λ (x : Record). slice_set all place (p, x)) (so (value_same es place k p v r found there))
