-- The order in which the walk enters blocks, and that in which it leaves them.
use Rattle.std.proofs.Common.{◌≡◌, ℕ, zero, suc, ◌+◌, ◌-◌, ◌<◌, ◌≤◌, ◌==◌, Bool, not, true, false, List, [], ◌∷◌, ◌++◌, map, take, length, Some, slice_get, IsSomeAnd, refl, ap, sym, subst, ◌∙◌, ◌⊎◌, inl, inr, eq-eqb, eqb-true, arith}
use Rattle.std.specs.List.{AllByRecursion, before_first, prefix_len}
use Rattle.std.proofs.lemmas.Bool.{cases_lt, cases_eq}
use Rattle.std.proofs.lemmas.List.{append_assoc, length-append, length-map, map-append, take-append-le}
use Rattle.std.proofs.Math.Seq.{take-append-add}
use Rattle.toml.specs.Data.{Members}
use Rattle.sdl_structure_parts.specs.declared.parts.Scope.{Scope}
use Rattle.sdl_structure_parts.specs.declared.parts.Scope.TheVariants as scope
use Rattle.sdl_structure_tables.specs.declared.version.Version.{Version}
use Rattle.sdl_structure_tables.specs.declared.place.Key.{Key}
use Rattle.sdl_structure_tables.specs.Tables.{total}
use Rattle.sdl_structure_tables.specs.Blocks.{BlockTable, inner_tables, listed_in, blocks_from, leaving_from}
use Rattle.sdl_structure.specs.Drafts.{tables_of}

-- the list stands in all, after the first n
pub record StandsAt {A : Type 0} (all : List A) (n : ℕ) (xs : List A) : Type 0 where
  pub before : List A
  pub after : List A
  pub is : all ≡ before ++ (xs ++ after)
  pub long : length before ≡ n

pub get_behind : {A : Type 0} (bs : List A) (x : A) (rest : List A) → slice_get (bs ++ x ∷ rest) (length bs) ≡ Some x
get_behind [] x rest = refl
get_behind (b ∷ bs) x rest = get_behind bs x rest

pub stands_first : {A : Type 0} (all : List A) (n : ℕ) (x : A) (xs : List A) → StandsAt all n (x ∷ xs) → slice_get all n ≡ Some x
stands_first all n x xs s =
    ap (λ ys. slice_get ys n) s.is ∙ (ap (λ k. slice_get (s.before ++ x ∷ (xs ++ s.after)) k) (sym s.long) ∙ get_behind s.before x (xs ++ s.after))

pub stands_left : {A : Type 0} (all : List A) (n : ℕ) (xs ys : List A) → StandsAt all n (xs ++ ys) → StandsAt all n xs
stands_left all n xs ys s = record {
  before = s.before;
  after = ys ++ s.after;
  is = s.is ∙ ap (λ zs. s.before ++ zs) (append_assoc xs ys s.after);
  long = s.long;
}

pub stands_right : {A : Type 0} (all : List A) (n : ℕ) (xs ys : List A) → StandsAt all n (xs ++ ys) → StandsAt all (n + length xs) ys
stands_right all n xs ys s = record {
  before = s.before ++ xs;
  after = s.after;
  is = s.is ∙ (ap (λ zs. s.before ++ zs) (append_assoc xs ys s.after) ∙ sym (append_assoc s.before xs (ys ++ s.after)));
  long = length-append s.before xs ∙ ap (λ k. k + length xs) s.long;
}

pub stands_rest : {A : Type 0} (all : List A) (n : ℕ) (x : A) (xs : List A) → StandsAt all n (x ∷ xs) → StandsAt all (n + 1) xs
stands_rest all n x xs s = stands_right all n (x ∷ []) xs s

nil_behind : {A : Type 0} (xs : List A) → xs ++ [] ≡ xs
nil_behind [] = refl
nil_behind (x ∷ xs) = ap (λ ys. x ∷ ys) (nil_behind xs)

pub stands_whole : {A : Type 0} (all : List A) → StandsAt all 0 all
stands_whole all = record { before = []; after = []; is = sym (nil_behind all); long = refl }

pub all_append : {A : Type 0} (P : A → Type 0) (xs ys : List A) → AllByRecursion P xs → AllByRecursion P ys → AllByRecursion P (xs ++ ys)
all_append P [] ys h k = k
all_append P (x ∷ xs) ys h k = (h.0, all_append P xs ys h.1 k)

pub all_weaker : {A : Type 0} (P Q : A → Type 0) (xs : List A) → ((x : A) → P x → Q x) → AllByRecursion P xs → AllByRecursion Q xs
all_weaker P Q [] f h = tt
all_weaker P Q (x ∷ xs) f h = (f x h.0, all_weaker P Q xs f h.1)

pub all_left : {A : Type 0} (P : A → Type 0) (xs ys : List A) → AllByRecursion P (xs ++ ys) → AllByRecursion P xs
all_left P [] ys h = tt
all_left P (x ∷ xs) ys h = (h.0, all_left P xs ys h.1)

pub all_right : {A : Type 0} (P : A → Type 0) (xs ys : List A) → AllByRecursion P (xs ++ ys) → AllByRecursion P ys
all_right P [] ys h = h
all_right P (x ∷ xs) ys h = all_right P xs ys h.1

-- the scope of the block of this number
abbrev pub within : ℕ → Scope
within n = scope.Block (record { 0 = n })

-- how deep what lies in the scope lies
abbrev pub IsDepthAmong : List BlockTable → Scope → ℕ → Type 0
IsDepthAmong all scope.System depth = depth ≡ 1
IsDepthAmong all (scope.Block b) depth = IsSomeAnd (slice_get all b.0) (λ around. depth ≡ around.depth + 1)

abbrev pub LiesAmong : List BlockTable → BlockTable → Type 0
LiesAmong all x = IsDepthAmong all x.scope x.depth × (x.depth ≤ 4)

-- the table stands in the list of the scope, or in that of a block that was entered before
abbrev pub IsListed : Version → List BlockTable → Scope → List Members → BlockTable → Type 0
IsListed v all at ts x =
    ((x.scope ≡ at) × (i : ℕ) × (slice_get ts i ≡ Some x.table))
    ⊎ ((b : ℕ) × (y : BlockTable) × (i : ℕ) × (x.scope ≡ within b) × (slice_get all b ≡ Some y) × (slice_get (inner_tables v y.table) i ≡ Some x.table))

-- how many are entered says nothing of where they lie
pub from-length : (v : Version) (levels : ℕ) (at bt : Scope) (d e n m : ℕ) (ts : List Members) → length (blocks_from v levels at d n ts) ≡ length (blocks_from v levels bt e m ts)
from-length v zero at bt d e n m ts = refl
from-length v (suc levels) at bt d e n m [] = refl
from-length v (suc levels) at bt d e n m (t ∷ ts) =
    let B = blocks_from v levels (within n) (d + 1) (n + 1) (inner_tables v t) in
    let C = blocks_from v levels (within m) (e + 1) (m + 1) (inner_tables v t) in
    let a = length-append B (blocks_from v (suc levels) at d (n + 1 + length B) ts) in
    let b = length-append C (blocks_from v (suc levels) bt e (m + 1 + length C) ts) in
    let c = from-length v levels (within n) (within m) (d + 1) (e + 1) (n + 1) (m + 1) (inner_tables v t) in
    let f = from-length v (suc levels) at bt d e (n + 1 + length B) (m + 1 + length C) ts in
    omega (arith, a, b, c, f)

-- more blocks of a list are entered after all of those before them
pub from-append : (v : Version) (levels : ℕ) (at : Scope) (d n : ℕ) (xs ys : List Members)
    → blocks_from v levels at d n (xs ++ ys) ≡ blocks_from v levels at d n xs ++ blocks_from v levels at d (n + length (blocks_from v levels at d n xs)) ys
from-append v zero at d n xs ys = refl
from-append v (suc levels) at d n [] ys = ap (λ k. blocks_from v (suc levels) at d k ys) (omega arith)
from-append v (suc levels) at d n (t ∷ ts) ys =
    let p : BlockTable = record { scope = at; depth = d; table = t } in
    let B = blocks_from v levels (within n) (d + 1) (n + 1) (inner_tables v t) in
    let m : ℕ = n + 1 + length B in
    let R = blocks_from v (suc levels) at d m ts in
    let a = length-append B R in
    let k : m + length R ≡ n + length (p ∷ (B ++ R)) = omega (arith, a) in
    ap (λ zs. p ∷ (B ++ zs)) (from-append v (suc levels) at d m ts ys)
    ∙ (ap (λ zs. p ∷ zs) (sym (append_assoc B R (blocks_from v (suc levels) at d (m + length R) ys)))
    ∙ ap (λ j. p ∷ ((B ++ R) ++ blocks_from v (suc levels) at d j ys)) k)

-- more blocks of a list are left after all of those before them
pub leaving-append : (v : Version) (levels n : ℕ) (xs ys : List Members)
    → leaving_from v levels n (xs ++ ys) ≡ leaving_from v levels n xs ++ leaving_from v levels (n + length (blocks_from v levels scope.System 0 0 xs)) ys
leaving-append v zero n xs ys = refl
leaving-append v (suc levels) n [] ys = ap (λ k. leaving_from v (suc levels) k ys) (omega arith)
leaving-append v (suc levels) n (t ∷ ts) ys =
    let B = blocks_from v levels scope.System 0 0 (inner_tables v t) in
    let C = blocks_from v levels (within 0) 1 1 (inner_tables v t) in
    let S = blocks_from v (suc levels) scope.System 0 (0 + 1 + length C) ts in
    let L = leaving_from v levels (n + 1) (inner_tables v t) in
    let m : ℕ = n + 1 + length B in
    let a = from-length v levels (within 0) scope.System 1 0 1 0 (inner_tables v t) in
    let b = from-length v (suc levels) scope.System scope.System 0 0 (0 + 1 + length C) 0 ts in
    let c = length-append C S in
    let k : m + length (blocks_from v (suc levels) scope.System 0 0 ts) ≡ n + suc (length (C ++ S)) = omega (arith, a, b, c) in
    ap (λ zs. L ++ (n, t) ∷ zs) (leaving-append v (suc levels) m ts ys)
    ∙ (sym (append_assoc L ((n, t) ∷ leaving_from v (suc levels) m ts) (leaving_from v (suc levels) (m + length (blocks_from v (suc levels) scope.System 0 0 ts)) ys))
    ∙ ap (λ j. (L ++ (n, t) ∷ leaving_from v (suc levels) m ts) ++ leaving_from v (suc levels) j ys) k)

-- each block lies in one that was entered before it, or where all lie, and at most so deep
pub all_lie : (v : Version) (all : List BlockTable) (levels : ℕ) (at : Scope) (d n : ℕ) (ts : List Members) → d + levels ≡ 5
    → StandsAt all n (blocks_from v levels at d n ts) → IsDepthAmong all at d → AllByRecursion (LiesAmong all) (blocks_from v levels at d n ts)
all_lie v all zero at d n ts sum stands around = tt
all_lie v all (suc levels) at d n [] sum stands around = tt
all_lie v all (suc levels) at d n (t ∷ ts) sum stands around =
    let p : BlockTable = record { scope = at; depth = d; table = t } in
    let B = blocks_from v levels (within n) (d + 1) (n + 1) (inner_tables v t) in
    let R = blocks_from v (suc levels) at d (n + 1 + length B) ts in
    let first : slice_get all n ≡ Some p = stands_first all n p (B ++ R) stands in
    let rest = stands_rest all n p (B ++ R) stands in
    let inside : IsDepthAmong all (within n) (d + 1) = rw first refl in (
      (around, omega arith),
      all_append (LiesAmong all) B R
          (all_lie v all levels (within n) (d + 1) (n + 1) (inner_tables v t) (omega arith) (stands_left all (n + 1) B R rest) inside)
          (all_lie v all (suc levels) at d (n + 1 + length B) ts sum (stands_right all (n + 1) B R rest) around),
    )

-- each block stands in the list of its scope
pub all_listed : (v : Version) (all : List BlockTable) (levels : ℕ) (at : Scope) (d n : ℕ) (ts : List Members)
    → StandsAt all n (blocks_from v levels at d n ts) → AllByRecursion (IsListed v all at ts) (blocks_from v levels at d n ts)
all_listed v all zero at d n ts stands = tt
all_listed v all (suc levels) at d n [] stands = tt
all_listed v all (suc levels) at d n (t ∷ ts) stands =
    let p : BlockTable = record { scope = at; depth = d; table = t } in
    let B = blocks_from v levels (within n) (d + 1) (n + 1) (inner_tables v t) in
    let R = blocks_from v (suc levels) at d (n + 1 + length B) ts in
    let first : slice_get all n ≡ Some p = stands_first all n p (B ++ R) stands in
    let rest = stands_rest all n p (B ++ R) stands in (
      inl (refl, 0, refl),
      all_append (IsListed v all at (t ∷ ts)) B R
          (all_weaker (IsListed v all (within n) (inner_tables v t)) (IsListed v all at (t ∷ ts)) B (λ x h. deeper x p first h)
          (all_listed v all levels (within n) (d + 1) (n + 1) (inner_tables v t) (stands_left all (n + 1) B R rest)))
          (all_weaker (IsListed v all at ts) (IsListed v all at (t ∷ ts)) R (λ x h. later x h)
          (all_listed v all (suc levels) at d (n + 1 + length B) ts (stands_right all (n + 1) B R rest))),
    )
  where
    deeper : (x p : BlockTable) → slice_get all n ≡ Some p → IsListed v all (within n) (inner_tables v p.table) x → IsListed v all at (p.table ∷ ts) x
    deeper x p first (inl (e, i, is)) = inr (n, p, i, e, first, is)
    deeper x p first (inr h) = inr h

    later : (x : BlockTable) → IsListed v all at ts x → IsListed v all at (t ∷ ts) x
    later x (inl (e, i, is)) = inl (e, suc i, is)
    later x (inr h) = inr h

-- each block of the list itself is entered, and lies where the list does
pub get_right : {A : Type 0} (xs ys : List A) (k : ℕ) (y : A) → slice_get ys k ≡ Some y → slice_get (xs ++ ys) (length xs + k) ≡ Some y
get_right [] ys k y e = subst (λ j. slice_get ys j ≡ Some y) none e
  where
    none : k ≡ 0 + k
    none = omega arith
get_right (x ∷ xs) ys k y e = subst (λ j. slice_get ((x ∷ xs) ++ ys) j ≡ Some y) there (get_right xs ys k y e)
  where
    there : suc (length xs + k) ≡ length (x ∷ xs) + k
    there = omega arith

pub listed_is_entered : (v : Version) (levels : ℕ) (at : Scope) (d n : ℕ) (ts : List Members) (i : ℕ) (t : Members) → slice_get ts i ≡ Some t
    → (k : ℕ) × (slice_get (blocks_from v (suc levels) at d n ts) k ≡ Some (record { scope = at; depth = d; table = t }))
listed_is_entered v levels at d n [] i t e = cc
listed_is_entered v levels at d n (u ∷ ts) zero t e = let same : u ≡ t = cc in (0, ap (λ (w : Members). let p : BlockTable = record { scope = at; depth = d; table = w } in Some p) same)
listed_is_entered v levels at d n (u ∷ ts) (suc i) t e =
    let B = blocks_from v levels (within n) (d + 1) (n + 1) (inner_tables v u) in
    let (k, is) = listed_is_entered v levels at d (n + 1 + length B) ts i t e in
    (suc (length B + k), get_right B (blocks_from v (suc levels) at d (n + 1 + length B) ts) k _ is)

-- how many blocks the lists have
listed-append : (v : Version) (xs ys : List Members) → listed_in v (xs ++ ys) ≡ listed_in v xs + listed_in v ys
listed-append v [] ys = omega arith
listed-append v (x ∷ xs) ys = let a = listed-append v xs ys in omega (arith, a)

pub listed-tables : (v : Version) (xs ys : List BlockTable) → listed_in v (tables_of (xs ++ ys)) ≡ listed_in v (tables_of xs) + listed_in v (tables_of ys)
listed-tables v xs ys = ap (λ ts. listed_in v ts) (map-append (λ (x : BlockTable). x.table) xs ys) ∙ listed-append v (tables_of xs) (tables_of ys)

-- nothing is entered and left in a list of nothing
pub from-nothing : (v : Version) (levels : ℕ) (at : Scope) (d n : ℕ) → blocks_from v levels at d n [] ≡ []
from-nothing v zero at d n = refl
from-nothing v (suc levels) at d n = refl

pub leaving-nothing : (v : Version) (levels n : ℕ) → leaving_from v levels n [] ≡ []
leaving-nothing v zero n = refl
leaving-nothing v (suc levels) n = refl

-- no more blocks are entered than the lists have
pub few_from : (v : Version) (levels : ℕ) (at : Scope) (d n : ℕ) (ts : List Members) → length (blocks_from v levels at d n ts) ≤ length ts + listed_in v (tables_of (blocks_from v levels at d n ts))
few_from v zero at d n ts = omega arith
few_from v (suc levels) at d n [] = omega arith
few_from v (suc levels) at d n (t ∷ ts) =
    let B = blocks_from v levels (within n) (d + 1) (n + 1) (inner_tables v t) in
    let R = blocks_from v (suc levels) at d (n + 1 + length B) ts in
    let a = length-append B R in
    let b = listed-tables v B R in
    let c = few_from v levels (within n) (d + 1) (n + 1) (inner_tables v t) in
    let e = few_from v (suc levels) at d (n + 1 + length B) ts in
    omega (arith, a, b, c, e)

-- where nothing lies in a block that lies four deep, as many blocks are entered as the lists have
pub all_counted : (v : Version) (levels : ℕ) (at : Scope) (d n : ℕ) (ts : List Members) → d + levels ≡ 5 → (levels ≡ 0 → ts ≡ []) → AllByRecursion (λ x. x.depth ≡ 4 → inner_tables v x.table ≡ []) (blocks_from v levels at d n ts)
    → length ts + listed_in v (tables_of (blocks_from v levels at d n ts)) ≤ length (blocks_from v levels at d n ts)
all_counted v zero at d n ts sum none all = let e = ap (λ us. length us) (none refl) in omega (arith, e)
all_counted v (suc levels) at d n [] sum none all = omega arith
all_counted v (suc levels) at d n (t ∷ ts) sum none all =
    let P : BlockTable → Type 0 = λ x. x.depth ≡ 4 → inner_tables v x.table ≡ [] in
    let B = blocks_from v levels (within n) (d + 1) (n + 1) (inner_tables v t) in
    let R = blocks_from v (suc levels) at d (n + 1 + length B) ts in
    let a = all_counted v levels (within n) (d + 1) (n + 1) (inner_tables v t) (omega arith) (λ e. all.0 (omega arith)) (all_left P B R all.1) in
    let b = all_counted v (suc levels) at d (n + 1 + length B) ts sum (λ e. absurd (omega arith)) (all_right P B R all.1) in
    let c = length-append B R in
    let f = listed-tables v B R in
    omega (arith, a, b, c, f)

-- a block is in a list of those before it
pub listed_before : (v : Version) (levels : ℕ) (at : Scope) (d n : ℕ) (ts : List Members) (k : ℕ) → k < length (blocks_from v levels at d n ts)
    → k + 1 ≤ length ts + listed_in v (take k (tables_of (blocks_from v levels at d n ts)))
listed_before v zero at d n ts k h = absurd (omega arith)
listed_before v (suc levels) at d n [] k h = absurd (omega arith)
listed_before v (suc levels) at d n (t ∷ ts) zero h = omega arith
listed_before v (suc levels) at d n (t ∷ ts) (suc k) h =
    let B = blocks_from v levels (within n) (d + 1) (n + 1) (inner_tables v t) in
    let R = blocks_from v (suc levels) at d (n + 1 + length B) ts in
    let a = length-append B R in
    let tables = map-append (λ (x : BlockTable). x.table) B R in
    let long : length (tables_of B) ≡ length B = length-map B (λ (x : BlockTable). x.table) in
    elim (cases_lt k (length B)) [
      | inl less ↦
          let c = listed_before v levels (within n) (d + 1) (n + 1) (inner_tables v t) k less in
          let inside : k ≤ length (tables_of B) = omega (arith, long, less) in
          let e : listed_in v (take k (tables_of (B ++ R))) ≡ listed_in v (take k (tables_of B)) =
          ap (λ us. listed_in v (take k us)) tables ∙ ap (λ us. listed_in v us) (take-append-le k (tables_of B) (tables_of R) inside) in
          omega (arith, c, e)
      | inr past ↦
          let j : ℕ = k - length B in
          let is : k ≡ length (tables_of B) + j = omega (arith, long, past) in
          let c = listed_before v (suc levels) at d (n + 1 + length B) ts j (omega (arith, a, past, h)) in
          let f = few_from v levels (within n) (d + 1) (n + 1) (inner_tables v t) in
          let e : listed_in v (take k (tables_of (B ++ R))) ≡ listed_in v (tables_of B) + listed_in v (take j (tables_of R)) =
          ap (λ us. listed_in v (take k us)) tables ∙ ap (λ i. listed_in v (take i (tables_of B ++ tables_of R))) is
          ∙ ap (λ us. listed_in v us) (take-append-add (tables_of B) (tables_of R) j) ∙ listed-append v (tables_of B) (take j (tables_of R)) in
          omega (arith, c, e, f, is, long)
    ]

-- the table that is left under a number is the one that was entered under it
pub left_is_entered : (v : Version) (all : List BlockTable) (levels : ℕ) (at : Scope) (d n : ℕ) (ts : List Members)
    → StandsAt all n (blocks_from v levels at d n ts) → AllByRecursion (λ x. IsSomeAnd (slice_get all x.0) (λ p. p.table ≡ x.1)) (leaving_from v levels n ts)
left_is_entered v all zero at d n ts stands = tt
left_is_entered v all (suc levels) at d n [] stands = tt
left_is_entered v all (suc levels) at d n (t ∷ ts) stands =
    let p : BlockTable = record { scope = at; depth = d; table = t } in
    let P : ℕ × Members → Type 0 = λ x. IsSomeAnd (slice_get all x.0) (λ p. p.table ≡ x.1) in
    let B = blocks_from v levels (within n) (d + 1) (n + 1) (inner_tables v t) in
    let R = blocks_from v (suc levels) at d (n + 1 + length B) ts in
    let first : slice_get all n ≡ Some p = stands_first all n p (B ++ R) stands in
    let rest = stands_rest all n p (B ++ R) stands in
    let same : length B ≡ length (blocks_from v levels scope.System 0 0 (inner_tables v t)) = from-length v levels (within n) scope.System (d + 1) 0 (n + 1) 0 (inner_tables v t) in
    all_append P (leaving_from v levels (n + 1) (inner_tables v t)) ((n, t) ∷ leaving_from v (suc levels) (n + 1 + length (blocks_from v levels scope.System 0 0 (inner_tables v t))) ts)
    (left_is_entered v all levels (within n) (d + 1) (n + 1) (inner_tables v t) (stands_left all (n + 1) B R rest)) (
      rw first refl,
      subst (λ k. AllByRecursion P (leaving_from v (suc levels) (n + 1 + k) ts)) same
          (left_is_entered v all (suc levels) at d (n + 1 + length B) ts (stands_right all (n + 1) B R rest)),
    )

-- their numbers are those that were given
pub left_within : (v : Version) (levels n : ℕ) (ts : List Members) → AllByRecursion (λ x. (n ≤ x.0) × (x.0 < n + length (blocks_from v levels scope.System 0 0 ts))) (leaving_from v levels n ts)
left_within v zero n ts = tt
left_within v (suc levels) n [] = tt
left_within v (suc levels) n (t ∷ ts) =
    let B = blocks_from v levels scope.System 0 0 (inner_tables v t) in
    let C = blocks_from v levels (within 0) 1 1 (inner_tables v t) in
    let R = blocks_from v (suc levels) scope.System 0 0 ts in
    let S = blocks_from v (suc levels) scope.System 0 (0 + 1 + length C) ts in
    let a = from-length v levels (within 0) scope.System 1 0 1 0 (inner_tables v t) in
    let b = from-length v (suc levels) scope.System scope.System 0 0 (0 + 1 + length C) 0 ts in
    let c = length-append C S in
    all_append (λ x. (n ≤ x.0) × (x.0 < n + suc (length (C ++ S)))) (leaving_from v levels (n + 1) (inner_tables v t)) ((n, t) ∷ leaving_from v (suc levels) (n + 1 + length B) ts)
    (all_weaker (λ x. (n + 1 ≤ x.0) × (x.0 < n + 1 + length B)) (λ x. (n ≤ x.0) × (x.0 < n + suc (length (C ++ S)))) (leaving_from v levels (n + 1) (inner_tables v t))
    (λ x h. (omega (arith, h.0), omega (arith, h.1, a, b, c))) (left_within v levels (n + 1) (inner_tables v t))) (
      (omega arith, omega arith),
      all_weaker (λ x. (n + 1 + length B ≤ x.0) × (x.0 < n + 1 + length B + length R)) (λ x. (n ≤ x.0) × (x.0 < n + suc (length (C ++ S)))) (leaving_from v (suc levels) (n + 1 + length B) ts)
          (λ x h. (omega (arith, h.0), omega (arith, h.1, a, b, c))) (left_within v (suc levels) (n + 1 + length B) ts),
    )

-- the block of this number is among those that are left
abbrev pub IsLeft : ℕ → List (ℕ × Members) → Type 0
IsLeft j [] = ⊥
IsLeft j (x ∷ xs) = (x.0 ≡ j) ⊎ IsLeft j xs

left_first : (j : ℕ) (xs ys : List (ℕ × Members)) → IsLeft j xs → IsLeft j (xs ++ ys)
left_first j [] ys h = absurd h
left_first j (x ∷ xs) ys (inl e) = inl e
left_first j (x ∷ xs) ys (inr h) = inr (left_first j xs ys h)

left_later : (j : ℕ) (xs ys : List (ℕ × Members)) → IsLeft j ys → IsLeft j (xs ++ ys)
left_later j [] ys h = h
left_later j (x ∷ xs) ys h = inr (left_later j xs ys h)

-- each block that is entered is left
pub every_left : (v : Version) (levels n : ℕ) (ts : List Members) (j : ℕ) → n ≤ j → j < n + length (blocks_from v levels scope.System 0 0 ts) → IsLeft j (leaving_from v levels n ts)
every_left v zero n ts j low high = absurd (omega arith)
every_left v (suc levels) n [] j low high = absurd (omega arith)
every_left v (suc levels) n (t ∷ ts) j low high =
    let B = blocks_from v levels scope.System 0 0 (inner_tables v t) in
    let C = blocks_from v levels (within 0) 1 1 (inner_tables v t) in
    let R = blocks_from v (suc levels) scope.System 0 0 ts in
    let S = blocks_from v (suc levels) scope.System 0 (0 + 1 + length C) ts in
    let a = from-length v levels (within 0) scope.System 1 0 1 0 (inner_tables v t) in
    let b = from-length v (suc levels) scope.System scope.System 0 0 (0 + 1 + length C) 0 ts in
    let c = length-append C S in
    let L = leaving_from v levels (n + 1) (inner_tables v t) in
    let M = leaving_from v (suc levels) (n + 1 + length B) ts in
    elim (cases_eq n j) [
      | inl here ↦ left_later j L ((n, t) ∷ M) (inl here)
      | inr other ↦ elim (cases_lt j (n + 1 + length B)) [
        | inl inside ↦ left_first j L ((n, t) ∷ M) (every_left v levels (n + 1) (inner_tables v t) j (omega (arith, low, λ (e : n ≡ j). other e)) inside)
        | inr past ↦ left_later j L ((n, t) ∷ M) (inr (every_left v (suc levels) (n + 1 + length B) ts j past (omega (arith, high, a, b, c))))
      ]
    ]

-- what stands before a number in the order of leaving, where no earlier one has it
pub before_number : (b : ℕ) (t : Members) (xs rest : List (ℕ × Members)) → AllByRecursion (λ x. (x.0 == b) ≡ false) xs → before_first (λ x. x.0 == b) (xs ++ (b, t) ∷ rest) ≡ xs
before_number b t [] rest h = rw (eq-eqb b b refl) refl
before_number b t (x ∷ xs) rest h =
    rw h.0 (ap (λ n. take n (x ∷ (xs ++ (b, t) ∷ rest))) (one (prefix_len (λ y. not (y.0 == b)) (xs ++ (b, t) ∷ rest))) ∙ ap (λ ys. x ∷ ys) (before_number b t xs rest h.1))
  where
    one : (k : ℕ) → 1 + k ≡ suc k
    one k = omega arith

-- a list in which a number is left is what stands before it, that block, and others
pub record Finds (b : ℕ) (xs : List (ℕ × Members)) : Type 0 where
  pub table : Members
  pub rest : List (ℕ × Members)
  pub is : xs ≡ before_first (λ x. x.0 == b) xs ++ (b, table) ∷ rest

pub first_left : (b : ℕ) (xs : List (ℕ × Members)) → IsLeft b xs → Finds b xs
first_left b [] h = absurd h
first_left b (x ∷ xs) h = choose (x.0 == b) refl h (λ k. first_left b xs k)
  where
    one : (k : ℕ) → 1 + k ≡ suc k
    one k = omega arith

    choose : (test : Bool) → (x.0 == b) ≡ test → (x.0 ≡ b) ⊎ IsLeft b xs → (IsLeft b xs → Finds b xs) → Finds b (x ∷ xs)
    choose true e h later =
        let same : x.0 ≡ b = eqb-true x.0 b e in
        let is : x ∷ xs ≡ (b, x.1) ∷ xs = ap (λ (k : ℕ). (k, x.1) ∷ xs) same in
        record { table = x.1; rest = xs; is = rw e is }
    choose false e (inl same) later = let yes : (x.0 == b) ≡ true = eq-eqb x.0 b same in cc
    choose false e (inr h) later =
        let f = later h in
        record { table = f.table; rest = f.rest; is = rw e (ap (λ ys. x ∷ ys) f.is ∙ ap (λ n. take n (x ∷ xs) ++ (b, f.table) ∷ f.rest) (sym (one (prefix_len (λ y. not (y.0 == b)) xs)))) }

total-append : (k : Key) (xs ys : List Members) → total k (xs ++ ys) ≡ total k xs + total k ys
total-append k [] ys = omega arith
total-append k (x ∷ xs) ys = let a = total-append k xs ys in omega (arith, a)

-- in either order the tables have as much in all
pub total-leaving : (v : Version) (k : Key) (levels : ℕ) (at : Scope) (d n m : ℕ) (ts : List Members) → total k (map (λ x. x.1) (leaving_from v levels n ts)) ≡ total k (tables_of (blocks_from v levels at d m ts))
total-leaving v k zero at d n m ts = refl
total-leaving v k (suc levels) at d n m [] = refl
total-leaving v k (suc levels) at d n m (t ∷ ts) =
    let B = blocks_from v levels (within m) (d + 1) (m + 1) (inner_tables v t) in
    let R = blocks_from v (suc levels) at d (m + 1 + length B) ts in
    let L = leaving_from v levels (n + 1) (inner_tables v t) in
    let j : ℕ = n + 1 + length (blocks_from v levels scope.System 0 0 (inner_tables v t)) in
    let M = leaving_from v (suc levels) j ts in
    let a = ap (λ us. total k us) (map-append (λ (x : ℕ × Members). x.1) L ((n, t) ∷ M)) ∙ total-append k (map (λ x. x.1) L) (t ∷ map (λ x. x.1) M) in
    let b = ap (λ us. total k us) (map-append (λ (x : BlockTable). x.table) B R) ∙ total-append k (tables_of B) (tables_of R) in
    let c = total-leaving v k levels (within m) (d + 1) (n + 1) (m + 1) (inner_tables v t) in
    let e = total-leaving v k (suc levels) at d j (m + 1 + length B) ts in
    omega (arith, a, b, c, e)
