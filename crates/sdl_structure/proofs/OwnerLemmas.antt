-- Where each gate and each set of a structure stands in the file that names it.
use Rattle.std.proofs.Common.{◌≡◌, ℕ, zero, suc, ◌+◌, List, [], ◌∷◌, ◌++◌, length, map, Contains, Some, slice_get, refl, sym, ap, subst, ◌∙◌, arith}
use Rattle.std.proofs.lemmas.Option.{slice_get_within, get_or_from_slice_get}
use Rattle.std.proofs.lemmas.List.{length-map}
use Rattle.std.specs.List.{AllByRecursion}
use Rattle.toml.specs.Data.{Members}
use Rattle.sdl_structure_parts.specs.declared.parts.Gate.{Gate}
use Rattle.sdl_structure_parts.specs.declared.parts.Owner.{Owner}
use Rattle.sdl_structure_parts.specs.declared.parts.Owner.TheVariants as owner
use Rattle.sdl_structure_parts.specs.Structure.{Structure}
use Rattle.sdl_structure_tables.specs.declared.place.Key.TheVariants as key
use Rattle.sdl_structure_tables.specs.Tables.{text_at, tables_at, names_of}
use Rattle.sdl_structure_tables.specs.Blocks.{block_tables}
use Rattle.sdl_structure_tables.specs.Faults.{HasGate}
use Rattle.sdl_structure.specs.File.{IsFileOf, IsGateTable, sets_of, owned, set_gates, block_gates, gates_of}
use Rattle.sdl_structure.proofs.GateLemmas.{Has, map_get}
use Rattle.sdl_structure.proofs.RepeatRules.{zip_named}

-- the table of a gate with this owner
abbrev pub IsOwned : Members → Owner → Members → Type 0
IsOwned root owner.System m = Has (tables_at key.Gate root) m
IsOwned root (owner.Block b) m = (t : Members) × (slice_get (block_tables root) b.0 ≡ Some t) × Has (tables_at key.Gate t) m
IsOwned root (owner.Set n) m = (x : ℕ × Members) × (slice_get (sets_of 0 (block_tables root)) n.0 ≡ Some x) × Has (tables_at key.Gate x.1) m

-- the lists that follow one another in a list, from its number n on
abbrev Follows : {A : Type 0} → List A → ℕ → List A → Type 0
Follows {A} all n xs = (i : ℕ) (x : A) → slice_get xs i ≡ Some x → slice_get all (n + i) ≡ Some x

follows_all : {A : Type 0} (xs : List A) → Follows xs 0 xs
follows_all xs i x e = subst (λ k. slice_get xs k ≡ Some x) here e
  where
    here : i ≡ 0 + i
    here = omega arith

follows_first : {A : Type 0} (all : List A) (n : ℕ) (x : A) (xs : List A) → Follows all n (x ∷ xs) → slice_get all n ≡ Some x
follows_first all n x xs f = subst (λ k. slice_get all k ≡ Some x) here (f 0 x refl)
  where
    here : n + 0 ≡ n
    here = omega arith

follows_next : {A : Type 0} (all : List A) (n : ℕ) (x : A) (xs : List A) → Follows all n (x ∷ xs) → Follows all (n + 1) xs
follows_next all n x xs f i y e = subst (λ k. slice_get all k ≡ Some y) here (f (suc i) y e)
  where
    here : n + suc i ≡ n + 1 + i
    here = omega arith

get_left : {A : Type 0} (xs ys : List A) (i : ℕ) (x : A) → slice_get xs i ≡ Some x → slice_get (xs ++ ys) i ≡ Some x
get_left [] ys i x e = cc
get_left (z ∷ xs) ys zero x e = e
get_left (z ∷ xs) ys (suc i) x e = get_left xs ys i x e

get_right : {A : Type 0} (xs ys : List A) (i : ℕ) (y : A) → slice_get ys i ≡ Some y → slice_get (xs ++ ys) (length xs + i) ≡ Some y
get_right [] ys i y e = follows_all ys i y e
get_right (x ∷ xs) ys i y e = subst (λ k. slice_get ((x ∷ xs) ++ ys) k ≡ Some y) here (get_right xs ys i y e)
  where
    here : suc (length xs + i) ≡ length (x ∷ xs) + i
    here = omega arith

follows_left : {A : Type 0} (all : List A) (n : ℕ) (xs ys : List A) → Follows all n (xs ++ ys) → Follows all n xs
follows_left all n xs ys f i x e = f i x (get_left xs ys i x e)

follows_right : {A : Type 0} (all : List A) (n m : ℕ) (xs ys : List A) → m ≡ length xs → Follows all n (xs ++ ys) → Follows all (n + m) ys
follows_right all n m xs ys long f i y e = subst (λ k. slice_get all k ≡ Some y) here (f (length xs + i) y (get_right xs ys i y e))
  where
    here : n + (length xs + i) ≡ n + m + i
    here = omega (arith, long)

all_append : {A : Type 0} (P : A → Type 0) (xs ys : List A) → AllByRecursion P xs → AllByRecursion P ys → AllByRecursion P (xs ++ ys)
all_append P [] ys h k = k
all_append P (x ∷ xs) ys h k = (h.0, all_append P xs ys h.1 k)

-- what holds of each element holds of the elements of a list that is made of them
all_mapped : {A B : Type 0} (f : A → B) (P : B → Type 0) (all xs : List A) (n : ℕ) → Follows all n xs → ((x : A) → Has all x → P (f x)) → AllByRecursion P (map f xs)
all_mapped f P all [] n h g = tt
all_mapped f P all (x ∷ xs) n h g = (g x (record { index = n; is = follows_first all n x xs h }), all_mapped f P all xs (n + 1) (follows_next all n x xs h) g)

owned_are : (root : Members) (o : Owner) (t : Members) → ((m : Members) → Has (tables_at key.Gate t) m → IsOwned root o m) → AllByRecursion (λ x. IsOwned root x.0 x.1) (owned o t)
owned_are root o t g = all_mapped (λ m. (o, m)) (λ x. IsOwned root x.0 x.1) (tables_at key.Gate t) (tables_at key.Gate t) 0 (follows_all (tables_at key.Gate t)) g

set_gates_are : (root : Members) (b n : ℕ) (us : List Members) → Follows (sets_of 0 (block_tables root)) n (map (λ u. (b, u)) us) → AllByRecursion (λ x. IsOwned root x.0 x.1) (set_gates n us)
set_gates_are root b n [] f = tt
set_gates_are root b n (u ∷ us) f =
    all_append (λ x. IsOwned root x.0 x.1) (owned (owner.Set (record { 0 = n })) u) (set_gates (n + 1) us)
    (owned_are root (owner.Set (record { 0 = n })) u (λ m has. ((b, u), follows_first _ n (b, u) (map (λ u. (b, u)) us) f, has)))
    (set_gates_are root b (n + 1) us (follows_next _ n (b, u) (map (λ u. (b, u)) us) f))

block_gates_are : (root : Members) (b n : ℕ) (ts : List Members) → Follows (block_tables root) b ts → Follows (sets_of 0 (block_tables root)) n (sets_of b ts) → AllByRecursion (λ x. IsOwned root x.0 x.1) (block_gates b n ts)
block_gates_are root b n [] f g = tt
block_gates_are root b n (t ∷ ts) f g =
    all_append (λ x. IsOwned root x.0 x.1) (owned (owner.Block (record { 0 = b })) t) _
    (owned_are root (owner.Block (record { 0 = b })) t (λ m has. (t, follows_first _ b t ts f, has)))
    (all_append (λ x. IsOwned root x.0 x.1) (set_gates n (tables_at key.Set t)) _
    (set_gates_are root b n (tables_at key.Set t) (follows_left _ n (map (λ u. (b, u)) (tables_at key.Set t)) (sets_of (b + 1) ts) g))
    (block_gates_are root (b + 1) (n + length (tables_at key.Set t)) ts (follows_next _ b t ts f) (follows_right _ n (length (tables_at key.Set t)) (map (λ u. (b, u)) (tables_at key.Set t)) (sets_of (b + 1) ts) (sym (length-map (tables_at key.Set t) (λ u. (b, u)))) g)))

gates_are : (root : Members) → AllByRecursion (λ x. IsOwned root x.0 x.1) (gates_of root (block_tables root))
gates_are root = all_append (λ x. IsOwned root x.0 x.1) (owned owner.System root) (block_gates 0 0 (block_tables root))
    (owned_are root owner.System root (λ m has. has))
    (block_gates_are root 0 0 (block_tables root) (follows_all (block_tables root)) (follows_all (sets_of 0 (block_tables root))))

-- a set's table stands in its block
abbrev pub StandsIn : Members → ℕ → Members → Type 0
StandsIn root b u = (t : Members) × (slice_get (block_tables root) b ≡ Some t) × Has (tables_at key.Set t) u

sets_stand : (root : Members) (b : ℕ) (ts : List Members) → Follows (block_tables root) b ts → AllByRecursion (λ x. StandsIn root x.0 x.1) (sets_of b ts)
sets_stand root b [] f = tt
sets_stand root b (t ∷ ts) f =
    all_append (λ x. StandsIn root x.0 x.1) (map (λ u. (b, u)) (tables_at key.Set t)) (sets_of (b + 1) ts)
    (all_mapped (λ u. (b, u)) (λ x. StandsIn root x.0 x.1) (tables_at key.Set t) (tables_at key.Set t) 0 (follows_all (tables_at key.Set t)) (λ u has. (t, follows_first _ b t ts f, has)))
    (sets_stand root (b + 1) ts (follows_next _ b t ts f))

pub at : {A : Type 0} (P : A → Type 0) (xs : List A) (i : ℕ) (x : A) → AllByRecursion P xs → slice_get xs i ≡ Some x → P x
at P [] i x h e = cc
at P (y ∷ xs) zero x h e = let same : y ≡ x = cc in subst P same h.0
at P (y ∷ xs) (suc i) x h e = at P xs i x h.1 e

pub set_stands : (root : Members) (n : ℕ) (x : ℕ × Members) → slice_get (sets_of 0 (block_tables root)) n ≡ Some x → StandsIn root x.0 x.1
set_stands root n x e = at (λ x. StandsIn root x.0 x.1) (sets_of 0 (block_tables root)) n x (sets_stand root 0 (block_tables root) (follows_all (block_tables root))) e

-- the table of each gate, with its owner
pub gate_table : (root : Members) (s : Structure) (n : ℕ) (g : Gate) → IsFileOf root s → slice_get s.gates n ≡ Some g → (m : Members) × IsOwned root g.owner m × (text_at key.Name m ≡ Some g.name.bytes)
gate_table root s n g file is =
    let (x, there, table) = zip_named (IsGateTable s.signals) (gates_of root (block_tables root)) s.gates n g file.parts.gates is in
    (x.1, subst (λ o. IsOwned root o x.1) (sym table.owner) (at (λ x. IsOwned root x.0 x.1) (gates_of root (block_tables root)) n x (gates_are root) there), table.name.0)

pub contains_at : {A : Type 0} (xs : List A) (i : ℕ) (x : A) → slice_get xs i ≡ Some x → Contains xs x
contains_at xs i x e = (i, slice_get_within xs i x e, get_or_from_slice_get xs i x x e)

pub has_gate : (t m : Members) (gate : List ℕ) → Has (tables_at key.Gate t) m → text_at key.Name m ≡ Some gate → HasGate t gate
has_gate t m gate has named = contains_at (names_of (tables_at key.Gate t)) has.index (Some gate) (map_get (text_at key.Name) (tables_at key.Gate t) has.index m has.is ∙ ap Some named)
