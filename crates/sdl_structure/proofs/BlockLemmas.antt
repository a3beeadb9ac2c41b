-- Blocks and sets: one more of them is read.
use Rattle.std.proofs.Common.{◌≡◌, ℕ, suc, ◌+◌, ◌<◌, List, [], ◌∷◌, ◌++◌, length, take, get_or, map, refl, sym, ap, ◌∙◌, arith}
use Rattle.std.proofs.lemmas.List.{take_more, append_assoc, length-append}
use Rattle.std.proofs.lemmas.Grind.{flat_map-append}
use Rattle.std.specs.List.{AllZip}
use Rattle.toml.specs.Data.{Members, no_members}
use Rattle.sdl_structure_parts.specs.declared.parts.Owner.TheVariants as owner
use Rattle.sdl_structure_parts.specs.declared.parts.Scope.TheVariants as scope
use Rattle.sdl_structure_tables.specs.declared.place.Key.{Key}
use Rattle.sdl_structure_tables.specs.declared.place.Key.TheVariants as key
use Rattle.sdl_structure_tables.specs.Tables.{text_at, tables_at, names_of, agent_names, channel_names, total}
use Rattle.sdl_structure.specs.File.{sets_of, owned, set_gates, block_gates, channels_in, block_channels}

pub nil_after : {A : Type 0} (xs : List A) → xs ++ [] ≡ xs
nil_after [] = refl
nil_after (x ∷ xs) = ap (λ ys. x ∷ ys) (nil_after xs)

-- two zipped lists, one after the other
pub zip_append : {A B : Type 0} (R : A → B → Type 0) (xs : List A) (ys : List B) (us : List A) (vs : List B) → AllZip R xs ys → AllZip R us vs → AllZip R (xs ++ us) (ys ++ vs)
zip_append R [] [] us vs z w = w
zip_append R [] (y ∷ ys) us vs z w = absurd z
zip_append R (x ∷ xs) [] us vs z w = absurd z
zip_append R (x ∷ xs) (y ∷ ys) us vs z w = (z.0, zip_append R xs ys us vs z.1 w)

-- the words on lists of blocks at one more block
pub sets_of-more : (b : ℕ) (ts : List Members) (t : Members) → sets_of b (ts ++ t ∷ []) ≡ sets_of b ts ++ map (λ u. (b + length ts, u)) (tables_at key.Set t)
sets_of-more b [] t = nil_after (map (λ u. (b, u)) (tables_at key.Set t)) ∙ ap (λ n. map (λ u. (n, u)) (tables_at key.Set t)) here
  where
    here : b ≡ b + 0
    here = omega arith
sets_of-more b (s ∷ ts) t =
    ap (λ z. map (λ u. (b, u)) (tables_at key.Set s) ++ z) (sets_of-more (b + 1) ts t ∙ ap (λ n. sets_of (b + 1) ts ++ map (λ u. (n, u)) (tables_at key.Set t)) there)
    ∙ sym (append_assoc (map (λ u. (b, u)) (tables_at key.Set s)) (sets_of (b + 1) ts) (map (λ u. (b + length (s ∷ ts), u)) (tables_at key.Set t)))
  where
    there : b + 1 + length ts ≡ b + length (s ∷ ts)
    there = omega arith

pub set_gates-more : (n : ℕ) (us : List Members) (u : Members) → set_gates n (us ++ u ∷ []) ≡ set_gates n us ++ owned (owner.Set (record { 0 = n + length us })) u
set_gates-more n [] u = nil_after (owned (owner.Set (record { 0 = n })) u) ∙ ap (λ k. owned (owner.Set (record { 0 = k })) u) here
  where
    here : n ≡ n + 0
    here = omega arith
set_gates-more n (v ∷ us) u =
    ap (λ z. owned (owner.Set (record { 0 = n })) v ++ z) (set_gates-more (n + 1) us u ∙ ap (λ k. set_gates (n + 1) us ++ owned (owner.Set (record { 0 = k })) u) there)
    ∙ sym (append_assoc (owned (owner.Set (record { 0 = n })) v) (set_gates (n + 1) us) (owned (owner.Set (record { 0 = n + length (v ∷ us) })) u))
  where
    there : n + 1 + length us ≡ n + length (v ∷ us)
    there = omega arith

pub block_gates-more : (b n : ℕ) (ts : List Members) (t : Members) → block_gates b n (ts ++ t ∷ []) ≡ block_gates b n ts ++ (owned (owner.Block (record { 0 = b + length ts })) t ++ set_gates (n + total key.Set ts) (tables_at key.Set t))
block_gates-more b n [] t = at_end (sym b_is) (sym n_is)
  where
    b_is : b + 0 ≡ b
    b_is = omega arith

    n_is : n + 0 ≡ n
    n_is = omega arith

    at_end : {c m : ℕ} → b ≡ c → n ≡ m → owned (owner.Block (record { 0 = b })) t ++ (set_gates n (tables_at key.Set t) ++ []) ≡ owned (owner.Block (record { 0 = c })) t ++ set_gates m (tables_at key.Set t)
    at_end {c = c} {m = m} e f = ap (λ z. owned (owner.Block (record { 0 = b })) t ++ z) (nil_after (set_gates n (tables_at key.Set t)) ∙ ap (λ k. set_gates k (tables_at key.Set t)) f) ∙ ap (λ k. owned (owner.Block (record { 0 = k })) t ++ set_gates m (tables_at key.Set t)) e
block_gates-more b n (s ∷ ts) t =
    let A = owned (owner.Block (record { 0 = b })) s in
    let B = set_gates n (tables_at key.Set s) in
    let C = block_gates (b + 1) (n + length (tables_at key.Set s)) ts in
    let D = owned (owner.Block (record { 0 = b + length (s ∷ ts) })) t ++ set_gates (n + total key.Set (s ∷ ts)) (tables_at key.Set t) in
    ap (λ z. A ++ (B ++ z)) (block_gates-more (b + 1) (n + length (tables_at key.Set s)) ts t ∙ numbers blocks_there sets_there) ∙ ap (λ z. A ++ z) (sym (append_assoc B C D)) ∙ sym (append_assoc A (B ++ C) D)
  where
    blocks_there : b + 1 + length ts ≡ b + length (s ∷ ts)
    blocks_there = omega arith

    sets_there : n + length (tables_at key.Set s) + total key.Set ts ≡ n + total key.Set (s ∷ ts)
    sets_there = omega arith

    numbers : {c d m k : ℕ} → c ≡ d → m ≡ k → block_gates (b + 1) (n + length (tables_at key.Set s)) ts ++ (owned (owner.Block (record { 0 = c })) t ++ set_gates m (tables_at key.Set t)) ≡ block_gates (b + 1) (n + length (tables_at key.Set s)) ts ++ (owned (owner.Block (record { 0 = d })) t ++ set_gates k (tables_at key.Set t))
    numbers {c = c} {d = d} {m = m} {k = k} e f = ap (λ i. block_gates (b + 1) (n + length (tables_at key.Set s)) ts ++ (owned (owner.Block (record { 0 = i })) t ++ set_gates m (tables_at key.Set t))) e ∙ ap (λ i. block_gates (b + 1) (n + length (tables_at key.Set s)) ts ++ (owned (owner.Block (record { 0 = d })) t ++ set_gates i (tables_at key.Set t))) f

pub block_channels-more : (b : ℕ) (ts : List Members) (t : Members) → block_channels b (ts ++ t ∷ []) ≡ block_channels b ts ++ channels_in (scope.Block (record { 0 = b + length ts })) t
block_channels-more b [] t = nil_after (channels_in (scope.Block (record { 0 = b })) t) ∙ ap (λ k. channels_in (scope.Block (record { 0 = k })) t) here
  where
    here : b ≡ b + 0
    here = omega arith
block_channels-more b (s ∷ ts) t =
    ap (λ z. channels_in (scope.Block (record { 0 = b })) s ++ z) (block_channels-more (b + 1) ts t ∙ ap (λ k. block_channels (b + 1) ts ++ channels_in (scope.Block (record { 0 = k })) t) there)
    ∙ sym (append_assoc (channels_in (scope.Block (record { 0 = b })) s) (block_channels (b + 1) ts) (channels_in (scope.Block (record { 0 = b + length (s ∷ ts) })) t))
  where
    there : b + 1 + length ts ≡ b + length (s ∷ ts)
    there = omega arith

pub agent_names-more : (ts : List Members) (t : Members) → agent_names (ts ++ t ∷ []) ≡ agent_names ts ++ text_at key.Name t ∷ names_of (tables_at key.Set t)
agent_names-more [] t = ap (λ z. text_at key.Name t ∷ z) (nil_after (names_of (tables_at key.Set t)))
agent_names-more (s ∷ ts) t = ap (λ z. text_at key.Name s ∷ (names_of (tables_at key.Set s) ++ z)) (agent_names-more ts t) ∙ ap (λ z. text_at key.Name s ∷ z) (sym (append_assoc (names_of (tables_at key.Set s)) (agent_names ts) (text_at key.Name t ∷ names_of (tables_at key.Set t))))

pub channel_names-more : (ts : List Members) (t : Members) → channel_names (ts ++ t ∷ []) ≡ channel_names ts ++ names_of (tables_at key.Channel t)
channel_names-more [] t = nil_after (names_of (tables_at key.Channel t))
channel_names-more (s ∷ ts) t = ap (λ z. names_of (tables_at key.Channel s) ++ z) (channel_names-more ts t) ∙ sym (append_assoc (names_of (tables_at key.Channel s)) (channel_names ts) (names_of (tables_at key.Channel t)))

pub total-more : (k : Key) (ts : List Members) (t : Members) → total k (ts ++ t ∷ []) ≡ total k ts + length (tables_at k t)
total-more k [] t = here (length (tables_at k t))
  where
    here : (n : ℕ) → n + 0 ≡ 0 + n
    here n = omega arith
total-more k (s ∷ ts) t = ap (λ n. length (tables_at k s) + n) (total-more k ts t) ∙ there (length (tables_at k s)) (total k ts) (length (tables_at k t))
  where
    there : (a b c : ℕ) → a + (b + c) ≡ a + b + c
    there a b c = omega arith

map_len : {A B : Type 0} (f : A → B) (xs : List A) → length (map f xs) ≡ length xs
map_len f [] = refl
map_len f (x ∷ xs) = ap suc (map_len f xs)

joined_len : {A : Type 0} (xs ys : List A) (a b : ℕ) → length xs ≡ a → length ys ≡ b → length (xs ++ ys) ≡ a + b
joined_len xs ys a b e f = length-append xs ys ∙ ap (λ n. n + length ys) e ∙ ap (λ n. a + n) f

pub length-sets_of : (b : ℕ) (ts : List Members) → length (sets_of b ts) ≡ total key.Set ts
length-sets_of b [] = refl
length-sets_of b (t ∷ ts) = joined_len (map (λ u. (b, u)) (tables_at key.Set t)) (sets_of (b + 1) ts) (length (tables_at key.Set t)) (total key.Set ts) (map_len (λ u. (b, u)) (tables_at key.Set t)) (length-sets_of (b + 1) ts)

pub length-block_channels : (b : ℕ) (ts : List Members) → length (block_channels b ts) ≡ total key.Channel ts
length-block_channels b [] = refl
length-block_channels b (t ∷ ts) = joined_len (channels_in (scope.Block (record { 0 = b })) t) (block_channels (b + 1) ts) (length (tables_at key.Channel t)) (total key.Channel ts) (map_len (λ c. (scope.Block (record { 0 = b }), c)) (tables_at key.Channel t)) (length-block_channels (b + 1) ts)

-- the first blocks and the next one
pub take_next : (ts : List Members) (b : ℕ) → b < length ts → take (b + 1) ts ≡ take b ts ++ get_or ts b no_members ∷ []
take_next ts b h = take_more ts b no_members h

-- the channels of some blocks, and of others after them
pub channel_names-append : (xs ys : List Members) → channel_names (xs ++ ys) ≡ channel_names xs ++ channel_names ys
channel_names-append xs ys = flat_map-append (λ t. names_of (tables_at key.Channel t)) xs ys

pub length-channel_names : (ts : List Members) → length (channel_names ts) ≡ total key.Channel ts
length-channel_names [] = refl
length-channel_names (t ∷ ts) = joined_len (names_of (tables_at key.Channel t)) (channel_names ts) (length (tables_at key.Channel t)) (total key.Channel ts) (map_len (text_at key.Name) (tables_at key.Channel t)) (length-channel_names ts)

pub block_channels-append : (b : ℕ) (xs ys : List Members) → block_channels b (xs ++ ys) ≡ block_channels b xs ++ block_channels (b + length xs) ys
block_channels-append b [] ys = ap (λ k. block_channels k ys) here
  where
    here : b ≡ b + 0
    here = omega arith
block_channels-append b (x ∷ xs) ys =
    ap (λ z. channels_in (scope.Block (record { 0 = b })) x ++ z) (block_channels-append (b + 1) xs ys ∙ ap (λ k. block_channels (b + 1) xs ++ block_channels k ys) there)
    ∙ sym (append_assoc (channels_in (scope.Block (record { 0 = b })) x) (block_channels (b + 1) xs) (block_channels (b + length (x ∷ xs)) ys))
  where
    there : b + 1 + length xs ≡ b + length (x ∷ xs)
    there = omega arith
