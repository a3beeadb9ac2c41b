-- Which keys hold what, and the table in which a list of texts stands.
use Rattle.std.proofs.Common.{◌≡◌, ℕ, zero, suc, List, [], ◌∷◌, map, true, Some, IsSomeAnd, slice_get, refl, subst, ◌⊎◌, inl, inr}
use Rattle.std.specs.List.{AllZip, AllByRecursion}
use Rattle.toml.specs.Data.{Data, Members, as_str}
use Rattle.sdl_structure_parts.specs.Structure.{Structure}
use Rattle.sdl_structure_tables.specs.declared.version.Version.{Version}
use Rattle.sdl_structure_tables.specs.declared.version.Version.TheVariants.{One, Two}
use Rattle.sdl_structure_tables.specs.declared.place.Part.{Part}
use Rattle.sdl_structure_tables.specs.declared.place.Part.TheVariants as part
use Rattle.sdl_structure_tables.specs.declared.place.Key.{Key}
use Rattle.sdl_structure_tables.specs.declared.place.Key.TheVariants as key
use Rattle.sdl_structure_tables.specs.Keys.{Kind, text, whole_number, flag, sorts, signals, ends, tables, nothing, kind_of, is_key}
use Rattle.sdl_structure.proofs.KeptLemmas.{IsKept, never, ChannelKept}

-- the keys that hold that kind
abbrev HasKind : Kind → Key → Type 0
HasKind whole_number k = (k ≡ key.Version) ⊎ (k ≡ key.Budget) ⊎ (k ≡ key.Initial) ⊎ (k ≡ key.Maximum)
HasKind text k = (k ≡ key.System) ⊎ (k ≡ key.Name)
HasKind flag k = k ≡ key.Nodelay
HasKind sorts k = k ≡ key.Sorts
HasKind signals k = (k ≡ key.Inward) ⊎ (k ≡ key.Outward) ⊎ (k ≡ key.Forth) ⊎ (k ≡ key.Back)
HasKind ends k = k ≡ key.Ends
HasKind tables k = (k ≡ key.Signal) ⊎ (k ≡ key.Gate) ⊎ (k ≡ key.Block) ⊎ (k ≡ key.Channel) ⊎ (k ≡ key.Set)
HasKind nothing k = k ≡ key.Other

own_kind : (k : Key) → HasKind (kind_of k) k
own_kind key.Version = inl refl
own_kind key.System = inl refl
own_kind key.Budget = inr (inl refl)
own_kind key.Signal = inl refl
own_kind key.Gate = inr (inl refl)
own_kind key.Block = inr (inr (inl refl))
own_kind key.Channel = inr (inr (inr (inl refl)))
own_kind key.Name = inr refl
own_kind key.Sorts = refl
own_kind key.Inward = inl refl
own_kind key.Outward = inr (inl refl)
own_kind key.Set = inr (inr (inr (inr refl)))
own_kind key.Initial = inr (inr (inl refl))
own_kind key.Maximum = inr (inr (inr refl))
own_kind key.Ends = refl
own_kind key.Forth = inr (inr (inl refl))
own_kind key.Back = inr (inr (inr refl))
own_kind key.Nodelay = refl
own_kind key.Other = refl

pub of_kind : (kind : Kind) (k : Key) → kind_of k ≡ kind → HasKind kind k
of_kind kind k e = subst (λ d. HasKind d k) e (own_kind k)

pub number_key : (k : Key) → kind_of k ≡ whole_number → (k ≡ key.Version) ⊎ (k ≡ key.Budget) ⊎ (k ≡ key.Initial) ⊎ (k ≡ key.Maximum)
number_key k e = of_kind whole_number k e

pub text_key : (k : Key) → kind_of k ≡ text → (k ≡ key.System) ⊎ (k ≡ key.Name)
text_key k e = of_kind text k e

pub signals_key : (k : Key) → kind_of k ≡ signals → (k ≡ key.Inward) ⊎ (k ≡ key.Outward) ⊎ (k ≡ key.Forth) ⊎ (k ≡ key.Back)
signals_key k e = of_kind signals k e

pub tables_key : (k : Key) → kind_of k ≡ tables → (k ≡ key.Signal) ⊎ (k ≡ key.Gate) ⊎ (k ≡ key.Block) ⊎ (k ≡ key.Channel) ⊎ (k ≡ key.Set)
tables_key k e = of_kind tables k e

-- only a channel's table has ends
pub channel_of : (v : Version) (s : Structure) (q : Part) (ms : Members) → IsKept v s q ms → is_key v q key.Ends ≡ true → ChannelKept s ms
channel_of v s part.System ms kept l = never l
channel_of v s part.Signal ms kept l = never l
channel_of v s part.Gate ms kept l = never l
channel_of v s part.Channel ms kept l = kept
channel_of One s part.Block ms kept l = never l
channel_of Two s part.Block ms kept l = never l
channel_of v s part.BlockGate ms kept l = never l
channel_of v s part.BlockChannel ms kept l = kept
channel_of v s part.Set ms kept l = never l
channel_of v s part.SetGate ms kept l = never l

-- what holds of the texts that a list names holds of a text in the list
pub zip_left : {A B : Type 0} (R : A → B → Type 0) (P : A → Type 0) (xs : List A) (ys : List B) → ((x : A) (y : B) → R x y → P x) → AllZip R xs ys → AllByRecursion P xs
zip_left R P [] ys f z = tt
zip_left R P (x ∷ xs) [] f z = absurd z
zip_left R P (x ∷ xs) (y ∷ ys) f z = (f x y z.0, zip_left R P xs ys f z.1)

pub text_has : (P : List ℕ → Type 0) (ds : List Data) (i : ℕ) (t : List ℕ) → AllByRecursion (λ d. IsSomeAnd (as_str d) P) ds → slice_get (map as_str ds) i ≡ Some (Some t) → P t
text_has P [] i t h e = cc
text_has P (d ∷ ds) zero t h e = let here : as_str d ≡ Some t = cc in subst (λ o. IsSomeAnd o P) here h.0
text_has P (d ∷ ds) (suc i) t h e = text_has P ds i t h.1 e
