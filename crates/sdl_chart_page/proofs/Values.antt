-- The values of outputs, one of which was written.
use Rattle.std.proofs.Common.{Vec, ◌≡◌, ◌⊎◌, ℕ, zero, suc, ◌<◌, ◌≤◌, List, [], ◌∷◌, ◌++◌, map, length, set, get_or, slice_get, Option, None, Some, option_and_then, option_map, refl, ap, sym, ◌∙◌, subst, inl, inr, arith}
use Rattle.std.specs.Prelude.{IsSome}
use Rattle.std.proofs.lemmas.List.{length-map, map-append, map-set, get_or-map, set_past}
use Rattle.std.proofs.lemmas.Bool.{cases_eq}
use Rattle.std.proofs.lemmas.Option.{none-some, slice_get-get_or, slice_get-map, option_and_then_some, get_or_from_slice_get}
use Rattle.sdl_signal.specs.declared.values.Origin.{Origin}
use Rattle.sdl_chart_page.specs.Origins.{value_at, with_value, IsLonger, GrowsBy}
use Rattle.sdl_chart_page.proofs.OneMore.{some_of, set_cases, get_set_same, get_set_other}

origin_of : ℕ → ℕ → Origin
origin_of w n = record { worker = w; number = n }

same_origin : (o p : Origin) → o.worker ≡ p.worker → o.number ≡ p.number → o ≡ p
unfolding origin_of
same_origin o p e f = ap (λ (w : ℕ). origin_of w o.number) e ∙ ap (λ (n : ℕ). origin_of p.worker n) f

-- what is read was there before, or it is what was written
pub value_cases : {T : Type 0} (lists : List (List T)) (o p : Origin) (v w : T) → value_at (with_value lists o v) p ≡ Some w → (value_at lists p ≡ Some w) ⊎ ((p ≡ o) × (w ≡ v))
value_cases {T} lists o p v w h =
    let zs : List T = get_or lists o.worker [] in
    let ys : List T = set zs o.number v in
    let read : List T → Option T = λ xs. slice_get xs p.number in
    option_and_then_some (λ (xs : List T). slice_get xs p.number) (slice_get (set lists o.worker ys) p.worker) w h
    (λ xs at got.
    elim (set_cases lists o.worker ys p.worker xs at) [
      | inl e ↦ inl (ap (option_and_then read) e ∙ got)
      | inr e ↦
          let written : slice_get ys p.number ≡ Some w = subst (λ (l : List T). slice_get l p.number ≡ Some w) e.2 got in
          let there : slice_get lists p.worker ≡ Some zs = slice_get-get_or lists p.worker [] e.1 ∙ ap (λ (n : ℕ). Some (get_or lists n [])) e.0 in
          elim (set_cases zs o.number v p.number w written) [
            | inl f ↦ inl (ap (option_and_then read) there ∙ f)
            | inr f ↦ inr (same_origin p o e.0 f.0, f.2)
          ]
    ])

-- what is read of another output stays
pub value_other : {T : Type 0} (lists : List (List T)) (o p : Origin) (v w : T) → value_at lists p ≡ Some w → (value_at (with_value lists o v) p ≡ Some w) ⊎ (p ≡ o)
value_other {T} lists o p v w h =
    let zs : List T = get_or lists o.worker [] in
    let ys : List T = set zs o.number v in
    let read : List T → Option T = λ xs. slice_get xs p.number in
    elim (cases_eq p.worker o.worker) [
      | inr n ↦ inl (ap (option_and_then read) (get_set_other lists o.worker ys p.worker n) ∙ h)
      | inl e ↦
          elim (cases_eq p.number o.number) [
            | inl f ↦ inr (same_origin p o e f)
            | inr n ↦
                option_and_then_some (λ (xs : List T). slice_get xs p.number) (slice_get lists p.worker) w h
                (λ xs at got.
                let is : zs ≡ xs = get_or_from_slice_get lists o.worker xs [] (subst (λ (m : ℕ). slice_get lists m ≡ Some xs) e at) in
                inl (ap (option_and_then read) (get_set_same lists o.worker ys p.worker xs e at) ∙ (get_set_other zs o.number v p.number n ∙ (ap read is ∙ got))))
          ]
    ]

-- the values of workers as a view of what keeps them: one is written, or none
pub written_in : {V T : Type 0} (f : V → List T) (vs : List V) (o : Origin) (value : T) (v w : V) → o.worker < length vs → v ≡ get_or vs o.worker v → f w ≡ set (f v) o.number value
    → map f (set vs o.worker w) ≡ with_value (map f vs) o value
written_in {V} {T} f vs o value v w less at is =
    map-set f vs o.worker w
    ∙ ap (set (map f vs) o.worker) (is ∙ ap (λ (xs : List T). set xs o.number value) (ap f at ∙ sym (get_or-map f vs o.worker v [] less)))

pub vec_written : {T A : Type 0} (vs : List (Vec T A)) (o : Origin) (value : T) (v w : Vec T A) → o.worker < length vs → v ≡ get_or vs o.worker v → w.items ≡ set v.items o.number value
    → map (λ (x : Vec T A). x.items) (set vs o.worker w) ≡ with_value (map (λ (x : Vec T A). x.items) vs) o value
vec_written {T} {A} vs o value v w less at is = written_in (λ (x : Vec T A). x.items) vs o value v w less at is

pub not_written : {V T : Type 0} (f : V → List T) (vs : List V) (o : Origin) (value : T) → length vs ≤ o.worker → map f vs ≡ with_value (map f vs) o value
not_written f vs o value past = sym (set_past (map f vs) o.worker (set (get_or (map f vs) o.worker []) o.number value) (subst (λ (n : ℕ). n ≤ o.worker) (sym (length-map vs f)) past))

-- a value is read
read_through : {V T : Type 0} (f : V → List T) (n : ℕ) (found : Option V) → option_and_then (λ (xs : List T). slice_get xs n) (option_map f found) ≡ option_and_then (λ (v : V). slice_get (f v) n) found
read_through f n None = refl
read_through f n (Some v) = refl

pub value_read : {V T : Type 0} (f : V → List T) (vs : List V) (o : Origin) (found : Option V) → found ≡ slice_get vs o.worker → value_at (map f vs) o ≡ option_and_then (λ (v : V). slice_get (f v) o.number) found
value_read {V} {T} f vs o found at =
    ap (option_and_then (λ (xs : List T). slice_get xs o.number)) (slice_get-map f vs o.worker)
    ∙ (read_through f o.number (slice_get vs o.worker) ∙ ap (option_and_then (λ (v : V). slice_get (f v) o.number)) (sym at))

-- what was written is read, where there is room
pub value_own : {T : Type 0} (lists : List (List T)) (o : Origin) (v : T) → IsSome (value_at lists o) → value_at (with_value lists o v) o ≡ Some v
value_own {T} lists o v room =
    let read : List T → Option T = λ xs. slice_get xs o.number in
    let zs : List T = get_or lists o.worker [] in
    let ys : List T = set zs o.number v in
    let found = some_of (value_at lists o) room in
    option_and_then_some (λ (xs : List T). slice_get xs o.number) (slice_get lists o.worker) found.0 found.1
    (λ xs at got.
    let is : zs ≡ xs = get_or_from_slice_get lists o.worker xs [] at in
    ap (option_and_then read) (get_set_same lists o.worker ys o.worker xs refl at)
    ∙ get_set_same zs o.number v o.number found.0 refl (subst (λ (l : List T). slice_get l o.number ≡ Some found.0) (sym is) got))

-- a list with one value more
value_pushed : {T : Type 0} (xs : List T) (v : T) (n : ℕ) → (slice_get (xs ++ v ∷ []) n ≡ slice_get xs n) ⊎ ((slice_get xs n ≡ None) × (slice_get (xs ++ v ∷ []) n ≡ Some v))
value_pushed [] v zero = inr (refl, refl)
value_pushed [] v (suc n) = inl refl
value_pushed (x ∷ xs) v zero = inl refl
value_pushed (x ∷ xs) v (suc n) = value_pushed xs v n

pub as_long : {T : Type 0} (v : T) (xs : List T) → IsLonger v xs xs
as_long {T} v xs n = inl refl

pub longer_pushed : {T : Type 0} (v : T) (old new : List T) → IsLonger v old new → IsLonger v old (new ++ v ∷ [])
longer_pushed {T} v old new h n =
    elim (value_pushed new v n) [
      | inl e ↦ elim (h n) [ inl f ↦ inl (e ∙ f) | inr f ↦ inr (f.0, e ∙ f.1) ]
      | inr e ↦ elim (h n) [ inl f ↦ inr (sym f ∙ e.0, e.1) | inr f ↦ absurd (none-some v (sym e.0 ∙ f.1)) ]
    ]

-- a worker more without outputs changes no value
at_pushed : {T : Type 0} (ls : List (List T)) (w n : ℕ)
    → option_and_then (λ (xs : List T). slice_get xs n) (slice_get (ls ++ [] ∷ []) w) ≡ option_and_then (λ (xs : List T). slice_get xs n) (slice_get ls w)
at_pushed [] zero n = refl
at_pushed [] (suc w) n = refl
at_pushed (l ∷ ls) zero n = refl
at_pushed (l ∷ ls) (suc w) n = at_pushed ls w n

pub worker_pushed : {T A : Type 0} (vs : List (Vec T A)) (v : Vec T A) (o : Origin) → v.items ≡ []
    → value_at (map (λ (x : Vec T A). x.items) (vs ++ v ∷ [])) o ≡ value_at (map (λ (x : Vec T A). x.items) vs) o
worker_pushed {T} {A} vs v o empty =
    let f = λ (x : Vec T A). x.items in
    ap (λ (ls : List (List T)). value_at ls o) (map-append f vs (v ∷ []) ∙ ap (λ (xs : List T). map f vs ++ xs ∷ []) empty)
    ∙ at_pushed (map f vs) o.worker o.number

get_within : {X : Type 0} (xs : List X) (n : ℕ) → n < length xs → IsSome (slice_get xs n)
get_within [] n h = absurd (omega (arith, h))
get_within (x ∷ xs) zero h = refl
get_within (x ∷ xs) (suc n) h = get_within xs n (omega (arith, h))

abbrev lists_in : {T A : Type 0} → List (Vec T A) → List (List T)
lists_in {T} {A} vs = map (λ (x : Vec T A). x.items) vs

-- one worker's list is another one
module _ {T A : Type 0} (vs : List (Vec T A)) (o : Origin) (old new : Vec T A) (less : o.worker < length vs) (at : old ≡ get_or vs o.worker old) where
  list_there : slice_get (lists_in vs) o.worker ≡ Some old.items
  list_there =
      let f = λ (x : Vec T A). x.items in
      let within : o.worker < length (map f vs) = subst (λ (n : ℕ). o.worker < n) (sym (length-map vs f)) less in
      slice_get-get_or (map f vs) o.worker [] within ∙ ap Some (get_or-map f vs o.worker old [] less ∙ ap f (sym at))

  value_there : (p : Origin) → p.worker ≡ o.worker → value_at (lists_in (set vs o.worker new)) p ≡ slice_get new.items p.number
  value_there p e =
      let f = λ (x : Vec T A). x.items in
      ap (λ (ls : List (List T)). value_at ls p) (map-set f vs o.worker new)
      ∙ ap (option_and_then (λ (xs : List T). slice_get xs p.number)) (get_set_same (map f vs) o.worker new.items p.worker old.items e (ap (slice_get (map f vs)) e ∙ list_there))

  pub room_there : o.number < length new.items → IsSome (value_at (map (λ (x : Vec T A). x.items) (set vs o.worker new)) o)
  room_there inside = subst (λ (x : Option T). IsSome x) (sym (value_there o refl)) (get_within new.items o.number inside)

  pub grown_there : (value : T) → IsLonger value old.items new.items → GrowsBy value (map (λ (x : Vec T A). x.items) vs) (map (λ (x : Vec T A). x.items) (set vs o.worker new))
  grown_there value longer p =
      let f = λ (x : Vec T A). x.items in
      let read : List T → Option T = λ xs. slice_get xs p.number in
      elim (cases_eq p.worker o.worker) [
        | inr n ↦ inl (ap (λ (ls : List (List T)). value_at ls p) (map-set f vs o.worker new) ∙ ap (option_and_then read) (get_set_other (map f vs) o.worker new.items p.worker n))
        | inl e ↦
            let before : value_at (map f vs) p ≡ slice_get old.items p.number = ap (option_and_then read) (ap (slice_get (map f vs)) e ∙ list_there) in
            elim (longer p.number) [ inl s ↦ inl (value_there p e ∙ (s ∙ sym before)) | inr s ↦ inr (before ∙ s.0, value_there p e ∙ s.1) ]
      ]

-- first some values are the same, and then values are added
pub grown_after : {T : Type 0} (value : T) (old mid new : List (List T)) → ((o : Origin) → value_at mid o ≡ value_at old o) → GrowsBy value mid new → GrowsBy value old new
grown_after {T} value old mid new same h o = elim (h o) [ inl e ↦ inl (e ∙ same o) | inr e ↦ inr (sym (same o) ∙ e.0, e.1) ]

pub grown_same : {T : Type 0} (value : T) (old new : List (List T)) → ((o : Origin) → value_at new o ≡ value_at old o) → GrowsBy value old new
grown_same {T} value old new same o = inl (same o)
