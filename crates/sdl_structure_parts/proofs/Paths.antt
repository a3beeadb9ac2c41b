-- The rules of the signals of a path: from place to place, and the first fault.
use Rattle.std.proofs.Common.{◌≡◌, ℕ, suc, ◌<◌, ◌≤◌, ◌==◌, true, false, List, [], ◌∷◌, length, get_or, Option, Some, None, option_map, slice_get, IfSome, Contains, ◌⊎◌, inl, inr, refl, ap, sym, ◌∙◌, subst, arith}
use Rattle.std.specs.List.{position_or_len}
use Rattle.std.specs.Option.{option_map_or}
use Rattle.std.proofs.lemmas.Bool.{eqb-true, eq-eqb}
use Rattle.std.proofs.lemmas.List.Sums.{fails_before_first, passes_at_first}
use Rattle.std.proofs.lemmas.Option.{get_or_from_slice_get, slice_get_read, slice_get_within}
use Rattle.sdl_signal.specs.declared.ids.ChannelId.{ChannelId}
use Rattle.sdl_signal.specs.declared.ids.GateId.{GateId}
use Rattle.sdl_signal.specs.declared.ids.SignalId.{SignalId}
use Rattle.sdl_structure_parts.specs.declared.parts.Channel.{Channel}
use Rattle.sdl_structure_parts.specs.declared.parts.Direction.{Direction}
use Rattle.sdl_structure_parts.specs.declared.parts.Direction.TheVariants.{Forth, Back}
use Rattle.sdl_structure_parts.specs.declared.checking.CheckFault.{CheckFault}
use Rattle.sdl_structure_parts.specs.declared.checking.CheckFault.TheVariants.{NotInGate, LeadsNowhere}
use Rattle.sdl_structure_parts.specs.Order.{IsBefore}
use Rattle.sdl_structure_parts.specs.Structure.{Structure, Path, path_of, path_at}
use Rattle.sdl_structure_parts.specs.Rules.{IsAdmittedAt, LeadsOn, fault_number, fault_place, direction_rank, signal_rank, end_rank}
use Rattle.sdl_structure_parts.specs.EachRule.{Holds, IsKeptBefore, IsFirstOf}
use Rattle.sdl_structure_parts.proofs.Numbers.{less_cases, below_or_past, some_at}

pub only_3 : (P : CheckFault → Type 0) → ((c : ChannelId) (d : Direction) (x : SignalId) (g : GateId) → P (NotInGate c d x g)) → (f : CheckFault) → fault_number f ≡ 3 → P f
only_3 P h (NotInGate c d x g) e = h c d x g
only_3 P h f e = absurd (omega arith)

pub only_5 : (P : CheckFault → Type 0) → ((c : ChannelId) (d : Direction) (x : SignalId) → P (LeadsNowhere c d x)) → (f : CheckFault) → fault_number f ≡ 5 → P f
only_5 P h (LeadsNowhere c d x) e = h c d x
only_5 P h f e = absurd (omega arith)

-- the first place of a signal in a list is not behind any of its places
pub rank_at_most : (xs : List SignalId) (x : SignalId) (k : ℕ) → get_or xs k x ≡ x → position_or_len (λ y. y.0 == x.0) xs ≤ k
rank_at_most xs x k at =
    elim (below_or_past k (position_or_len (λ y. y.0 == x.0) xs)) [
      | inl lt ↦
          let no : ((get_or xs k x).0 == x.0) ≡ false = fails_before_first (λ y. y.0 == x.0) xs k x lt in
          let yes : ((get_or xs k x).0 == x.0) ≡ true = eq-eqb _ _ (ap (λ (y : SignalId). y.0) at) in
          absurd (let e : true ≡ false = sym yes ∙ no in cc)
      | inr le ↦ le
    ]

there : (xs : List SignalId) (k : ℕ) (x : SignalId) → slice_get xs k ≡ Some x → Contains xs x
there xs k x at = (k, slice_get_within xs k x at, get_or_from_slice_get xs k x x at)

-- the signal at the first place of another is that signal
pub rank_found : (xs : List SignalId) (x y : SignalId) (k : ℕ) → slice_get xs k ≡ Some x → Contains xs y → position_or_len (λ z. z.0 == y.0) xs ≡ k → y ≡ x
rank_found xs x y k at (j, lt, is) rank =
    let le : position_or_len (λ z. z.0 == y.0) xs ≤ j = rank_at_most xs y j is in
    let within : position_or_len (λ z. z.0 == y.0) xs < length xs = omega arith in
    let passes : ((get_or xs (position_or_len (λ z. z.0 == y.0) xs) y).0 == y.0) ≡ true = passes_at_first (λ z. z.0 == y.0) xs y within in
    let found : get_or xs (position_or_len (λ z. z.0 == y.0) xs) y ≡ x = ap (λ n. get_or xs n y) rank ∙ get_or_from_slice_get xs k x y at in
    let same : x.0 ≡ y.0 = ap (λ (z : SignalId). z.0) (sym found) ∙ eqb-true _ _ passes in
    ap (λ n. let z : SignalId = record { 0 = n } in z) (sym same)

-- what follows the direction in a place
abbrev pub place_on : (Path → List ℕ) → SignalId → Option Path → List ℕ
place_on t x o = option_map_or (λ p. signal_rank p x ∷ t p) o []

-- a rule of a signal of a path
abbrev pub HoldsOn : (Path → SignalId → Type 0) → SignalId → Option Path → Type 0
HoldsOn Q x o = IfSome o (λ p. Contains p.signals x → Q p x)

none_before : (t : Path → List ℕ) (Q : Path → SignalId → Type 0) (x : SignalId) (o : Option Path) → IsBefore (place_on t x o) (0 ∷ []) → HoldsOn Q x o
none_before t Q x None h = tt
none_before t Q x (Some p) h = elim h [ inl lt ↦ absurd (omega arith) | inr same ↦ absurd same.1 ]

next_on : (t : Path → List ℕ) (Q : Path → SignalId → Type 0) (p : Path) (k : ℕ) (x y : SignalId) (o : Option Path) → o ≡ Some p
    → slice_get p.signals k ≡ Some x → Q p x → IsBefore (place_on t y o) (suc k ∷ []) → IsBefore (place_on t y o) (k ∷ []) ⊎ HoldsOn Q y o
next_on t Q p k x y None is at h before = inr tt
next_on t Q p k x y (Some q) is at h before =
    let same : q ≡ p = cc in
    elim before [
      | inl lt ↦ elim (less_cases (signal_rank q y) k lt) [
        | inl less ↦ inl (inl less)
        | inr rank ↦ inr (λ has.
            let e : y ≡ x = rank_found q.signals x y k (ap (λ (r : Path). slice_get r.signals k) same ∙ at) has rank in
            subst (λ (r : Path). Q r y) (sym same) (subst (λ (z : SignalId). Q p z) (sym e) h))
      ]
      | inr none ↦ absurd none.1
    ]

-- places before the first place of a signal that stands at k
first_on : (t : Path → List ℕ) (Q : Path → SignalId → Type 0) (p : Path) (k : ℕ) (x y : SignalId) (u : List ℕ) (o : Option Path) → o ≡ Some p
    → slice_get p.signals k ≡ Some x → (IsBefore (t p) u → Q p x) → IsBefore (place_on t y o) (signal_rank p x ∷ u)
    → IsBefore (place_on t y o) (k ∷ []) ⊎ HoldsOn Q y o
first_on t Q p k x y u None is at h before = inr tt
first_on t Q p k x y u (Some q) is at h before =
    let same : q ≡ p = cc in
    let least : signal_rank p x ≤ k = rank_at_most p.signals x k (get_or_from_slice_get p.signals k x x at) in
    elim before [
      | inl lt ↦ inl (inl (omega arith))
      | inr (rank, rest) ↦ elim (below_or_past (signal_rank q y) k) [
        | inl less ↦ inl (inl less)
        | inr past ↦ inr (λ has.
            let here : signal_rank q y ≡ k = omega arith in
            let e : y ≡ x = rank_found q.signals x y k (ap (λ (r : Path). slice_get r.signals k) same ∙ at) has here in
            let sooner : IsBefore (t p) u = subst (λ (r : Path). IsBefore (t r) u) same rest in
            subst (λ (r : Path). Q r y) (sym same) (subst (λ (z : SignalId). Q p z) (sym e) (h sooner)))
      ]
    ]

pub direction_same : (d e : Direction) → direction_rank d ≡ direction_rank e → d ≡ e
direction_same Forth Forth h = refl
direction_same Forth Back h = absurd (omega arith)
direction_same Back Forth h = absurd (omega arith)
direction_same Back Back h = refl

path_same : (s : Structure) (c : ChannelId) (n : ℕ) (d e : Direction) → c.0 ≡ n → direction_rank d ≡ direction_rank e
    → path_at s c d ≡ path_at s (record { 0 = n }) e
path_same s c n d e number direction =
    ap (λ m. path_at s (record { 0 = m }) d) number ∙ ap (λ (f : Direction). path_at s (record { 0 = n }) f) (direction_same d e direction)

pub path_here : (s : Structure) (xs : List Channel) (n : ℕ) (channel : Channel) (d : Direction) → xs ≡ s.channels → n < length s.channels → channel ≡ get_or xs n channel
    → path_at s (record { 0 = n }) d ≡ Some (path_of channel d)
path_here s xs n channel d same lt at =
    let at' : channel ≡ get_or s.channels n channel = at ∙ ap (λ (ys : List Channel). get_or ys n channel) same in
    ap (λ (o : Option Channel). option_map (λ c. path_of c d) o) (slice_get_read s.channels (length s.channels) n channel refl lt at')

-- a place before one on this path is on an earlier path, or on this one
path_cases : (c n : ℕ) (d e : ℕ) (rest low : List ℕ) → IsBefore (c ∷ d ∷ rest) (n ∷ e ∷ low)
    → ((other : List ℕ) → IsBefore (c ∷ d ∷ rest) (n ∷ e ∷ other)) ⊎ ((c ≡ n) × (d ≡ e) × IsBefore rest low)
path_cases c n d e rest low h =
    elim h [
      | inl lt ↦ inl (λ other. inl lt)
      | inr (number, inner) ↦ elim inner [
        | inl lt ↦ inl (λ other. inr (number, inl lt))
        | inr (direction, more) ↦ inr (number, direction, more)
      ]
    ]

inside_on : (t : Path → List ℕ) (Q : Path → SignalId → Type 0) (p : Path) (k : ℕ) (x : SignalId) (o : Option Path) → o ≡ Some p → length p.signals ≤ k
    → (IsBefore (place_on t x o) (k ∷ []) → HoldsOn Q x o) → HoldsOn Q x o
inside_on t Q p k x None is short h = tt
inside_on t Q p k x (Some q) is short h =
    λ (j, lt, at).
    let same : q ≡ p = cc in
    let few : length q.signals ≤ k = subst (λ (r : Path). length r.signals ≤ k) (sym same) short in
    let le : signal_rank q x ≤ j = rank_at_most q.signals x j at in
    h (inl (omega arith)) (j, lt, at)

-- A rule of a path's signals, with what more its faults name: it holds at the places before this one.
module _ (s : Structure) (A : Type 0) (t : A → Path → List ℕ) (Q : A → Path → SignalId → Type 0) where
  abbrev pub place_of : ChannelId → Direction → SignalId → A → List ℕ
  place_of c d x a = c.0 ∷ direction_rank d ∷ place_on (t a) x (path_at s c d)

  abbrev pub IsKeptOn : List ℕ → Type 0
  IsKeptOn place = (c : ChannelId) (d : Direction) (x : SignalId) (a : A) → IsBefore (place_of c d x a) place → HoldsOn (Q a) x (path_at s c d)

  pub enter_path : (n r : ℕ) → IsKeptOn (n ∷ r ∷ []) → IsKeptOn (n ∷ r ∷ 0 ∷ [])
  enter_path n r kept c d x a h =
      elim (path_cases c.0 n (direction_rank d) r (place_on (t a) x (path_at s c d)) (0 ∷ []) h) [
        | inl sooner ↦ kept c d x a (sooner [])
        | inr (number, direction, rest) ↦ none_before (t a) (Q a) x (path_at s c d) rest
      ]

  pub leave_path : (n : ℕ) (e : Direction) (p : Path) (k : ℕ) → path_at s (record { 0 = n }) e ≡ Some p → length p.signals ≤ k
      → IsKeptOn (n ∷ direction_rank e ∷ k ∷ []) → IsKeptOn (n ∷ suc (direction_rank e) ∷ [])
  leave_path n e p k is short kept c d x a h =
      elim h [
        | inl lt ↦ kept c d x a (inl lt)
        | inr (number, inner) ↦ elim inner [
          | inl lt ↦ elim (less_cases (direction_rank d) (direction_rank e) lt) [
            | inl less ↦ kept c d x a (inr (number, inl less))
            | inr same ↦
                inside_on (t a) (Q a) p k x (path_at s c d) (path_same s c n d e number same ∙ is) short
                (λ before. kept c d x a (inr (number, inr (same, before))))
          ]
          | inr same ↦ absurd same.1
        ]
      ]

  pub next_signal : (n : ℕ) (e : Direction) (p : Path) (k : ℕ) (y : SignalId) → path_at s (record { 0 = n }) e ≡ Some p → slice_get p.signals k ≡ Some y
      → ((a : A) → Q a p y) → IsKeptOn (n ∷ direction_rank e ∷ k ∷ []) → IsKeptOn (n ∷ direction_rank e ∷ suc k ∷ [])
  next_signal n e p k y is at all kept c d x a h =
      elim (path_cases c.0 n (direction_rank d) (direction_rank e) (place_on (t a) x (path_at s c d)) (suc k ∷ []) h) [
        | inl sooner ↦ kept c d x a (sooner (k ∷ []))
        | inr (number, direction, rest) ↦
            elim (next_on (t a) (Q a) p k y x (path_at s c d) (path_same s c n d e number direction ∙ is) at (all a) rest) [
              | inl less ↦ kept c d x a (inr (number, inr (direction, less)))
              | inr holds ↦ holds
            ]
      ]

  pub first_signal : (n : ℕ) (e : Direction) (p : Path) (k : ℕ) (y : SignalId) (b : A) → path_at s (record { 0 = n }) e ≡ Some p → slice_get p.signals k ≡ Some y
      → ((a : A) → IsBefore (t a p) (t b p) → Q a p y) → IsKeptOn (n ∷ direction_rank e ∷ k ∷ []) → IsKeptOn (place_of (record { 0 = n }) e y b)
  first_signal n e p k y b is at sooner kept c d x a h =
      let on : place_on (t b) y (path_at s (record { 0 = n }) e) ≡ signal_rank p y ∷ t b p = ap (λ (o : Option Path). place_on (t b) y o) is in
      let before : IsBefore (place_of c d x a) (n ∷ direction_rank e ∷ signal_rank p y ∷ t b p) =
      subst (λ (rest : List ℕ). IsBefore (place_of c d x a) (n ∷ direction_rank e ∷ rest)) on h in
      elim (path_cases c.0 n (direction_rank d) (direction_rank e) (place_on (t a) x (path_at s c d)) (signal_rank p y ∷ t b p) before) [
        | inl earlier ↦ kept c d x a (earlier (k ∷ []))
        | inr (number, direction, rest) ↦
            elim (first_on (t a) (Q a) p k y x (t b p) (path_at s c d) (path_same s c n d e number direction ∙ is) at (sooner a) rest) [
              | inl less ↦ kept c d x a (inr (number, inr (direction, less)))
              | inr holds ↦ holds
            ]
      ]

-- the third rule and the fifth
abbrev pub end_place : GateId → Path → List ℕ
end_place g p = end_rank p g ∷ []

abbrev pub Admitted : Structure → GateId → Path → SignalId → Type 0
Admitted s g p x = IsAdmittedAt s p x g

abbrev pub IsAdmittedBefore : Structure → List ℕ → Type 0
IsAdmittedBefore s place = IsKeptOn s GateId end_place (Admitted s) place

pub from_admitted : (s : Structure) (place : List ℕ) → IsAdmittedBefore s place → IsKeptBefore s 3 place
from_admitted s place kept = only_3 (λ f. IsBefore (fault_place s f) place → Holds s f) kept

pub to_admitted : (s : Structure) (place : List ℕ) → IsKeptBefore s 3 place → IsAdmittedBefore s place
to_admitted s place kept c d x g = kept (NotInGate c d x g) refl

abbrev pub no_place : Unit {0} → Path → List ℕ
no_place u p = []

abbrev pub Leads : Structure → Unit {0} → Path → SignalId → Type 0
Leads s u p x = LeadsOn s p.finish x

abbrev pub IsLedBefore : Structure → List ℕ → Type 0
IsLedBefore s place = IsKeptOn s (Unit {0}) no_place (Leads s) place

pub from_led : (s : Structure) (place : List ℕ) → IsLedBefore s place → IsKeptBefore s 5 place
from_led s place kept = only_5 (λ f. IsBefore (fault_place s f) place → Holds s f) (λ c d x. kept c d x tt)

pub to_led : (s : Structure) (place : List ℕ) → IsKeptBefore s 5 place → IsLedBefore s place
to_led s place kept c d x u = kept (LeadsNowhere c d x) refl

pub admitted_first : (s : Structure) (n : ℕ) (d : Direction) (p : Path) (k : ℕ) (x : SignalId) (g : GateId) → path_at s (record { 0 = n }) d ≡ Some p → slice_get p.signals k ≡ Some x
    → ¬ IsAdmittedAt s p x g → ((other : GateId) → end_rank p other < end_rank p g → IsAdmittedAt s p x other)
    → IsKeptBefore s 3 (n ∷ direction_rank d ∷ k ∷ []) → IsFirstOf s 3 (NotInGate (record { 0 = n }) d x g)
admitted_first s n d p k x g is at fails sooner kept = record {
  applies = some_at (λ p. Contains p.signals x × ¬ IsAdmittedAt s p x g) (path_at s (record { 0 = n }) d) p is (there p.signals k x at, fails);
  number_is = refl;
  before = from_admitted s (fault_place s (NotInGate (record { 0 = n }) d x g))
      (first_signal s GateId end_place (Admitted s) n d p k x g is at
      (λ other h. elim h [ inl lt ↦ sooner other lt | inr same ↦ absurd same.1 ])
      (to_admitted s (n ∷ direction_rank d ∷ k ∷ []) kept));
}

pub led_first : (s : Structure) (n : ℕ) (d : Direction) (p : Path) (k : ℕ) (x : SignalId) → path_at s (record { 0 = n }) d ≡ Some p → slice_get p.signals k ≡ Some x
    → ¬ LeadsOn s p.finish x → IsKeptBefore s 5 (n ∷ direction_rank d ∷ k ∷ []) → IsFirstOf s 5 (LeadsNowhere (record { 0 = n }) d x)
led_first s n d p k x is at fails kept = record {
  applies = some_at (λ p. Contains p.signals x × ¬ LeadsOn s p.finish x) (path_at s (record { 0 = n }) d) p is (there p.signals k x at, fails);
  number_is = refl;
  before = from_led s (fault_place s (LeadsNowhere (record { 0 = n }) d x))
      (first_signal s (Unit {0}) no_place (Leads s) n d p k x tt is at (λ u h. absurd h) (to_led s (n ∷ direction_rank d ∷ k ∷ []) kept));
}
