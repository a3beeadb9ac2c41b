-- A structure has at most one first fault.
use Rattle.std.proofs.Common.{◌≡◌, ℕ, ◌<◌, ◌≤◌, ◌==◌, Bool, true, false, List, [], ◌∷◌, length, get_or, Option, Some, None, slice_get, IsSomeAnd, Contains, if◌then◌else◌, ◌⊎◌, inl, inr, refl, ap, sym, ◌∙◌, subst, arith}
use Rattle.std.specs.List.{position_or_len}
use Rattle.std.proofs.lemmas.Bool.{eqb-true, eq-eqb}
use Rattle.std.proofs.lemmas.List.Sums.{passes_at_first}
use Rattle.std.proofs.lemmas.Option.{slice_get-get_or}
use Rattle.sdl_signal.specs.declared.ids.ChannelId.{ChannelId}
use Rattle.sdl_signal.specs.declared.ids.GateId.{GateId}
use Rattle.sdl_signal.specs.declared.ids.SetId.{SetId}
use Rattle.sdl_signal.specs.declared.ids.SignalId.{SignalId}
use Rattle.sdl_structure_parts.specs.declared.parts.Direction.{Direction}
use Rattle.sdl_structure_parts.specs.declared.parts.Side.{Side}
use Rattle.sdl_structure_parts.specs.declared.parts.Side.TheVariants.{Outer, Inner}
use Rattle.sdl_structure_parts.specs.declared.checking.CheckFault.{CheckFault}
use Rattle.sdl_structure_parts.specs.declared.checking.CheckFault.TheVariants.{BadEnds, EmptyChannel, NotInGate, Unjoined, LeadsNowhere, InitialOverMax}
use Rattle.sdl_structure_parts.specs.Order.{IsBefore}
use Rattle.sdl_structure_parts.specs.Structure.{Structure, Path, path_at}
use Rattle.sdl_structure_parts.specs.Rules.{IsAdmittedAt, LeadsOn, Applies, IsFirstFault, fault_number, fault_place, direction_rank, side_rank, signal_rank, end_rank}
use Rattle.sdl_structure_parts.proofs.Paths.{place_on, end_place, rank_at_most, rank_found, direction_same}

-- neither stands before the other
abbrev AreLevel : List ℕ → List ℕ → Type 0
AreLevel xs ys = (IsBefore xs ys → ⊥) × (IsBefore ys xs → ⊥)

level_head : (x y : ℕ) (xs ys : List ℕ) → AreLevel (x ∷ xs) (y ∷ ys) → (x ≡ y) × AreLevel xs ys
level_head x y xs ys (not_less, not_more) =
    let same : x ≡ y = level_numbers x y (λ lt. not_less (inl lt)) (λ lt. not_more (inl lt)) in
    (same, ((λ h. not_less (inr (same, h))), (λ h. not_more (inr (sym same, h)))))
  where
    level_numbers : (x y : ℕ) → (x < y → ⊥) → (y < x → ⊥) → x ≡ y
    level_numbers x y a b = grind arith

channel_same : (c e : ChannelId) → c.0 ≡ e.0 → c ≡ e
channel_same c e h = ap (λ n. let z : ChannelId = record { 0 = n } in z) h

gate_same : (g h : GateId) → g.0 ≡ h.0 → g ≡ h
gate_same g h e = ap (λ n. let z : GateId = record { 0 = n } in z) e

set_same : (t u : SetId) → t.0 ≡ u.0 → t ≡ u
set_same t u h = ap (λ n. let z : SetId = record { 0 = n } in z) h

side_same : (s t : Side) → side_rank s ≡ side_rank t → s ≡ t
side_same Outer Outer h = refl
side_same Outer Inner h = absurd (omega arith)
side_same Inner Outer h = absurd (omega arith)
side_same Inner Inner h = refl

-- a signal of a list stands at its first place
at_rank : (xs : List SignalId) (x : SignalId) → Contains xs x → slice_get xs (position_or_len (λ y. y.0 == x.0) xs) ≡ Some x
at_rank xs x (j, lt, is) =
    let le : position_or_len (λ y. y.0 == x.0) xs ≤ j = rank_at_most xs x j is in
    let within : position_or_len (λ y. y.0 == x.0) xs < length xs = omega arith in
    let passes : ((get_or xs (position_or_len (λ y. y.0 == x.0) xs) x).0 == x.0) ≡ true = passes_at_first (λ y. y.0 == x.0) xs x within in
    let found : get_or xs (position_or_len (λ y. y.0 == x.0) xs) x ≡ x = ap (λ n. let z : SignalId = record { 0 = n } in z) (eqb-true _ _ passes) in
    slice_get-get_or xs (position_or_len (λ y. y.0 == x.0) xs) x within ∙ ap Some found

signal_same : (p : Path) (x y : SignalId) → Contains p.signals x → Contains p.signals y → signal_rank p x ≡ signal_rank p y → x ≡ y
signal_same p x y has has' h = rank_found p.signals y x (signal_rank p y) (at_rank p.signals y has') has h

bool_cases : {A : Type 0} (b : Bool) → (b ≡ true → A) → (b ≡ false → A) → A
bool_cases true f g = f refl
bool_cases false f g = g refl

start_or_not : (p : Path) (g : GateId) → ((p.start.gate ≡ g) × (end_rank p g ≡ 0)) ⊎ ((p.start.gate ≡ g → ⊥) × (end_rank p g ≡ 1))
start_or_not p g =
    bool_cases (p.start.gate.0 == g.0)
    (λ e. inl (gate_same p.start.gate g (eqb-true _ _ e), ap (λ b. if b then 0 else 1) e))
    (λ e. inr (
      (λ same. let yes : (p.start.gate.0 == g.0) ≡ true = eq-eqb _ _ (ap (λ (h : GateId). h.0) same) in let f : true ≡ false = sym yes ∙ e in cc),
      ap (λ b. if b then 0 else 1) e,
    ))

-- a gate that does not admit a signal of a path, and is not at its start, is at its end
finish_is : (s : Structure) (p : Path) (x : SignalId) (g : GateId) → (IsAdmittedAt s p x g → ⊥) → (p.start.gate ≡ g → ⊥) → p.finish.gate ≡ g
finish_is s p x g fails apart =
    bool_cases (p.finish.gate.0 == g.0)
    (λ e. gate_same p.finish.gate g (eqb-true _ _ e))
    (λ e. absurd (fails (
      (λ same. absurd (apart same)),
      (λ same. let yes : (p.finish.gate.0 == g.0) ≡ true = eq-eqb _ _ (ap (λ (h : GateId). h.0) same) in absurd (let f : true ≡ false = sym yes ∙ e in cc)),
    )))

gate_of_rank : (s : Structure) (p : Path) (x : SignalId) (g h : GateId) → (IsAdmittedAt s p x g → ⊥) → (IsAdmittedAt s p x h → ⊥) → end_rank p g ≡ end_rank p h → g ≡ h
gate_of_rank s p x g h fails fails' same =
    elim (start_or_not p g) [
      | inl (at, zero_is) ↦ elim (start_or_not p h) [
        | inl (at', zero_is') ↦ sym at ∙ at'
        | inr (apart', one_is') ↦ absurd (let f : ◌≡◌ {A = ℕ} 0 1 = sym zero_is ∙ same ∙ one_is' in omega (arith, f))
      ]
      | inr (apart, one_is) ↦ elim (start_or_not p h) [
        | inl (at', zero_is') ↦ absurd (let f : ◌≡◌ {A = ℕ} 1 0 = sym one_is ∙ same ∙ zero_is' in omega (arith, f))
        | inr (apart', one_is') ↦ sym (finish_is s p x g fails apart) ∙ finish_is s p x h fails' apart'
      ]
    ]

some_gives : (o : Option Path) (P : Path → Type 0) (X : Type 0) → ((p : Path) → P p → X) → IsSomeAnd o P → X
some_gives None P X f h = absurd h
some_gives (Some p) P X f h = f p h

-- faults of one path that are level name one signal
signals_level : (t u : Path → List ℕ) (P Q : Path → Type 0) (x y : SignalId) (o : Option Path)
    → IsSomeAnd o (λ p. Contains p.signals x × P p) → IsSomeAnd o (λ p. Contains p.signals y × Q p) → AreLevel (place_on t x o) (place_on u y o)
    → IsSomeAnd o (λ p. (x ≡ y) × P p × Q p × AreLevel (t p) (u p))
signals_level t u P Q x y None h k level = absurd h
signals_level t u P Q x y (Some p) h k level =
    let (ranks, more) = level_head (signal_rank p x) (signal_rank p y) (t p) (u p) level in
    (signal_same p x y h.0 k.0 ranks, h.1, k.1, more)

only_not_in_gate : (s : Structure) (c e : ChannelId) (d f : Direction) (x y : SignalId) (g h : GateId) → Applies s (NotInGate c d x g) → Applies s (NotInGate e f y h)
    → AreLevel (fault_place s (NotInGate c d x g)) (fault_place s (NotInGate e f y h)) → NotInGate c d x g ≡ NotInGate e f y h
only_not_in_gate s c e d f x y g h applies applies' level =
    let (channels, rest) = level_head c.0 e.0 (direction_rank d ∷ place_on (end_place g) x (path_at s c d)) (direction_rank f ∷ place_on (end_place h) y (path_at s e f)) level in
    let (directions, more) = level_head (direction_rank d) (direction_rank f) (place_on (end_place g) x (path_at s c d)) (place_on (end_place h) y (path_at s e f)) rest in
    let ec : e ≡ c = channel_same e c (sym channels) in
    let ed : f ≡ d = direction_same f d (sym directions) in
    let path : path_at s e f ≡ path_at s c d = ap (λ (z : ChannelId). path_at s z f) ec ∙ ap (λ (z : Direction). path_at s c z) ed in
    let found = signals_level (end_place g) (end_place h) (λ p. ¬ IsAdmittedAt s p x g) (λ p. ¬ IsAdmittedAt s p y h) x y (path_at s c d) applies
    (subst (λ (o : Option Path). IsSomeAnd o (λ p. Contains p.signals y × ¬ IsAdmittedAt s p y h)) path applies')
    (subst (λ (o : Option Path). AreLevel (place_on (end_place g) x (path_at s c d)) (place_on (end_place h) y o)) path more) in
    some_gives (path_at s c d) (λ p. (x ≡ y) × (¬ IsAdmittedAt s p x g) × (¬ IsAdmittedAt s p y h) × AreLevel (end_place g p) (end_place h p)) (NotInGate c d x g ≡ NotInGate e f y h)
    (λ p (signals, fails, fails', ends).
    let gates : g ≡ h = gate_of_rank s p x g h fails (subst (λ (z : SignalId). ¬ IsAdmittedAt s p z h) (sym signals) fails') (level_head (end_rank p g) (end_rank p h) [] [] ends).0 in
    cc (ec, ed, signals, gates))
    found

only_leads_nowhere : (s : Structure) (c e : ChannelId) (d f : Direction) (x y : SignalId) → Applies s (LeadsNowhere c d x) → Applies s (LeadsNowhere e f y)
    → AreLevel (fault_place s (LeadsNowhere c d x)) (fault_place s (LeadsNowhere e f y)) → LeadsNowhere c d x ≡ LeadsNowhere e f y
only_leads_nowhere s c e d f x y applies applies' level =
    let none : Path → List ℕ = λ p. [] in
    let (channels, rest) = level_head c.0 e.0 (direction_rank d ∷ place_on none x (path_at s c d)) (direction_rank f ∷ place_on none y (path_at s e f)) level in
    let (directions, more) = level_head (direction_rank d) (direction_rank f) (place_on none x (path_at s c d)) (place_on none y (path_at s e f)) rest in
    let ec : e ≡ c = channel_same e c (sym channels) in
    let ed : f ≡ d = direction_same f d (sym directions) in
    let path : path_at s e f ≡ path_at s c d = ap (λ (z : ChannelId). path_at s z f) ec ∙ ap (λ (z : Direction). path_at s c z) ed in
    let found = signals_level none none (λ p. ¬ LeadsOn s p.finish x) (λ p. ¬ LeadsOn s p.finish y) x y (path_at s c d) applies
    (subst (λ (o : Option Path). IsSomeAnd o (λ p. Contains p.signals y × ¬ LeadsOn s p.finish y)) path applies')
    (subst (λ (o : Option Path). AreLevel (place_on none x (path_at s c d)) (place_on none y o)) path more) in
    some_gives (path_at s c d) (λ p. (x ≡ y) × (¬ LeadsOn s p.finish x) × (¬ LeadsOn s p.finish y) × AreLevel [] []) (LeadsNowhere c d x ≡ LeadsNowhere e f y)
    (λ p (signals, fails, fails', ends). cc (ec, ed, signals))
    found

only_level : (s : Structure) (f g : CheckFault) → Applies s f → Applies s g → fault_number f ≡ fault_number g → AreLevel (fault_place s f) (fault_place s g) → f ≡ g
only_level s (BadEnds c) (BadEnds e) a b n level = ap BadEnds (channel_same c e (level_head c.0 e.0 [] [] level).0)
only_level s (EmptyChannel c) (EmptyChannel e) a b n level = ap EmptyChannel (channel_same c e (level_head c.0 e.0 [] [] level).0)
only_level s (NotInGate c d x g) (NotInGate e f y h) a b n level = only_not_in_gate s c e d f x y g h a b level
only_level s (Unjoined g side) (Unjoined h other) a b n level =
    let (gates, more) = level_head g.0 h.0 (side_rank side ∷ []) (side_rank other ∷ []) level in
    let eg : g ≡ h = gate_same g h gates in
    let es : side ≡ other = side_same side other (level_head (side_rank side) (side_rank other) [] [] more).0 in
    cc (eg, es)
only_level s (LeadsNowhere c d x) (LeadsNowhere e f y) a b n level = only_leads_nowhere s c e d f x y a b level
only_level s (InitialOverMax t) (InitialOverMax u) a b n level = ap InitialOverMax (set_same t u (level_head t.0 u.0 [] [] level).0)
only_level s f g a b n level = absurd (omega arith)

pub only_first : (s : Structure) (f g : CheckFault) → IsFirstFault s f → IsFirstFault s g → f ≡ g
only_first s f g first first' =
    let number : fault_number f ≡ fault_number g =
    level (fault_number f) (fault_number g) (first'.no_lower f first.applies) (first.no_lower g first'.applies) in
    only_level s f g first.applies first'.applies number
    (first'.no_earlier f first.applies number, first.no_earlier g first'.applies (sym number))
  where
    level : (x y : ℕ) → (x < y → ⊥) → (y < x → ⊥) → x ≡ y
    level x y a b = grind arith
