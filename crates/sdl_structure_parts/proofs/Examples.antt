-- The system Echo, which answers `ping` with `pong`, is well formed. With one change it is not: a change for each rule.
use Rattle.std.proofs.Common.{◌≡◌, ℕ, zero, suc, ◌<◌, List, [], ◌∷◌, get_or, slice_get, false, IfSome, Contains, inl, inr, refl, ap, sym, ◌∙◌, subst, codes, arith, lit≤, lit<}
use Rattle.arrayvec.specs.ArrayString.{ArrayString}
use Rattle.sdl_signal.specs.declared.ids.SignalId.{SignalId}
use Rattle.sdl_signal.specs.declared.ids.GateId.{GateId}
use Rattle.sdl_signal.specs.declared.values.Sort.TheVariants as sort
use Rattle.sdl_structure_parts.specs.declared.parts.Gate.{Gate}
use Rattle.sdl_structure_parts.specs.declared.parts.Channel.{Channel}
use Rattle.sdl_structure_parts.specs.declared.parts.End.{End}
use Rattle.sdl_structure_parts.specs.declared.parts.Owner.{Owner}
use Rattle.sdl_structure_parts.specs.declared.parts.Owner.TheVariants as owner
use Rattle.sdl_structure_parts.specs.declared.parts.Scope.{Scope}
use Rattle.sdl_structure_parts.specs.declared.parts.Scope.TheVariants as scope
use Rattle.sdl_structure_parts.specs.declared.parts.Side.{Side}
use Rattle.sdl_structure_parts.specs.declared.parts.Side.TheVariants.{Outer, Inner}
use Rattle.sdl_structure_parts.specs.declared.parts.Direction.{Direction}
use Rattle.sdl_structure_parts.specs.declared.parts.Direction.TheVariants.{Forth, Back}
use Rattle.sdl_structure_parts.specs.declared.checking.CheckFault.{CheckFault}
use Rattle.sdl_structure_parts.specs.declared.checking.CheckFault.TheVariants.{BadEnds, EmptyChannel, NotInGate, Unjoined, LeadsNowhere, InitialOverMax}
use Rattle.sdl_structure_parts.specs.Order.{IsBefore}
use Rattle.sdl_structure_parts.specs.Structure.{Structure, Path, path_of, path_at, gate_at, HasSide}
use Rattle.sdl_structure_parts.specs.Rules.{HasDistinctEnds, CarriesSome, AdmitsStart, AdmitsFinish, IsAdmittedAt, IsJoined, LeadsOn, CarriesFrom, IsWellFormed, Applies, fault_number, fault_place, IsFirstFault}
use Rattle.sdl_structure_parts.specs.EachRule.{Holds}
use Rattle.sdl_structure_parts.proofs.Whole.{holds_never_applies}

abbrev named : List ℕ → ArrayString
named text = record { bytes = text; spare = [] }

abbrev ping : SignalId
ping = record { 0 = 0 }

abbrev pong : SignalId
pong = record { 0 = 1 }

abbrev gate : List ℕ → Owner → List SignalId → Gate
gate name owned inward = record { name = named name; owner = owned; inward = record { items = inward }; outward = record { items = pong ∷ [] } }

abbrev end : ℕ → Side → End
end number side = record { gate = record { 0 = number }; side = side }

abbrev channel : List ℕ → Scope → End → End → List SignalId → List SignalId → Channel
channel name within first second forth back = record {
  name = named name;
  scope = within;
  first = first;
  second = second;
  forth = record { items = forth };
  back = record { items = back };
  nodelay = false;
}

abbrev system : ℕ → ℕ → List Gate → List Channel → Structure
system initial maximum gates channels = record {
  system = codes "Echo";
  budget = 100000;
  signals =
      record { name = named (codes "ping"); sorts = record { items = sort.Integer ∷ [] } }
      ∷ record { name = named (codes "pong"); sorts = record { items = sort.Integer ∷ [] } } ∷ [];
  blocks = record { name = named (codes "B"); scope = scope.System; depth = 1 } ∷ [];
  sets = record { name = named (codes "E"); block = record { 0 = 0 }; initial = initial; maximum = maximum } ∷ [];
  gates = gates;
  channels = channels;
}

-- the gates `line` of the system, B.g and E.p
abbrev gates : List SignalId → List Gate
gates inward =
    gate (codes "line") owner.System (ping ∷ [])
    ∷ gate (codes "g") (owner.Block (record { 0 = 0 })) inward
    ∷ gate (codes "p") (owner.Set (record { 0 = 0 })) (ping ∷ [])
    ∷ []

-- from `line` to B.g, and on to E.p
abbrev outside : Channel
outside = channel (codes "c0") scope.System (end 0 Inner) (end 1 Outer) (ping ∷ []) (pong ∷ [])

abbrev inside : List SignalId → Channel
inside forth = channel (codes "c1") (scope.Block (record { 0 = 0 })) (end 1 Inner) (end 2 Outer) forth (pong ∷ [])

abbrev echo : ℕ → ℕ → Structure
echo initial maximum = system initial maximum (gates (ping ∷ [])) (outside ∷ inside (ping ∷ []) ∷ [])

admits : (s : Structure) (p : Path) (x : SignalId)
    → IfSome (gate_at s p.start.gate) (λ g. AdmitsStart g p.start.side x) → IfSome (gate_at s p.finish.gate) (λ g. AdmitsFinish g p.finish.side x)
    → (g : GateId) → IsAdmittedAt s p x g
admits s p x start finish g = (
  λ e. subst (λ g. IfSome (gate_at s g) (λ g. AdmitsStart g p.start.side x)) e start,
  λ e. subst (λ g. IfSome (gate_at s g) (λ g. AdmitsFinish g p.finish.side x)) e finish,
)

echo_ends : (i m n : ℕ) → IfSome (slice_get (echo i m).channels n) HasDistinctEnds
echo_ends i m zero = ((λ e. let f : ◌≡◌ {A = ℕ} 0 1 = ap (λ (g : GateId). g.0) e in omega arith), (λ (a, b). let f : Outer ≡ Inner = b in cc))
echo_ends i m (suc zero) = ((λ e. let f : ◌≡◌ {A = ℕ} 1 2 = ap (λ (g : GateId). g.0) e in omega arith), (λ (a, b). let f : Outer ≡ Inner = b in cc))
echo_ends i m (suc (suc n)) = tt

echo_carries : (i m n : ℕ) → IfSome (slice_get (echo i m).channels n) CarriesSome
echo_carries i m zero = λ (a, b). cc
echo_carries i m (suc zero) = λ (a, b). cc
echo_carries i m (suc (suc n)) = tt

echo_admits : (i m n : ℕ) (d : Direction) (x : SignalId) (g : GateId)
    → IfSome (path_at (echo i m) (record { 0 = n }) d) (λ p. Contains p.signals x → IsAdmittedAt (echo i m) p x g)
echo_admits i m zero Forth x g = λ has. admits (echo i m) (path_of outside Forth) x has has g
echo_admits i m zero Back x g = λ has. admits (echo i m) (path_of outside Back) x has has g
echo_admits i m (suc zero) Forth x g = λ has. admits (echo i m) (path_of (inside (ping ∷ [])) Forth) x has has g
echo_admits i m (suc zero) Back x g = λ has. admits (echo i m) (path_of (inside (ping ∷ [])) Back) x has has g
echo_admits i m (suc (suc n)) d x g = tt

echo_joins : (i m n : ℕ) (side : Side) → IfSome (slice_get (echo i m).gates n) (λ gate. HasSide gate.owner side → IsJoined (echo i m) (end n side))
echo_joins i m zero Outer = λ h. absurd h
echo_joins i m zero Inner = λ h. (0, outside, lit< tt, refl, inl refl)
echo_joins i m (suc zero) Outer = λ h. (0, outside, lit< tt, refl, inr refl)
echo_joins i m (suc zero) Inner = λ h. (1, inside (ping ∷ []), lit< tt, refl, inl refl)
echo_joins i m (suc (suc zero)) Outer = λ h. (1, inside (ping ∷ []), lit< tt, refl, inr refl)
echo_joins i m (suc (suc zero)) Inner = λ h. absurd h
echo_joins i m (suc (suc (suc n))) side = tt

echo_leads : (i m n : ℕ) (d : Direction) (x : SignalId)
    → IfSome (path_at (echo i m) (record { 0 = n }) d) (λ p. Contains p.signals x → LeadsOn (echo i m) p.finish x)
echo_leads i m zero Forth x = λ has block. (1, inside (ping ∷ []), lit< tt, refl, (Forth, (refl, has)))
echo_leads i m zero Back x = λ has block. absurd block
echo_leads i m (suc zero) Forth x = λ has block. absurd block
echo_leads i m (suc zero) Back x = λ has block. (0, outside, lit< tt, refl, (Back, (refl, has)))
echo_leads i m (suc (suc n)) d x = tt

echo_starts : (n : ℕ) → Holds (echo 1 1024) (InitialOverMax (record { 0 = n }))
echo_starts zero = lit≤ tt
echo_starts (suc n) = tt

pub echo_well_formed : IsWellFormed (echo 1 1024)
echo_well_formed = record {
  distinct_ends = λ c. echo_ends 1 1024 c.0;
  carries_some = λ c. echo_carries 1 1024 c.0;
  admitted = λ c. echo_admits 1 1024 c.0;
  joined = λ g. echo_joins 1 1024 g.0;
  leads_on = λ c. echo_leads 1 1024 c.0;
  starts_within = λ t. echo_starts t.0;
}

-- both ends of the outer channel at the gate `line`
pub one_gate_twice : Applies (system 1 1024 (gates (ping ∷ [])) (channel (codes "c0") scope.System (end 0 Inner) (end 0 Inner) (ping ∷ []) (pong ∷ []) ∷ inside (ping ∷ []) ∷ []))
    (BadEnds (record { 0 = 0 }))
one_gate_twice h = h.0 refl

-- both at inner sides, of two gates
pub two_inner_sides : Applies (system 1 1024 (gates (ping ∷ [])) (outside ∷ channel (codes "c1") scope.System (end 0 Inner) (end 3 Inner) (ping ∷ []) (pong ∷ []) ∷ []))
    (BadEnds (record { 0 = 1 }))
two_inner_sides h = h.1 (refl, refl)

-- both lists of the outer channel taken out
pub no_signal : Applies (system 1 1024 (gates (ping ∷ [])) (channel (codes "c0") scope.System (end 0 Inner) (end 1 Outer) [] [] ∷ inside (ping ∷ []) ∷ []))
    (EmptyChannel (record { 0 = 0 }))
no_signal h = h (refl, refl)

none_in : (x : SignalId) → Contains [] x → ⊥
none_in x (k, lt, is) = omega (arith, lt)

-- B.g lets nothing in
pub gate_without_ping : Applies (system 1 1024 (gates []) (outside ∷ inside (ping ∷ []) ∷ [])) (NotInGate (record { 0 = 0 }) Forth ping (record { 0 = 1 }))
gate_without_ping = ((0, lit< tt, refl), λ h. none_in ping (h.1 refl))

abbrev with_gate_q : Structure
with_gate_q = system 1 1024 (gate (codes "line") owner.System (ping ∷ []) ∷ gate (codes "g") (owner.Block (record { 0 = 0 })) (ping ∷ [])
    ∷ gate (codes "p") (owner.Set (record { 0 = 0 })) (ping ∷ []) ∷ gate (codes "q") (owner.Set (record { 0 = 0 })) [] ∷ []) (outside ∷ inside (ping ∷ []) ∷ [])

-- a second gate of E, where no channel ends
not_at_q : IsJoined with_gate_q (end 3 Outer) → ⊥
not_at_q (zero, c, lt, is, ends) = elim ends [
  | inl e ↦ let f : ◌≡◌ {A = ℕ} 0 3 = ap (λ (c : Channel). c.first.gate.0) is ∙ ap (λ (f : End). f.gate.0) e in omega arith
  | inr e ↦ let f : ◌≡◌ {A = ℕ} 1 3 = ap (λ (c : Channel). c.second.gate.0) is ∙ ap (λ (f : End). f.gate.0) e in omega arith
]
not_at_q (suc zero, c, lt, is, ends) = elim ends [
  | inl e ↦ let f : ◌≡◌ {A = ℕ} 1 3 = ap (λ (c : Channel). c.first.gate.0) is ∙ ap (λ (f : End). f.gate.0) e in omega arith
  | inr e ↦ let f : ◌≡◌ {A = ℕ} 2 3 = ap (λ (c : Channel). c.second.gate.0) is ∙ ap (λ (f : End). f.gate.0) e in omega arith
]
not_at_q (suc (suc k), c, lt, is, ends) = omega (arith, lt)

pub gate_without_channel : Applies with_gate_q (Unjoined (record { 0 = 3 }) Outer)
gate_without_channel = (tt, not_at_q)

abbrev without_ping_inside : Structure
without_ping_inside = system 1 1024 (gates (ping ∷ [])) (outside ∷ inside [] ∷ [])

-- `ping` reaches B.g, and no channel of B takes it up
not_from_g : (k : ℕ) (c : Channel) (d : Direction) → k < 2 → get_or (outside ∷ inside [] ∷ []) k c ≡ c → CarriesFrom c d (end 1 Inner) ping → ⊥
not_from_g zero c Forth lt is from =
    let f : ◌≡◌ {A = ℕ} 0 1 = ap (λ (c : Channel). c.first.gate.0) is ∙ ap (λ (f : End). f.gate.0) from.0 in omega arith
not_from_g zero c Back lt is from =
    let f : Outer ≡ Inner = ap (λ (c : Channel). c.second.side) is ∙ ap (λ (f : End). f.side) from.0 in cc
not_from_g (suc zero) c Forth lt is from =
    none_in ping (subst (λ (c : Channel). Contains c.forth.items ping) (sym is) from.1)
not_from_g (suc zero) c Back lt is from =
    let f : ◌≡◌ {A = ℕ} 2 1 = ap (λ (c : Channel). c.second.gate.0) is ∙ ap (λ (f : End). f.gate.0) from.0 in omega arith
not_from_g (suc (suc k)) c d lt is from = omega (arith, lt)

pub ping_goes_no_further : Applies without_ping_inside (LeadsNowhere (record { 0 = 0 }) Forth ping)
ping_goes_no_further = ((0, lit< tt, refl), λ h. let (k, c, lt, is, (d, from)) = h tt in not_from_g k c d lt is from)

-- two instances at first, and one at most
pub over_maximum : Applies (echo 2 1) (InitialOverMax (record { 0 = 0 }))
over_maximum h = omega (arith, h)

-- and nothing else is wrong with it
pub over_maximum_first : IsFirstFault (echo 2 1) (InitialOverMax (record { 0 = 0 }))
over_maximum_first = record {
  applies = over_maximum;
  no_lower = λ other applies lower. holds_never_applies (echo 2 1) other (lower_holds other lower) applies;
  no_earlier = λ other applies same earlier. none_earlier other same earlier;
}
  where
    lower_holds : (f : CheckFault) → fault_number f < 6 → Holds (echo 2 1) f
    lower_holds (BadEnds c) lt = echo_ends 2 1 c.0
    lower_holds (EmptyChannel c) lt = echo_carries 2 1 c.0
    lower_holds (NotInGate c d x g) lt = echo_admits 2 1 c.0 d x g
    lower_holds (Unjoined g side) lt = echo_joins 2 1 g.0 side
    lower_holds (LeadsNowhere c d x) lt = echo_leads 2 1 c.0 d x
    lower_holds (InitialOverMax t) lt = absurd (omega arith)

    none_earlier : (f : CheckFault) → fault_number f ≡ 6 → IsBefore (fault_place (echo 2 1) f) (0 ∷ []) → ⊥
    none_earlier (InitialOverMax t) same earlier = elim earlier [ inl lt ↦ omega (arith, lt) | inr (e, more) ↦ more ]
    none_earlier f same earlier = omega (arith, same)

-- The order of places: outside before inside, forth before back, the list's order, start before end, and channels before all of these.
abbrev both_pings : Structure
both_pings = system 1 1024 (gates []) (channel (codes "c0") scope.System (end 0 Inner) (end 1 Outer) (pong ∷ ping ∷ []) (ping ∷ pong ∷ []) ∷ inside [] ∷ [])

pub outside_first : IsBefore (fault_place both_pings (Unjoined (record { 0 = 1 }) Outer)) (fault_place both_pings (Unjoined (record { 0 = 1 }) Inner))
outside_first = inr (refl, inl (lit< tt))

pub start_first : IsBefore (fault_place both_pings (NotInGate (record { 0 = 0 }) Forth ping (record { 0 = 0 }))) (fault_place both_pings (NotInGate (record { 0 = 0 }) Forth ping (record { 0 = 1 })))
start_first = inr (refl, inr (refl, inr (refl, inl (lit< tt))))

pub list_order : IsBefore (fault_place both_pings (NotInGate (record { 0 = 0 }) Forth pong (record { 0 = 1 }))) (fault_place both_pings (NotInGate (record { 0 = 0 }) Forth ping (record { 0 = 0 })))
list_order = inr (refl, inr (refl, inl (lit< tt)))

pub forth_first : IsBefore (fault_place both_pings (LeadsNowhere (record { 0 = 0 }) Forth ping)) (fault_place both_pings (LeadsNowhere (record { 0 = 0 }) Back ping))
forth_first = inr (refl, inl (lit< tt))

pub channel_first : IsBefore (fault_place both_pings (LeadsNowhere (record { 0 = 0 }) Back pong)) (fault_place both_pings (LeadsNowhere (record { 0 = 1 }) Forth ping))
channel_first = inl (lit< tt)
