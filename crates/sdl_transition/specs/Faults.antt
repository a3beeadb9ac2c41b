-- The faults of behaviours against a structure, and which of them is the first.
use Rattle.std.specs.Prelude.{◌≡◌, ◌≢◌, ℕ, ◌<◌, ◌≤◌, List, [], ◌∷◌, length, Option, Some, None, option_map, slice_get, IsSomeAnd, Contains, Any, ◌⊎◌, ⊤}
use Rattle.sdl_signal.specs.declared.ids.SetId.{SetId}
use Rattle.sdl_signal.specs.declared.ids.SignalId.{SignalId}
use Rattle.sdl_signal.specs.declared.values.Value.{Value}
use Rattle.sdl_signal.specs.declared.values.Value.TheVariants as value
use Rattle.sdl_signal.specs.declared.values.Pid.TheVariants.{Null}
use Rattle.sdl_structure_parts.specs.declared.parts.Owner.TheVariants as owner
use Rattle.sdl_structure_parts.specs.declared.parts.Gate.{Gate}
use Rattle.sdl_structure_parts.specs.declared.parts.Set.{Set}
use Rattle.sdl_structure_parts.specs.declared.parts.Channel.{Channel}
use Rattle.sdl_structure_parts.specs.declared.parts.SignalDecl.{SignalDecl}
use Rattle.sdl_structure_parts.specs.Structure.{Structure, set_at, gate_at}
use Rattle.sdl_routes.specs.declared.route.Via.{Via}
use Rattle.sdl_routes.specs.declared.route.Via.TheVariants as via
use Rattle.sdl_structure_parts.specs.Order.{IsBefore}
use Rattle.sdl_transition_behaviour.specs.declared.behaviour.Kind.{Kind}
use Rattle.sdl_transition_behaviour.specs.declared.behaviour.Kind.TheVariants as kind
use Rattle.sdl_transition_behaviour.specs.declared.behaviour.Named.{Named}
use Rattle.sdl_transition_saves.specs.declared.save.Save.{Save}
use Rattle.sdl_transition.specs.declared.faults.BindFault.{BindFault}
use Rattle.sdl_transition.specs.declared.faults.BindFault.TheVariants.{NoBehaviour, TwoBehaviours, WrongName, UndeclaredOutput, UndeclaredGate, UnknownState, WrongSorts, CreateElsewhere, TwoRows, Memory}
use Rattle.sdl_transition_behaviour.specs.declared.offer.Offer.{Offer}
use Rattle.sdl_transition_behaviour.specs.declared.offer.OfferedOutput.{OfferedOutput}
use Rattle.sdl_transition_behaviour.specs.declared.offer.SignalSorts.{SignalSorts}
use Rattle.sdl_signal.specs.Sorts.{AreOfSorts}
use Rattle.sdl_transition_behaviour.specs.Declarations.{DeclaredBehaviour, DeclaredRow, SomeOffer, HasOne, HasTwo}

-- B1 and B2: the behaviours of a set
abbrev pub HasBehaviour : List DeclaredBehaviour → SetId → Type 0
HasBehaviour behaviours set = HasOne (λ b. b.set ≡ set) behaviours

abbrev pub HasTwoBehaviours : List DeclaredBehaviour → SetId → Type 0
HasTwoBehaviours [] set = ⊥
HasTwoBehaviours (b ∷ behaviours) set = ((b.set ≡ set) × HasBehaviour behaviours set) ⊎ HasTwoBehaviours behaviours set

-- B3: a use whose number has another name or is not there; a number of the behaviour that is in no use; an offer
-- with another number of sets than the structure
abbrev pub name_at : Structure → Kind → ℕ → Option (List ℕ)
name_at s kind.Signal number = option_map (λ (x : SignalDecl). x.name.bytes) (slice_get s.signals number)
name_at s kind.Set number = option_map (λ (t : Set). t.name.bytes) (slice_get s.sets number)
name_at s kind.Gate number = option_map (λ (g : Gate). g.name.bytes) (slice_get s.gates number)
name_at s kind.Channel number = option_map (λ (c : Channel). c.name.bytes) (slice_get s.channels number)

abbrev pub IsNamedSo : Structure → Named → Type 0
IsNamedSo s named = name_at s named.kind named.number ≡ Some named.name.bytes

abbrev pub IsUsed : List Named → Kind → ℕ → Type 0
IsUsed uses kind number = Any (λ named. (named.kind ≡ kind) × (named.number ≡ number)) uses

abbrev pub IsViaUsed : List Named → Via → Type 0
IsViaUsed uses via.Any = ⊤
IsViaUsed uses (via.Gate gate) = IsUsed uses kind.Gate gate.0
IsViaUsed uses (via.Channel channel) = IsUsed uses kind.Channel channel.0

abbrev pub HasUnusedSignal : List Named → Option SignalSorts → Type 0
HasUnusedSignal uses None = ⊥
HasUnusedSignal uses (Some signal) = ¬ IsUsed uses kind.Signal signal.id.0

abbrev pub IsUnusedOutput : List Named → OfferedOutput → Type 0
IsUnusedOutput uses output = ¬ IsUsed uses kind.Signal output.signal.id.0 ⊎ ¬ IsViaUsed uses output.via

unfoldable pub HasUnusedNumber : Structure → List Named → Offer → Type 0
HasUnusedNumber s uses offer =
    (offer.sets ≢ length s.sets)
    ⊎ HasUnusedSignal uses offer.signal
    ⊎ Any (IsUnusedOutput uses) offer.outputs.items
    ⊎ Any (λ set. ¬ IsUsed uses kind.Set set.0) offer.creates.items

unfoldable pub HasUnusedSet : DeclaredBehaviour → Type 0
HasUnusedSet b = ¬ IsUsed b.uses kind.Set b.set.0

unfoldable pub HasUnusedRow : DeclaredBehaviour → Type 0
HasUnusedRow b = HasOne (λ row. ¬ IsUsed b.uses kind.Signal row.signal.0) b.rows

unfoldable pub HasUnusedSave : DeclaredBehaviour → Type 0
HasUnusedSave b = Any (λ save. ¬ IsUsed b.uses kind.Signal save.signal.0) b.saves

abbrev pub HasWrongName : Structure → DeclaredBehaviour → Type 0
HasWrongName s b =
    Any (λ named. ¬ IsNamedSo s named) b.uses
    ⊎ HasUnusedSet b
    ⊎ HasUnusedRow b
    ⊎ HasUnusedSave b
    ⊎ SomeOffer (HasUnusedNumber s b.uses) b

-- B4: an offered signal that is in the outward list of no gate of the set
abbrev pub LetsOut : SetId → SignalId → Gate → Type 0
LetsOut set signal gate = (gate.owner ≡ owner.Set set) × Contains gate.outward.items signal

unfoldable pub OffersUndeclared : Structure → SetId → Offer → Type 0
OffersUndeclared s set offer = Any (λ output. ¬ Any (LetsOut set output.signal.id) s.gates) offer.outputs.items

abbrev pub HasUndeclaredOutput : Structure → DeclaredBehaviour → Type 0
HasUndeclaredOutput s b = SomeOffer (OffersUndeclared s b.set) b

-- B5: an output by way of a gate that is not the set's, or whose outward list lacks the signal
abbrev pub IsBadGate : Structure → SetId → SignalId → Via → Type 0
IsBadGate s set signal via.Any = ⊥
IsBadGate s set signal (via.Gate gate) = ¬ IsSomeAnd (gate_at s gate) (LetsOut set signal)
IsBadGate s set signal (via.Channel channel) = ⊥

unfoldable pub OffersBadGate : Structure → SetId → Offer → Type 0
OffersBadGate s set offer = Any (λ output. IsBadGate s set output.signal.id output.via) offer.outputs.items

abbrev pub HasUndeclaredGate : Structure → DeclaredBehaviour → Type 0
HasUndeclaredGate s b = SomeOffer (OffersBadGate s b.set) b

-- B6: a state past the list, also one that saves; a row with an offer for another state or signal; a start with an offer for
-- one
abbrev pub IsForStart : Offer → Type 0
IsForStart offer = (offer.state ≡ None) × (offer.signal ≡ None)

abbrev pub IsForRow : DeclaredRow → Type 0
IsForRow row = (row.offer.state ≡ Some row.state) × IsSomeAnd row.offer.signal (λ signal. signal.id ≡ row.signal)

unfoldable pub OffersUnknownState : ℕ → Offer → Type 0
OffersUnknownState states offer = Any (λ state. states ≤ state.0) offer.nexts.items

unfoldable pub HasUnknownRow : DeclaredBehaviour → Type 0
HasUnknownRow b = HasOne (λ row. (b.states ≤ row.state.0) ⊎ ¬ IsForRow row) b.rows

unfoldable pub HasUnknownSave : DeclaredBehaviour → Type 0
HasUnknownSave b = Any (λ save. b.states ≤ save.state.0) b.saves

abbrev pub HasUnknownState : DeclaredBehaviour → Type 0
HasUnknownState b =
    ¬ IsForStart b.start
    ⊎ HasUnknownRow b
    ⊎ HasUnknownSave b
    ⊎ SomeOffer (OffersUnknownState b.states) b

-- B7: other sorts of a signal or of the variables, or an initial Pid that is not Null
abbrev pub IsSetPid : Value → Type 0
IsSetPid (value.Pid p) = p ≢ Null
IsSetPid (value.Integer n) = ⊥
IsSetPid (value.Boolean b) = ⊥

abbrev pub HasItsSorts : Structure → SignalSorts → Type 0
HasItsSorts s signal = IsSomeAnd (slice_get s.signals signal.id.0) (λ declared. declared.sorts.items ≡ signal.sorts.items)

abbrev pub HasOtherSignal : Structure → Option SignalSorts → Type 0
HasOtherSignal s None = ⊥
HasOtherSignal s (Some signal) = ¬ HasItsSorts s signal

unfoldable pub HasOtherSorts : Structure → List Value → Offer → Type 0
HasOtherSorts s vars offer =
    ¬ AreOfSorts vars offer.vars.items
    ⊎ HasOtherSignal s offer.signal
    ⊎ Any (λ output. ¬ HasItsSorts s output.signal) offer.outputs.items

abbrev pub HasWrongSorts : Structure → DeclaredBehaviour → Type 0
HasWrongSorts s b = Any IsSetPid b.vars ⊎ SomeOffer (HasOtherSorts s b.vars) b

-- B8: a create of a set of another block
abbrev pub IsInBlockOf : Structure → SetId → SetId → Type 0
IsInBlockOf s own set = IsSomeAnd (set_at s own) (λ t. IsSomeAnd (set_at s set) (λ u. u.block ≡ t.block))

unfoldable pub OffersCreateElsewhere : Structure → SetId → Offer → Type 0
OffersCreateElsewhere s own offer = Any (λ set. ¬ IsInBlockOf s own set) offer.creates.items

abbrev pub HasCreateElsewhere : Structure → DeclaredBehaviour → Type 0
HasCreateElsewhere s b = SomeOffer (OffersCreateElsewhere s b.set) b

-- B9: two rows for one state and signal, two saves of them, or a save and a row
abbrev pub IsSameRow : DeclaredRow → DeclaredRow → Type 0
IsSameRow a b = (a.state ≡ b.state) × (a.signal ≡ b.signal)

abbrev pub IsSameSave : Save → Save → Type 0
IsSameSave a b = (a.state ≡ b.state) × (a.signal ≡ b.signal)

abbrev pub IsRowOfSave : Save → DeclaredRow → Type 0
IsRowOfSave a row = (row.state ≡ a.state) × (row.signal ≡ a.signal)

unfoldable pub HasTwoSaves : DeclaredBehaviour → Type 0
HasTwoSaves b = HasTwo IsSameSave b.saves

unfoldable pub HasSavedRow : DeclaredBehaviour → Type 0
HasSavedRow b = HasOne (λ save. HasOne (IsRowOfSave save) b.rows) b.saves

abbrev pub HasTwoRows : DeclaredBehaviour → Type 0
HasTwoRows b = HasTwo IsSameRow b.rows ⊎ HasTwoSaves b ⊎ HasSavedRow b

-- the behaviour has the fault
abbrev pub IsFaultOf : Structure → DeclaredBehaviour → BindFault → Type 0
IsFaultOf s b (NoBehaviour set) = ⊥
IsFaultOf s b (TwoBehaviours set) = ⊥
IsFaultOf s b (WrongName set) = (set ≡ b.set) × HasWrongName s b
IsFaultOf s b (UndeclaredOutput set) = (set ≡ b.set) × HasUndeclaredOutput s b
IsFaultOf s b (UndeclaredGate set) = (set ≡ b.set) × HasUndeclaredGate s b
IsFaultOf s b (UnknownState set) = (set ≡ b.set) × HasUnknownState b
IsFaultOf s b (WrongSorts set) = (set ≡ b.set) × HasWrongSorts s b
IsFaultOf s b (CreateElsewhere set) = (set ≡ b.set) × HasCreateElsewhere s b
IsFaultOf s b (TwoRows set) = (set ≡ b.set) × HasTwoRows b
IsFaultOf s b Memory = ⊥

abbrev pub fault_number : BindFault → ℕ
fault_number (NoBehaviour set) = 1
fault_number (TwoBehaviours set) = 2
fault_number (WrongName set) = 3
fault_number (UndeclaredOutput set) = 4
fault_number (UndeclaredGate set) = 5
fault_number (UnknownState set) = 6
fault_number (WrongSorts set) = 7
fault_number (CreateElsewhere set) = 8
fault_number (TwoRows set) = 9
fault_number Memory = 10

-- The fault applies at the place. First come the sets without a behaviour, then those with two, and then the behaviours
-- in the list's order, each with its faults by number.
abbrev pub AppliesAt : Structure → List DeclaredBehaviour → BindFault → List ℕ → Type 0
AppliesAt s bs (NoBehaviour set) place = (place ≡ 1 ∷ set.0 ∷ []) × (set.0 < length s.sets) × ¬ HasBehaviour bs set
AppliesAt s bs (TwoBehaviours set) place = (place ≡ 2 ∷ set.0 ∷ []) × (set.0 < length s.sets) × HasTwoBehaviours bs set
AppliesAt s bs fault place =
    (k : ℕ) × (place ≡ 3 ∷ k ∷ fault_number fault ∷ []) × IsSomeAnd (slice_get bs k) (λ b. IsFaultOf s b fault)

-- no fault applies
pub record FitTogether (s : Structure) (bs : List DeclaredBehaviour) : Type 0 where
  pub none : (fault : BindFault) (place : List ℕ) → ¬ AppliesAt s bs fault place

-- the fault applies, and none before it does
pub record IsFirstFault (s : Structure) (bs : List DeclaredBehaviour) (fault : BindFault) : Type 0 where
  pub applies : (place : List ℕ) × AppliesAt s bs fault place × ((other : BindFault) (there : List ℕ) → AppliesAt s bs other there → ¬ IsBefore there place)
