-- A structure: lists of signals, blocks, sets, gates and channels.
use Rattle.std.specs.Prelude.{◌≡◌, ℕ, ◌+◌, ◌*◌, ◌^◌, ◌<◌, ◌≤◌, List, [], ◌∷◌, map, filter_map, length, Option, Some, None, option_map, slice_get, IsSomeAnd, All, ⊤}
use Rattle.std.specs.List.{AllByRecursion}
use Rattle.sdl_signal.specs.declared.ids.BlockId.{BlockId}
use Rattle.sdl_signal.specs.declared.ids.SetId.{SetId}
use Rattle.sdl_signal.specs.declared.ids.SignalId.{SignalId}
use Rattle.sdl_signal.specs.declared.ids.GateId.{GateId}
use Rattle.sdl_signal.specs.declared.ids.ChannelId.{ChannelId}
use Rattle.sdl_signal.specs.Names.{Lexicon, DeclaredSignal, IsName}
use Rattle.sdl_structure_parts.specs.declared.parts.SignalDecl.{SignalDecl}
use Rattle.sdl_structure_parts.specs.declared.parts.Block.{Block}
use Rattle.sdl_structure_parts.specs.declared.parts.Set.{Set}
use Rattle.sdl_structure_parts.specs.declared.parts.Gate.{Gate}
use Rattle.sdl_structure_parts.specs.declared.parts.Channel.{Channel}
use Rattle.sdl_structure_parts.specs.declared.parts.End.{End}
use Rattle.sdl_structure_parts.specs.declared.parts.Owner.{Owner}
use Rattle.sdl_structure_parts.specs.declared.parts.Owner.TheVariants as owner
use Rattle.sdl_structure_parts.specs.declared.parts.Scope.{Scope}
use Rattle.sdl_structure_parts.specs.declared.parts.Scope.TheVariants as scope
use Rattle.sdl_structure_parts.specs.declared.parts.Side.{Side}
use Rattle.sdl_structure_parts.specs.declared.parts.Side.TheVariants.{Outer, Inner}
use Rattle.sdl_structure_parts.specs.declared.parts.Direction.{Direction}
use Rattle.sdl_structure_parts.specs.declared.parts.Direction.TheVariants.{Forth, Back}

-- a structure with the name and the budget of its file
pub record Structure : Type 0 where
  pub system : List ℕ
  pub budget : ℕ
  pub signals : List SignalDecl
  pub blocks : List Block
  pub sets : List Set
  pub gates : List Gate
  pub channels : List Channel

-- the parts by their numbers
abbrev pub block_at : Structure → BlockId → Option Block
block_at s block = slice_get s.blocks block.0

abbrev pub set_at : Structure → SetId → Option Set
set_at s set = slice_get s.sets set.0

abbrev pub gate_at : Structure → GateId → Option Gate
gate_at s gate = slice_get s.gates gate.0

abbrev pub channel_at : Structure → ChannelId → Option Channel
channel_at s channel = slice_get s.channels channel.0

-- a path of a channel: its signals, and the ends at which it starts and ends
pub record Path : Type 0 where
  pub signals : List SignalId
  pub start : End
  pub finish : End

abbrev pub path_of : Channel → Direction → Path
path_of c Forth = record { signals = c.forth.items; start = c.first; finish = c.second }
path_of c Back = record { signals = c.back.items; start = c.second; finish = c.first }

-- the path of the structure's channel of this number
abbrev pub path_at : Structure → ChannelId → Direction → Option Path
path_at s channel direction = option_map (λ c. path_of c direction) (channel_at s channel)

-- a block gate has an outer and an inner side, a set's gate an outer one, a system gate an inner one
abbrev pub HasSide : Owner → Side → Type 0
HasSide owner.System Outer = ⊥
HasSide (owner.Set t) Inner = ⊥
HasSide _ _ = ⊤

abbrev pub other_side : Side → Side
other_side Outer = Inner
other_side Inner = Outer

-- A channel of the system joins inner sides of system gates and outer sides of the gates of the blocks that lie in the system.
-- A channel of a block joins inner sides of its gates and outer sides of the gates of the sets and blocks that lie in it.
abbrev pub JoinsAt : Structure → Scope → Owner → Side → Type 0
JoinsAt s scope.System owner.System Inner = ⊤
JoinsAt s (scope.Block b) (owner.Block c) Inner = c ≡ b
JoinsAt s scope (owner.Block b) Outer = IsSomeAnd (block_at s b) (λ block. block.scope ≡ scope)
JoinsAt s (scope.Block b) (owner.Set t) Outer = IsSomeAnd (set_at s t) (λ set. set.block ≡ b)
JoinsAt s _ _ _ = ⊥

abbrev pub IsEnd : Structure → Scope → End → Type 0
IsEnd s scope end = IsSomeAnd (gate_at s end.gate) (λ g. JoinsAt s scope g.owner end.side)

abbrev pub OwnerExists : Structure → Owner → Type 0
OwnerExists s owner.System = ⊤
OwnerExists s (owner.Block b) = b.0 < length s.blocks
OwnerExists s (owner.Set t) = t.0 < length s.sets

abbrev pub ScopeExists : Structure → Scope → Type 0
ScopeExists s scope.System = ⊤
ScopeExists s (scope.Block b) = b.0 < length s.blocks

abbrev pub SignalsExist : Structure → List SignalId → Type 0
SignalsExist s signals = AllByRecursion (λ x. x.0 < length s.signals) signals

-- the system's gates come first, so that a gate of the system has the same number among its names
abbrev pub AreSystemFirst : List Gate → Type 0
AreSystemFirst [] = ⊤
AreSystemFirst (g ∷ gates) = AllByRecursion (λ h. h.owner ≡ owner.System → g.owner ≡ owner.System) gates × AreSystemFirst gates

-- how deep what lies in the scope lies: in the system 1, and in a block one more than that block
abbrev pub IsDepthIn : List Block → Scope → ℕ → Type 0
IsDepthIn blocks scope.System depth = depth ≡ 1
IsDepthIn blocks (scope.Block b) depth = IsSomeAnd (slice_get blocks b.0) (λ around. depth ≡ around.depth + 1)

-- a block lies at most four deep
abbrev pub LiesIn : List Block → Block → Type 0
LiesIn blocks b = IsDepthIn blocks b.scope b.depth × (b.depth ≤ 4)

-- a set may have an instance, and starts with at most 1024 of them and never has more
pub record HasFewInstances (t : Set) : Type 0 where
  pub initial : t.initial ≤ 1024
  pub some : 1 ≤ t.maximum
  pub maximum : t.maximum ≤ 1024

-- The parts are within this project's limits, with at most 8 gates for each agent on average and 1024 instances for each set.
-- What one part names of the others is there, and each end of a channel is where the channel may end.
pub record IsStructure (s : Structure) : Type 0 where
  pub few_signals : length s.signals ≤ 64
  pub few_blocks : length s.blocks ≤ 64
  pub few_sets : length s.sets ≤ 64
  pub few_gates : length s.gates ≤ 8 * (1 + length s.blocks + length s.sets)
  pub few_channels : length s.channels ≤ 64
  pub blocks : AllByRecursion (LiesIn s.blocks) s.blocks
  pub sets : AllByRecursion (λ t. t.block.0 < length s.blocks) s.sets
  pub instances : AllByRecursion HasFewInstances s.sets
  pub gates : AllByRecursion (λ g. OwnerExists s g.owner × SignalsExist s g.inward.items × SignalsExist s g.outward.items) s.gates
  pub gates_order : AreSystemFirst s.gates
  pub channels : AllByRecursion (λ c. ScopeExists s c.scope × IsEnd s c.scope c.first × IsEnd s c.scope c.second × SignalsExist s c.forth.items × SignalsExist s c.back.items) s.channels

-- the names of the system's gates, of the signals and of the sets
abbrev pub system_gate_name : Gate → Option (List ℕ)
system_gate_name g = elim g.owner [ owner.System ↦ Some g.name.bytes | owner.Block b ↦ None | owner.Set t ↦ None ]

abbrev pub declared_signal : SignalDecl → DeclaredSignal
declared_signal x = record { name = x.name.bytes; sorts = x.sorts.items }

abbrev pub lexicon_of : Structure → Lexicon
lexicon_of s = record {
  gates = filter_map system_gate_name s.gates;
  signals = map declared_signal s.signals;
  sets = map (λ t. t.name.bytes) s.sets;
}

-- the names of its parts keep the rule of names, and there are few enough of them
pub record HasLegalNames (s : Structure) : Type 0 where
  pub signals : All (λ x. IsName x.name.bytes) s.signals
  pub sets : All (λ t. IsName t.name.bytes) s.sets
  pub gates : All (λ g. IsName g.name.bytes) s.gates
  pub few_sets : length s.sets < 2 ^ 16
  pub few_gates : length s.gates < 2 ^ 16
