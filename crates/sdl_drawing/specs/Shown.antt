-- What a block diagram shows of a structure: each part once, in the order of the numbers. (This project's own.)
use Rattle.std.specs.Prelude.{◌≡◌, ℕ, List, [], ◌∷◌, ◌++◌, map, flat_map, length, Option, Some, None, option_map, unwrap_or, slice_get, slice_range, IsSomeAnd}
use Rattle.std.specs.List.{range_with_len}
use Rattle.sdl_signal.specs.declared.ids.GateId.{GateId}
use Rattle.sdl_signal.specs.declared.ids.SignalId.{SignalId}
use Rattle.sdl_signal.specs.declared.ids.ChannelId.{ChannelId}
use Rattle.sdl_structure_parts.specs.declared.parts.Owner.{Owner}
use Rattle.sdl_structure_parts.specs.declared.parts.Owner.TheVariants as owner
use Rattle.sdl_structure_parts.specs.declared.parts.Scope.{Scope}
use Rattle.sdl_structure_parts.specs.declared.parts.Scope.TheVariants as scope
use Rattle.sdl_structure_parts.specs.declared.parts.Direction.{Direction}
use Rattle.sdl_structure_parts.specs.declared.parts.Direction.TheVariants.{Forth, Back}
use Rattle.sdl_structure_parts.specs.Structure.{Structure, gate_at, block_at, set_at, channel_at, path_at}
use Rattle.sdl_drawing.specs.declared.shapes.Frame.{Frame}
use Rattle.sdl_drawing.specs.declared.shapes.GateBox.{GateBox}
use Rattle.sdl_drawing.specs.declared.shapes.ChannelLine.{ChannelLine}
use Rattle.sdl_drawing.specs.declared.shapes.ListRow.{ListRow}
use Rattle.sdl_drawing.specs.declared.shapes.Drawing.{Drawing}

-- the parts by their numbers
abbrev pub block_agent : ℕ → Owner
block_agent n = owner.Block (record { 0 = n })

abbrev pub set_agent : ℕ → Owner
set_agent n = owner.Set (record { 0 = n })

abbrev pub gate_of_number : ℕ → GateId
gate_of_number n = record { 0 = n }

abbrev pub channel_of_number : ℕ → ChannelId
channel_of_number n = record { 0 = n }

-- all parts of a structure: the system, the blocks and the sets by number; the gates; the channels
abbrev pub block_agents : Structure → List Owner
block_agents s = map block_agent (range_with_len 0 (length s.blocks))

abbrev pub set_agents : Structure → List Owner
set_agents s = map set_agent (range_with_len 0 (length s.sets))

abbrev pub agents_of : Structure → List Owner
agents_of s = (owner.System ∷ [] ++ block_agents s) ++ set_agents s

abbrev pub gates_of : Structure → List GateId
gates_of s = map gate_of_number (range_with_len 0 (length s.gates))

abbrev pub channels_of : Structure → List ChannelId
channels_of s = map channel_of_number (range_with_len 0 (length s.channels))

-- what shapes show
abbrev pub agents_shown : List Frame → List Owner
agents_shown frames = map (λ f. f.agent) frames

abbrev pub gates_shown : List GateBox → List GateId
gates_shown boxes = map (λ b. b.gate) boxes

abbrev pub channels_shown : List ChannelLine → List ChannelId
channels_shown lines = map (λ l. l.channel) lines

-- the signals of a path
abbrev pub path_signals : Structure → ChannelId → Direction → List SignalId
path_signals s channel direction = unwrap_or (option_map (λ p. p.signals) (path_at s channel direction)) []

-- the signals that arrive at the first end of a line's channel, and then those that arrive at its second end
abbrev pub arriving : Structure → ChannelLine → List SignalId
arriving s line = path_signals s line.channel Back ++ path_signals s line.channel Forth

abbrev pub listed_signals : Structure → List ChannelLine → List SignalId
listed_signals s lines = flat_map (arriving s) lines

-- the signals of a row of a list
abbrev pub row_signals : Structure → ListRow → List SignalId
row_signals s row = slice_range (path_signals s row.channel row.direction) row.from row.end

abbrev pub signals_shown : Structure → List ListRow → List SignalId
signals_shown s rows = flat_map (row_signals s) rows

-- A drawing shows each agent, each gate and each channel once, in the order of their numbers. The rows of its lists show the
-- signals of all paths, channel by channel.
pub record ShowsAll (s : Structure) (d : Drawing) : Type 0 where
  pub agents : agents_shown d.frames.items ≡ agents_of s
  pub gates : gates_shown d.gates.items ≡ gates_of s
  pub channels : channels_shown d.channels.items ≡ channels_of s
  pub signals : signals_shown s d.rows.items ≡ listed_signals s d.channels.items

-- the agent that a scope is
abbrev pub scope_agent : Scope → Owner
scope_agent scope.System = owner.System
scope_agent (scope.Block b) = owner.Block b

-- the agent around an agent: that in which it lies right, and not in one between (the system lies in none)
abbrev pub agent_around : Structure → Owner → Option Owner
agent_around s owner.System = None
agent_around s (owner.Block b) = option_map (λ block. scope_agent block.scope) (block_at s b)
agent_around s (owner.Set t) = option_map (λ set. owner.Block set.block) (set_at s t)

abbrev pub LiesIn : Structure → Owner → Owner → Type 0
LiesIn s agent around = IsSomeAnd (agent_around s agent) (λ it. it ≡ around)

-- two agents lie right in the same agent
abbrev pub AreSiblings : Structure → Owner → Owner → Type 0
AreSiblings s one other = IsSomeAnd (agent_around s one) (λ around. LiesIn s other around)

-- the gate is one of the agent
abbrev pub IsGateOf : Structure → GateId → Owner → Type 0
IsGateOf s gate agent = IsSomeAnd (gate_at s gate) (λ g. g.owner ≡ agent)

-- the channel lies in the agent
abbrev pub IsChannelIn : Structure → ChannelId → Owner → Type 0
IsChannelIn s channel agent = IsSomeAnd (channel_at s channel) (λ c. scope_agent c.scope ≡ agent)
