-- The text of a structure in Graphviz' language. (This project's own.)
use Rattle.std.specs.Prelude.{◌≡◌, ℕ, zero, suc, ◌<◌, Bool, true, false, List, [], ◌∷◌, ◌++◌, ◌==◌, if◌then◌else◌, length, flat_map, codes, decimal}
use Rattle.std.specs.List.{enumerate_from}
use Rattle.sdl_signal.specs.declared.ids.BlockId.{BlockId}
use Rattle.sdl_signal.specs.declared.ids.SignalId.{SignalId}
use Rattle.sdl_structure_parts.specs.declared.parts.Owner.{Owner}
use Rattle.sdl_structure_parts.specs.declared.parts.Owner.TheVariants as owner
use Rattle.sdl_structure_parts.specs.declared.parts.Gate.{Gate}
use Rattle.sdl_structure_parts.specs.declared.parts.Set.{Set}
use Rattle.sdl_structure_parts.specs.declared.parts.Block.{Block}
use Rattle.sdl_structure_parts.specs.declared.parts.Channel.{Channel}
use Rattle.sdl_structure_parts.specs.Structure.{Structure}
use Rattle.sdl_drawing.specs.Shown.{block_agent, set_agent, scope_agent}
use Rattle.sdl_drawing_text.specs.Elements.{set_words}
use Rattle.sdl_drawing_text.specs.Lists.{items_text}

-- the end of a cluster
abbrev pub cluster_end : List ℕ
cluster_end = codes "  }\n"

-- two agents are the same
abbrev pub same_agent : Owner → Owner → Bool
same_agent owner.System owner.System = true
same_agent (owner.Block b) (owner.Block c) = b.0 == c.0
same_agent (owner.Set t) (owner.Set u) = t.0 == u.0
same_agent _ _ = false

-- a gate as a node, with its number and its name
abbrev pub node_front : ℕ → Gate → List ℕ
node_front number gate = codes "    g" ++ decimal number ++ codes " [label=\"" ++ gate.name.bytes

abbrev pub gate_node : ℕ → Gate → List ℕ
gate_node number gate =
    node_front number gate
    ++ codes "\", width=0.1, height=0.1, fontsize=8, margin=\"0.04,0.02\", style=filled, fillcolor=\"#eef3fb\"];\n"

-- the gates of an agent
abbrev pub gate_line : Owner → ℕ × Gate → List ℕ
gate_line agent x = if same_agent x.1.owner agent then gate_node x.0 x.1 else []

abbrev pub gates_dot : Owner → List Gate → List ℕ
gates_dot agent gates = flat_map (gate_line agent) (enumerate_from 0 gates)

-- the front of a cluster up to its label, by the letter of its kind and its number
abbrev pub cluster_front : List ℕ → ℕ → List ℕ
cluster_front letter number = codes "  subgraph cluster_" ++ letter ++ decimal number ++ codes " {\n    label=\""

-- the cluster of a set: its gates
abbrev pub set_front : ℕ × Set → List ℕ
set_front x = cluster_front (codes "s") x.0 ++ set_words x.1 ++ codes "\"; style=rounded; penwidth=1.4;\n"

abbrev pub set_dot : Structure → ℕ × Set → List ℕ
set_dot s x = set_front x ++ gates_dot (set_agent x.0) s.gates ++ cluster_end

-- the sets of a block
abbrev pub set_line : Structure → BlockId → ℕ × Set → List ℕ
set_line s block x = if x.1.block.0 == block.0 then set_dot s x else []

abbrev pub sets_dot : Structure → BlockId → List Set → List ℕ
sets_dot s block sets = flat_map (set_line s block) (enumerate_from 0 sets)

-- the cluster of a block: its gates, its sets, and what `inside` says of the blocks in it
abbrev pub block_label : Block → List ℕ
block_label b = codes "block " ++ b.name.bytes ++ codes "\";\n"

abbrev pub block_front : ℕ × Block → List ℕ
block_front x = cluster_front (codes "b") x.0 ++ block_label x.1

abbrev pub block_number : ℕ × Block → BlockId
block_number x = record { 0 = x.0 }

abbrev pub block_dot : Structure → (Owner → List ℕ) → ℕ × Block → List ℕ
block_dot s inside x =
    block_front x ++ gates_dot (block_agent x.0) s.gates ++ sets_dot s (block_number x) s.sets ++ inside (block_agent x.0) ++ cluster_end

-- the block, where it lies in the agent
abbrev pub block_line : Structure → Owner → (Owner → List ℕ) → ℕ × Block → List ℕ
block_line s around inside x = if same_agent (scope_agent x.1.scope) around then block_dot s inside x else []

-- The blocks that lie in the agent, with those in them, on so many levels in all. (Blocks lie on four at most.)
unfoldable pub blocks_dot : ℕ → Structure → Owner → List ℕ
blocks_dot zero s around = []
blocks_dot (suc levels) s around = flat_map (block_line s around (blocks_dot levels s)) (enumerate_from 0 s.blocks)

-- the cluster of the system: the blocks that lie in it, and its gates
abbrev pub system_front : Structure → List ℕ
system_front s = codes "  subgraph cluster_system {\n    label=\"system " ++ s.system ++ codes "\"; penwidth=2;\n"

abbrev pub system_dot : Structure → List ℕ
system_dot s = system_front s ++ blocks_dot 4 s owner.System ++ gates_dot owner.System s.gates ++ cluster_end

-- What begins a row of the list of a path: the two characters, a backslash and an n, that Graphviz reads as a new line; and the
-- sign of the path in its first row
abbrev pub forth_front : List ℕ
forth_front = 92 ∷ codes "n-> "

abbrev pub back_front : List ℕ
back_front = 92 ∷ codes "n<- "

abbrev pub next_front : List ℕ
next_front = 92 ∷ codes "n   "

abbrev pub row_dot : Structure → List SignalId → List ℕ → ℕ → ℕ → List ℕ
row_dot s signals before from end = before ++ items_text s signals from end

-- the rows of a list, by the places where they end; the first begins by this
abbrev pub rows_dot : Structure → List SignalId → List ℕ → ℕ → List ℕ → List ℕ
rows_dot s signals before from [] = []
rows_dot s signals before from (end ∷ ends) = row_dot s signals before from end ++ rows_dot s signals next_front end ends

-- places of a list, one behind the other, and the last at its end
abbrev pub AreCuts : ℕ → ℕ → List ℕ → Type 0
AreCuts from last [] = from ≡ last
AreCuts from last (end ∷ ends) = (from < end) × AreCuts end last ends

-- the list of a path from a place on, in rows of at least one signal
abbrev pub IsListFrom : Structure → List SignalId → List ℕ → ℕ → List ℕ → Type 0
IsListFrom s signals before from text = (ends : List ℕ) × AreCuts from (length signals) ends × (text ≡ rows_dot s signals before from ends)

-- the front of a channel's edge: the gates that it joins, and its name
abbrev pub edge_ends : Channel → List ℕ
edge_ends c = codes "  g" ++ decimal c.first.gate.0 ++ codes " -> g" ++ decimal c.second.gate.0

abbrev pub edge_name : Channel → List ℕ
edge_name c = codes " [label=\"" ++ c.name.bytes

abbrev pub edge_front : Channel → List ℕ
edge_front c = edge_ends c ++ edge_name c

-- the arrow head of a path: none where it carries nothing, at the gate where it has no delay, and else a little before it
abbrev pub arrow_name : List SignalId → Bool → List ℕ
arrow_name signals nodelay = if length signals == 0 then codes "none" else if nodelay then codes "normal" else codes "nonenonenormal"

abbrev pub edge_head : Channel → List ℕ
edge_head c = codes "\", dir=both, arrowhead=" ++ arrow_name c.forth.items c.nodelay

abbrev pub edge_tail : Channel → List ℕ
edge_tail c = codes ", arrowtail=" ++ arrow_name c.back.items c.nodelay

abbrev pub edge_arrows : Channel → List ℕ
edge_arrows c = edge_head c ++ edge_tail c ++ codes "];\n"

-- the edge of a channel, with the lists of its two paths
abbrev pub IsEdge : Structure → Channel → List ℕ → Type 0
IsEdge s c text =
    (forth : List ℕ) × (back : List ℕ) × IsListFrom s c.forth.items forth_front 0 forth × IsListFrom s c.back.items back_front 0 back
    × (text ≡ edge_front c ++ forth ++ back ++ edge_arrows c)

-- the edges of channels, one behind the other
abbrev pub AreEdges : Structure → List Channel → List ℕ → Type 0
AreEdges s [] text = text ≡ []
AreEdges s (c ∷ cs) text = (one : List ℕ) × (rest : List ℕ) × IsEdge s c one × AreEdges s cs rest × (text ≡ one ++ rest)

-- the lines before the clusters
abbrev pub look_text : List ℕ
look_text =
    codes "  graph [rankdir=LR, compound=true, fontname=\"DejaVu Sans\", fontsize=12, nodesep=0.35, ranksep=0.9, labeljust=l];\n"
    ++ codes "  node [fontname=\"DejaVu Sans\", fontsize=10, shape=box, margin=\"0.08,0.04\"];\n"
    ++ codes "  edge [fontname=\"DejaVu Sans\", fontsize=9, arrowsize=0.7];\n"

abbrev pub dot_head : Structure → List ℕ
dot_head s = codes "digraph \"" ++ s.system ++ codes "\" {\n"

abbrev pub dot_front : Structure → List ℕ
dot_front s = dot_head s ++ look_text

-- a structure: the clusters of its agents with all gates, and the edges of all channels
abbrev pub IsDot : Structure → List ℕ → Type 0
IsDot s text = (edges : List ℕ) × AreEdges s s.channels edges × (text ≡ dot_front s ++ system_dot s ++ edges ++ codes "}\n")
