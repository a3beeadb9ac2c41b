use Rattle.std.proofs.Common.{◌+◌, ◌-◌, ◌*◌, take, flat_map}
use Rattle.std.specs.Io.KnownBytes.{Appends}
use Rattle.std.specs.List.{enumerate_from}
use Rattle.sdl_drawing_text.specs.Dot.{block_line, blocks_dot}
use Rattle.sdl_drawing_text.proofs.clusters.+clusters.Given as goal

abbrev pub decreases-write_blocks : goal.decreases-write_blocks
decreases-write_blocks g l = 3 * l.levels

abbrev pub decreases-write_block_in : goal.decreases-write_block_in
decreases-write_block_in g l = 3 * l.levels + 2

abbrev pub decreases-write_block : goal.decreases-write_block
decreases-write_block g l = 3 * l.levels + 1

-- the texts of the blocks so far
abbrev pub invariant-write_blocks-loop-number : goal.invariant-write_blocks-loop-number
invariant-write_blocks-loop-number g l =
    Appends (g.W.Write.contents l.fn.output) (g.W.Write.contents l.output)
    (flat_map (block_line l.structure l.around (blocks_dot (l.levels - 1) l.structure)) (take l.number (enumerate_from 0 l.blocks)))
