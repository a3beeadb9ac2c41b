-- Blocks in blocks, level by level.
use Rattle.std.proofs.Common.{◌≡◌, ℕ, zero, suc, ◌-◌, ◌<◌, flat_map, List, [], refl, ap, arith}
use Rattle.std.specs.List.{enumerate_from}
use Rattle.sdl_structure_parts.specs.declared.parts.Owner.{Owner}
use Rattle.sdl_structure_parts.specs.Structure.{Structure}
use Rattle.sdl_drawing_text.specs.Dot.{block_line, blocks_dot}

pub blocks_none : (levels : ℕ) (s : Structure) (around : Owner) → levels ≡ 0 → blocks_dot levels s around ≡ []
unfolding blocks_dot
blocks_none zero s around none = refl
blocks_none (suc n) s around none = absurd (omega arith)

pub blocks_some : (levels : ℕ) (s : Structure) (around : Owner) → 0 < levels
    → flat_map (block_line s around (blocks_dot (levels - 1) s)) (enumerate_from 0 s.blocks) ≡ blocks_dot levels s around
unfolding blocks_dot
blocks_some zero s around some = absurd (omega arith)
blocks_some (suc n) s around some =
    let same : suc n - 1 ≡ n = omega arith in
    ap (λ (m : ℕ). flat_map (block_line s around (blocks_dot m s)) (enumerate_from 0 s.blocks)) same
