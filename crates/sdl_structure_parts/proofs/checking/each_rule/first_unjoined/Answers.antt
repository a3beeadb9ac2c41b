use Rattle.std.proofs.Common.{◌≡◌, ℕ, ◌≤◌, List, length, Some, slice_get, refl, ap, sym, ◌∙◌, arith, add-one}
use Rattle.std.proofs.lemmas.Option.{slice_get_read}
use Rattle.sdl_structure_parts.specs.declared.parts.Gate.{Gate}
use Rattle.sdl_structure_parts.specs.declared.parts.Side.TheVariants.{Outer, Inner}
use Rattle.sdl_structure_parts.specs.Structure.{Structure}
use Rattle.sdl_structure_parts.proofs.Numbers.{below_more_of}
use Rattle.sdl_structure_parts.proofs.Simple.{AreSidesJoined, sides_more, sides_first, sides_kept, side_cases, before_inner, before_outer}
use Rattle.sdl_structure_parts.proofs.checking.each_rule.first_unjoined.Goals as goal

pub returns-then-is_unjoined : goal.returns-then-is_unjoined
returns-then-is_unjoined c =
    let s : Structure = c.args.structure.now in
    let xs : List Gate = c.gates-gate-items.result.now in
    let i : ℕ = c.loop-number.number in
    let gate : Gate = c.gate-item.result in
    let at : slice_get s.gates i ≡ Some gate =
    ap (λ (ys : List Gate). slice_get ys i) (sym c.gates-gate-items.ensures) ∙ slice_get_read xs (length xs) i gate refl c.loop-number-test.true c.gate-item.is in
    sides_first s i gate Outer c.loop-number.invariant at c.if-is_unjoined.ensures.0 c.if-is_unjoined.ensures.1 (before_outer s i gate)

pub returns-then-is_unjoined-2 : goal.returns-then-is_unjoined-2
returns-then-is_unjoined-2 c =
    let s : Structure = c.args.structure.now in
    let xs : List Gate = c.gates-gate-items.result.now in
    let i : ℕ = c.loop-number.number in
    let gate : Gate = c.gate-item.result in
    let at : slice_get s.gates i ≡ Some gate =
    ap (λ (ys : List Gate). slice_get ys i) (sym c.gates-gate-items.ensures) ∙ slice_get_read xs (length xs) i gate refl c.loop-number-test.true c.gate-item.is in
    sides_first s i gate Inner c.loop-number.invariant at c.if-is_unjoined-2.ensures.0 c.if-is_unjoined-2.ensures.1 (before_inner s i gate c.if-is_unjoined.ensures)

pub loop-number-preserved : goal.loop-number-preserved
loop-number-preserved c =
    let s : Structure = c.args.structure.now in
    let xs : List Gate = c.gates-gate-items.result.now in
    let i : ℕ = c.loop-number.number in
    let gate : Gate = c.gate-item.result in
    let at : slice_get s.gates i ≡ Some gate =
    ap (λ (ys : List Gate). slice_get ys i) (sym c.gates-gate-items.ensures) ∙ slice_get_read xs (length xs) i gate refl c.loop-number-test.true c.gate-item.is in
    rw add-one (below_more_of (AreSidesJoined s) i c.loop-number.invariant
    (sides_more s i gate at (side_cases s i gate c.if-is_unjoined.ensures c.if-is_unjoined-2.ensures)))

pub returns : goal.returns
returns c =
    let same : length c.gates-gate-items.result.now ≡ length c.args.structure.now.gates = ap length c.gates-gate-items.ensures in
    let past : length c.gates-gate-items.result.now ≤ c.loop-number.number = c.loop-number-test.false in
    sides_kept c.args.structure.now (λ n lt. c.loop-number.invariant n (omega arith))
