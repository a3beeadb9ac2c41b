-- Worked rows: rows of a list, arrow heads, and agents.
use Rattle.std.proofs.Common.{◌≡◌, ◌<◌, true, false, [], ◌∷◌, refl, lit<, codes, arith}
use Rattle.sdl_structure_parts.specs.declared.parts.Owner.TheVariants as owner
use Rattle.sdl_drawing_text.specs.Dot.{same_agent, AreCuts, arrow_name}

-- three signals in two rows; a row has a signal, and the last row ends with the list
two_rows : AreCuts 0 3 (2 ∷ 3 ∷ [])
two_rows = (lit< tt, (lit< tt, refl))

no_row_is_empty : AreCuts 0 3 (0 ∷ 3 ∷ []) → ⊥
no_row_is_empty h = omega (arith, h.0)

no_signal_is_left : AreCuts 0 3 (2 ∷ []) → ⊥
no_signal_is_left h = omega (arith, h.1)

-- a path that carries nothing has no head, and one without delay has it at the gate
no_head : arrow_name [] true ≡ codes "none"
no_head = refl

at_the_gate : arrow_name (record { 0 = 4 } ∷ []) true ≡ codes "normal"
at_the_gate = refl

before_the_gate : arrow_name (record { 0 = 4 } ∷ []) false ≡ codes "nonenonenormal"
before_the_gate = refl

-- a block is no set of the same number
a_block_and_a_set : same_agent (owner.Block (record { 0 = 1 })) (owner.Set (record { 0 = 1 })) ≡ false
a_block_and_a_set = refl

the_same_set : same_agent (owner.Set (record { 0 = 1 })) (owner.Set (record { 0 = 1 })) ≡ true
the_same_set = refl
