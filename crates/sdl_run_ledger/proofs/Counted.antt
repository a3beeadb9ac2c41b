-- Worked rows: the ledger of a run of Ring.
use Rattle.std.proofs.Common.{◌≡◌, ℕ, [], ◌∷◌, Some, sym, ◌∙◌, arith}
use Rattle.sdl_run_ledger.specs.declared.ledger.Ledger.{Ledger}
use Rattle.sdl_run_outcome.specs.Ring.{leaves, tok, no_one}
use Rattle.sdl_run_ledger.specs.Counts.{IsLedgerOf, Balances, waiting_in}

-- three outputs, of which two entered and fired, and one is left
pub ring_counts : (l : Ledger) → IsLedgerOf (leaves (tok 2 0 1 ∷ [])) (waiting_in (no_one ∷ no_one ∷ [])) l → (l.output ≡ 3) × (l.entered ≡ 2) × (l.fired ≡ 2) × (l.left ≡ 1) × Balances l
ring_counts l h =
    let output : l.output ≡ 3 = h.output in
    let entered : l.entered ≡ 2 = h.entered in
    let fired : l.fired ≡ 2 = h.fired in
    let left : l.left ≡ 1 = h.left in
    let no_route : l.no_route ≡ 0 = h.no_route in
    let no_instance : l.no_instance ≡ 0 = h.no_instance in
    let gone : l.gone ≡ 0 = h.gone in
    let implicit : l.implicit ≡ 0 = h.implicit in
    let stopped : l.stopped ≡ 0 = h.stopped in
    let waits : l.waiting ≡ 0 = h.waiting_is in
    let environment : l.environment ≡ 0 = h.environment in
    (output, entered, fired, left, (omega arith, omega arith))

-- no ledger of the run leaves out the signal that is left
pub left_out : (l : Ledger) (waiting : ℕ) → IsLedgerOf (leaves (tok 2 0 1 ∷ [])) waiting l → l.left ≡ 0 → ⊥
left_out l waiting h e = let n : ◌≡◌ {A = ℕ} 1 0 = sym h.left ∙ e in omega arith

-- nor the signal that a worker holds
pub in_hand : (l : Ledger) (waiting : ℕ) → IsLedgerOf (record (leaves []) { hands = record { kept = Some (tok 2 0 1); outgoing = [] } ∷ [] }) waiting l → l.left ≡ 0 → ⊥
in_hand l waiting h e = let n : ◌≡◌ {A = ℕ} 1 0 = sym h.left ∙ e in omega arith
