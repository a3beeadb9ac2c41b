-- With one thing changed the run of Echo keeps its promises no longer.
use Rattle.std.proofs.Common.{◌≡◌, ℕ, suc, ◌+◌, ◌<◌, inl, inr, Bool, true, false, List, [], ◌∷◌, ◌++◌, length, take, get_or, Option, None, Some, refl, ap, sym, ◌∙◌, subst, codes, true≢false, arith}
use Rattle.std.specs.Fmt.{digits}
use Rattle.std.proofs.lemmas.List.{length-take-le}
use Rattle.std.proofs.lemmas.Option.{same_Some}
use Rattle.sdl_signal.specs.declared.ids.GateId.{GateId}
use Rattle.sdl_signal.specs.declared.values.Item.{Item}
use Rattle.sdl_signal.specs.declared.values.Pid.{Pid}
use Rattle.sdl_signal.specs.declared.values.Signal.{Signal}
use Rattle.sdl_signal.specs.declared.values.EnvLine.{EnvLine}
use Rattle.sdl_signal.specs.declared.reading.LineFault.{LineFault}
use Rattle.sdl_signal.specs.declared.ends.InputEnd.TheVariants as input
use Rattle.sdl_signal.specs.declared.ends.OutputEnd.TheVariants as output
use Rattle.sdl_signal_lines.specs.Bytes.{ended_line, IsFirstLine}
use Rattle.sdl_signal.specs.Line.{line_text}
use Rattle.sdl_structure_parts.specs.Structure.{lexicon_of}
use Rattle.sdl_routes.specs.declared.route.TableRow.{TableRow}
use Rattle.sdl_routes.specs.declared.route.Source.{Source}
use Rattle.sdl_routes.specs.declared.route.Source.TheVariants as source
use Rattle.sdl_run_outcome.specs.declared.environment_output.EnvOut.TheVariants as env_out
use Rattle.sdl_run_outcome.specs.declared.end.RunEnd.{RunEnd}
use Rattle.sdl_run_outcome.specs.declared.end.RunEnd.TheVariants as run_end
use Rattle.sdl_run_outcome.specs.EnvironmentWork.{HasReadAll, HasWritten, received_text}
use Rattle.sdl_run_ledger.specs.declared.ledger.Ledger.{Ledger}
use Rattle.sdl_run_ledger.specs.Counts.{IsLedgerOf, Balances, waiting_in}
use Rattle.sdl_run_driver.specs.Closings.{StopsByMemory}
use Rattle.sdl_run_laws.specs.Echo.{echo, to_e, routes}
use Rattle.sdl_run_laws.specs.EchoRun.{leaves, ledger, final, ping, signal, input_text, output_text}

-- a line that was read gave an output
pub unread : HasReadAll echo routes 1 (Some input_text) (Some []) [] input.Whole → ⊥
unread ([], outs, (given, consumes, ([], begins, read, few))) = let n : 12 ≡ 0 = ap length begins in omega (arith, n)
unread ([], outs, (given, consumes, (line ∷ lines, begins, read, few))) = read
unread (line ∷ lines, outs, read) = outs

-- and that output is the environment's
pub other_worker : HasReadAll echo routes 0 (Some input_text) (Some []) leaves.env_put input.Whole → ⊥
other_worker ([], outs, read) = outs
other_worker (line ∷ lines, outs, read) = let n : 1 ≡ 0 = ap (λ (i : Item). i.origin.worker) outs.0.0 in omega (arith, n)

-- its values are those of the line
abbrev gate_in : Source → GateId
gate_in (source.Gate g) = g
gate_in (source.Set t) = record { 0 = 0 }

abbrev text_of : GateId → Signal → Option Pid → Option (List ℕ)
text_of gate output to = line_text (lexicon_of echo) (record { gate = gate; signal = output; to = to })

text_eight : text_of (record { 0 = 0 }) (signal 0 8) None ≡ Some (codes "line ping 8")
unfolding digits
text_eight = refl

not_eight : (line after : List ℕ) → codes "line ping 8" ≡ line → IsFirstLine input_text line after → ⊥
not_eight line after same (clean, inl begins) =
    let n : 55 ≡ 56 = ap (λ (l : List ℕ). get_or l 10 0) (subst (λ (l : List ℕ). input_text ≡ ended_line l ++ after) (sym same) begins) in omega (arith, n)
not_eight line after same (clean, inr (is, some, none)) = let n : 55 ≡ 56 = ap (λ (l : List ℕ). get_or l 10 0) (is ∙ sym same) in omega (arith, n)

line_is : (line : EnvLine) (row : TableRow) → ping 8 ≡ record (ping 8) { signal = line.signal; to = line.to } → Some to_e ≡ Some row → row.source ≡ source.Gate line.gate
    → line_text (lexicon_of echo) line ≡ Some (codes "line ping 8")
line_is line row same at from =
    let gate : line.gate ≡ record { 0 = 0 } = sym (ap gate_in (ap (λ (r : TableRow). r.source) (same_Some to_e row at) ∙ from)) in
    let consumed : line.signal ≡ signal 0 8 = sym (ap (λ (i : Item). i.signal) same) in
    let to : line.to ≡ None = sym (ap (λ (i : Item). i.to) same) in
    ap (λ g. text_of g line.signal line.to) gate ∙ ap (λ s. text_of (record { 0 = 0 }) s line.to) consumed ∙ ap (λ t. text_of (record { 0 = 0 }) (signal 0 8) t) to ∙ text_eight

pub other_value : HasReadAll echo routes 1 (Some input_text) (Some []) (env_out.Sent (ping 8) ∷ []) input.Whole → ⊥
other_value ([], outs, read) = outs
other_value (line ∷ more ∷ lines, outs, read) = outs.1
other_value (line ∷ [], ((same, (row, at, fits)), none), (given, consumes, ([], begins, read, few))) = read
other_value (line ∷ [], ((same, (row, at, fits)), none), (given, consumes, (first ∷ others, (after, is_first, begins), (text, names, read), few))) =
    not_eight first after (same_Some (codes "line ping 8") first (sym (line_is line row same at fits.start) ∙ text)) is_first

-- a line that was output has no fault
pub bad_line : (fault : LineFault) → HasReadAll echo routes 1 (Some input_text) (Some []) leaves.env_put (input.BadLine 1 fault) → ⊥
bad_line fault ([], outs, read) = outs
bad_line fault (line ∷ more ∷ lines, outs, read) = outs.1
bad_line fault (line ∷ [], outs, (given, consumes, ([], rest, begins, read, few, number, bad))) = read
bad_line fault (line ∷ [], outs, (given, consumes, (first ∷ others, rest, begins, read, few, number, bad))) =
    let n : 1 ≡ suc (length others) + 1 = number in omega (arith, n)

-- what was received is written, once, as it is
abbrev written : List ℕ
written = received_text (lexicon_of echo) routes leaves.env_received

text_is : written ≡ output_text
unfolding digits
text_is = refl

pub unwritten : HasWritten (Some []) (Some []) written output.Whole → ⊥
unwritten h = let n : 0 ≡ 12 = ap length (h ∙ text_is) in omega (arith, n)

pub written_twice : HasWritten (Some []) (Some (output_text ++ output_text)) written output.Whole → ⊥
written_twice h = let n : 24 ≡ 12 = ap length (h ∙ text_is) in omega (arith, n)

pub other_text : HasWritten (Some []) (Some (ended_line (codes "line pong 8"))) written output.Whole → ⊥
other_text h = let n : 56 ≡ 55 = ap (λ (l : List ℕ). get_or l 10 0) (h ∙ text_is) in omega (arith, n)

pub no_fault : HasWritten (Some []) (Some output_text) written output.WriteFault → ⊥
no_fault (n, less, is) =
    let all : n < 12 = subst (λ (l : List ℕ). n < length l) text_is less in
    let front : 12 ≡ length (take n written) = ap length is in
    let much = length-take-le n written (omega (arith, less)) in
    omega (arith, all, front, much)

-- only a refusal stops a reading
abbrev is_quiet : RunEnd → Bool
is_quiet run_end.Quiet = true
is_quiet (run_end.Spent b) = false
is_quiet (run_end.Memory w) = false

pub stopped_short : StopsByMemory (input.Stopped 1) run_end.Quiet → ⊥
stopped_short h = true≢false (ap is_quiet (h 1 refl).1)

-- there is one ledger
pub one_ledger : (l : Ledger) → IsLedgerOf leaves (waiting_in (final ∷ [])) l
    → (l.output ≡ 2) × (l.no_route ≡ 0) × (l.entered ≡ 2) × (l.no_instance ≡ 0) × (l.gone ≡ 0) × (l.left ≡ 0) × (l.fired ≡ 1) × (l.implicit ≡ 0) × (l.stopped ≡ 0) × (l.waiting ≡ 0) × (l.environment ≡ 1)
one_ledger l h = (h.output, h.no_route, h.entered, h.no_instance, h.gone, h.left, h.fired, h.implicit, h.stopped, h.waiting_is, h.environment)

pub one_left : Balances (record ledger { left = 1 }) → ⊥
one_left h = let n : 2 ≡ 3 = h.0 in omega (arith, n)

pub none_fired : Balances (record ledger { fired = 0 }) → ⊥
none_fired h = let n : 2 ≡ 1 = h.1 in omega (arith, n)
