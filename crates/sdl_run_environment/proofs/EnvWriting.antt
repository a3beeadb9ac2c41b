-- What was written so far of what was received.
use Rattle.std.proofs.Common.{◌≡◌, ℕ, ◌+◌, ◌<◌, ◌≤◌, List, [], ◌∷◌, ◌++◌, length, take, drop, Option, Some, unwrap_or, refl, sym, ap, ◌∙◌, subst, append-nil, arith, length-append}
use Rattle.std.specs.Io.KnownBytes.{Appends}
use Rattle.std.proofs.KnownBytes.{Appends-nil, Appends-trans}
use Rattle.std.proofs.Math.Seq.{take-add, drop-append_seam}
use Rattle.std.proofs.lemmas.List.{take-append-le, take_at}
use Rattle.std.proofs.lemmas.List.Concat.{flat_map-append}
use Rattle.sdl_signal.specs.declared.values.Item.{Item}
use Rattle.sdl_signal.specs.declared.ends.OutputEnd.TheVariants as output
use Rattle.sdl_signal_lines.specs.declared.sinks.Written.TheVariants as written
use Rattle.sdl_signal.specs.Names.{Lexicon}
use Rattle.sdl_signal.specs.Line.{line_text}
use Rattle.sdl_signal_lines.specs.Bytes.{ended_line, IsWritten}
use Rattle.sdl_routes.specs.declared.route.TableRow.{TableRow}
use Rattle.sdl_run_outcome.specs.EnvironmentWork.{HasWritten, received_text, received_line}

-- a front of the next line, behind a text that went out
written_front : (old mid new : Option (List ℕ)) (text line : List ℕ) (n : ℕ) → Appends old mid text → Appends mid new (take n line) → n < length line
    → (m : ℕ) × (m < length (text ++ line)) × Appends old new (take m (text ++ line))
written_front old mid new text line n before more less =
    let all : length (text ++ line) ≡ length text + length line = length-append text line in
    let front : take (length text + n) (text ++ line) ≡ text ++ take n line =
    take-add (length text) n (text ++ line)
    ∙ ap (λ t. t ++ take n (drop (length text) (text ++ line))) (take_at text line (length text) refl)
    ∙ ap (λ r. text ++ take n r) (drop-append_seam text line) in
    (length text + n, omega (arith, all, less), subst (Appends old new) (sym front) (Appends-trans old mid new text (take n line) before more))

-- after a fault nothing more goes out
pub written_no_more : (start now : Option (List ℕ)) (text more : List ℕ) → HasWritten start now text output.WriteFault → HasWritten start now (text ++ more) output.WriteFault
written_no_more start now text more (n, less, wrote) =
    let all : length (text ++ more) ≡ length text + length more = length-append text more in
    let few : n ≤ length text = omega (arith, less) in
    (n, omega (arith, all, less), subst (Appends start now) (sym (take-append-le n text more few)) wrote)

-- a line more went out, or a front of it
pub written_line : (start before after : Option (List ℕ)) (text line : List ℕ) → HasWritten start before text output.Whole → IsWritten before after line written.Whole → HasWritten start after (text ++ ended_line line) output.Whole
written_line start before after text line wrote more = Appends-trans start before after text (ended_line line) wrote more

pub written_fault : (start before after : Option (List ℕ)) (text line : List ℕ) (n : ℕ) → HasWritten start before text output.Whole → IsWritten before after line (written.Fault n) → HasWritten start after (text ++ ended_line line) output.WriteFault
written_fault start before after text line n wrote (less, more) =
    let few : n < length (ended_line line) = rw length-append less in
    written_front start before after text (ended_line line) n wrote more few

-- the text of one item
pub received_one : (names : Lexicon) (rows : List TableRow) (i : Item) (line : List ℕ) → line_text names (received_line rows i) ≡ Some line → ended_line line ≡ received_text names rows (i ∷ [])
received_one names rows i line e = ap (λ (o : Option (List ℕ)). ended_line (unwrap_or o [])) (sym e) ∙ sym (append-nil (ended_line (unwrap_or (line_text names (received_line rows i)) [])))

pub received_more : (names : Lexicon) (rows : List TableRow) (items more : List Item) → received_text names rows (items ++ more) ≡ received_text names rows items ++ received_text names rows more
received_more names rows items more = flat_map-append (λ i. ended_line (unwrap_or (line_text names (received_line rows i)) [])) items more

pub written_none : (start : Option (List ℕ)) → HasWritten start start [] output.Whole
written_none start = Appends-nil start
