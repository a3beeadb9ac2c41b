-- The outputs of the lines that were read, and what was read so far.
use Rattle.std.proofs.Common.{◌≡◌, ℕ, suc, ◌+◌, ◌≤◌, List, [], ◌∷◌, ◌++◌, length, Option, Some, None, flat_map, inl, inr, refl, sym, ap, ◌∙◌, subst, append_assoc, append-nil, arith}
use Rattle.std.specs.Io.KnownBytes.{Consumes}
use Rattle.sdl_signal.specs.declared.values.EnvLine.{EnvLine}
use Rattle.sdl_signal.specs.declared.ends.InputEnd.{InputEnd}
use Rattle.sdl_signal.specs.declared.ends.InputEnd.TheVariants as input
use Rattle.sdl_signal.specs.declared.environment.EnvRead.TheVariants as env
use Rattle.sdl_signal.specs.Names.{Lexicon}
use Rattle.sdl_signal_lines.specs.Source.{Source}
use Rattle.sdl_signal_lines.specs.Bytes.{BeginsWithLines, ended_line}
use Rattle.sdl_signal.specs.Environment.{Reading, AreRead, HasCarried, HasCome, HasRead, GoesOn, most_lines}
use Rattle.sdl_signal.proofs.Carried.{begins_flat, nil_left}
use Rattle.sdl_structure_parts.specs.Structure.{Structure, lexicon_of}
use Rattle.sdl_routes.specs.declared.route.TableRow.{TableRow}
use Rattle.sdl_run_outcome.specs.declared.environment_output.EnvOut.{EnvOut}
use Rattle.sdl_run_outcome.specs.EnvironmentWork.{EnvWorking, IsOutputOf, AreOutputsOf, HasReadSoFar, HasReadAll, input_end}
use Rattle.sdl_run_environment.specs.EnvPhases.{HasReadBy}

-- one output for each line
pub outputs_count : (rows : List TableRow) (worker n : ℕ) (lines : List EnvLine) (outs : List EnvOut) → AreOutputsOf rows worker n lines outs → length outs ≡ length lines
outputs_count rows worker n [] [] h = refl
outputs_count rows worker n (l ∷ lines) (o ∷ outs) h = ap suc (outputs_count rows worker (n + 1) lines outs h.1)
outputs_count rows worker n [] (o ∷ outs) h = absurd h
outputs_count rows worker n (l ∷ lines) [] h = absurd h

-- one output more
pub outputs_more : (rows : List TableRow) (worker n : ℕ) (lines : List EnvLine) (outs : List EnvOut) (line : EnvLine) (out : EnvOut) → AreOutputsOf rows worker n lines outs → IsOutputOf rows worker (n + length outs) line out
    → AreOutputsOf rows worker n (lines ++ line ∷ []) (outs ++ out ∷ [])
outputs_more rows worker n [] [] line out h one =
    let e : n + 0 ≡ n = omega arith in (subst (λ (k : ℕ). IsOutputOf rows worker k line out) e one, tt)
outputs_more rows worker n (l ∷ lines) (o ∷ outs) line out h one =
    let e : n + suc (length outs) ≡ n + 1 + length outs = omega arith in
    (h.0, outputs_more rows worker (n + 1) lines outs line out h.1 (subst (λ (k : ℕ). IsOutputOf rows worker k line out) e one))
outputs_more rows worker n [] (o ∷ outs) line out h one = absurd h
outputs_more rows worker n (l ∷ lines) [] line out h one = absurd h

-- a line more was read and output
pub read_line_more : (names : Lexicon) (rows : List TableRow) (worker : ℕ) (start before after : Option (List ℕ)) (old new : EnvWorking) (line : EnvLine) (out : EnvOut)
    → old.ended ≡ None → new.ended ≡ None → new.put ≡ old.put ++ out ∷ [] → IsOutputOf rows worker (length old.put) line out
    → ((carried : List EnvLine) → HasCarried names start before old.reading carried → GoesOn names start after new.reading carried (env.Line line))
    → HasReadBy names rows worker start before old → HasReadBy names rows worker start after new
read_line_more names rows worker start before after old new line out unended still put one goes (lines, outs, read) =
    let R : Option InputEnd → Type 0 = λ o. elim o [ None ↦ HasCarried names start before old.reading lines | Some end ↦ HasRead names start before lines end ] in
    let so_far : HasCarried names start before old.reading lines = subst R unended read in
    let more : AreOutputsOf rows worker 0 (lines ++ line ∷ []) new.put =
    subst (AreOutputsOf rows worker 0 (lines ++ line ∷ [])) (sym put) (outputs_more rows worker 0 lines old.put line out outs (let e : length old.put ≡ 0 + length old.put = omega arith in subst (λ (k : ℕ). IsOutputOf rows worker k line out) e one)) in
    let P : Option InputEnd → Type 0 = λ o. elim o [ None ↦ HasCarried names start after new.reading (lines ++ line ∷ []) | Some end ↦ HasRead names start after (lines ++ line ∷ []) end ] in
    (lines ++ line ∷ [], more, subst P (sym still) (goes lines so_far))

-- nothing of the reading changes
pub read_same : (names : Lexicon) (rows : List TableRow) (worker : ℕ) (start now : Option (List ℕ)) (old new : EnvWorking)
    → new.ended ≡ old.ended → new.put ≡ old.put → new.reading ≡ old.reading → HasReadBy names rows worker start now old → HasReadBy names rows worker start now new
read_same names rows worker start now old new ended put reading (lines, outs, read) =
    let P : Option InputEnd → Type 0 = λ o. elim o [ None ↦ HasCarried names start now old.reading lines | Some end ↦ HasRead names start now lines end ] in
    let Q : Reading → Type 0 = λ r. elim new.ended [ None ↦ HasCarried names start now r lines | Some end ↦ HasRead names start now lines end ] in
    (lines, subst (AreOutputsOf rows worker 0 lines) (sym put) outs, subst Q (sym reading) (subst P (sym ended) read))

-- What was handed out stands at the beginning of the input.
stands_first : (given : List ℕ) (lines : List (List ℕ)) (source : Source) (left : List ℕ) → HasCome given lines source left → (rest : List ℕ) × BeginsWithLines given lines rest
stands_first given lines source left (inl (unended, split, each)) =
    (source.ahead ++ left, subst (λ (xs : List ℕ). BeginsWithLines xs lines (source.ahead ++ left)) (sym split) (begins_flat lines (source.ahead ++ left) each))
stands_first given lines source left (inr (done, whole, none)) = ([], whole)

gave : (given : List ℕ) (lines : List (List ℕ)) (source : Source) (left : List ℕ) → HasCome given lines source left → (front : List ℕ) × (given ≡ front ++ left)
gave given lines source left (inl (unended, split, each)) =
    (flat_map ended_line lines ++ source.ahead, split ∙ sym (append_assoc (flat_map ended_line lines) source.ahead left))
gave given lines source left (inr (done, whole, none)) =
    (given, sym (append-nil given) ∙ ap (λ (l : List ℕ). given ++ l) (sym (nil_left source.ahead left none)))

read_count : (names : Lexicon) (lines : List (List ℕ)) (carried : List EnvLine) → AreRead names lines carried → length lines ≡ length carried
read_count names [] [] h = refl
read_count names (l ∷ lines) (c ∷ carried) h = ap suc (read_count names lines carried h.2)
read_count names [] (c ∷ carried) h = absurd h
read_count names (l ∷ lines) [] h = absurd h

-- a reading that has not ended stopped
pub carried_stopped : (names : Lexicon) (start now : Option (List ℕ)) (reading : Reading) (carried : List EnvLine) → reading.carried ≤ most_lines → HasCarried names start now reading carried
    → HasRead names start now carried (input.Stopped (length carried))
carried_stopped names None now reading carried few h = tt
carried_stopped names (Some given) now reading carried few (left, lines, is, read, count, come) =
    let (front, split) = gave given lines reading.source left come in
    let (rest, begins) = stands_first given lines reading.source left come in
    let P : Option (List ℕ) → Type 0 = λ o. Consumes (Some given) o front in
    (front, subst P (sym is) split, (lines, rest, begins, read, (let c = count in omega (arith, c, few)), sym (read_count names lines carried read)))

-- What was read so far is, where the run stops, the whole reading: each line gave one output.
pub read_so_far_is_all : (structure : Structure) (rows : List TableRow) (worker : ℕ) (start now : Option (List ℕ)) (w : EnvWorking) → w.reading.carried ≤ most_lines
    → HasReadSoFar structure rows worker start now w → HasReadAll structure rows worker start now w.put (input_end w)
read_so_far_is_all structure rows worker start now w few (lines, outs, read) = (lines, outs, ends w.ended refl)
  where
    ends : (o : Option InputEnd) → w.ended ≡ o → HasRead (lexicon_of structure) start now lines (input_end w)
    ends None e =
        let P : Option InputEnd → Type 0 = λ o. elim o [ None ↦ HasCarried (lexicon_of structure) start now w.reading lines | Some end ↦ HasRead (lexicon_of structure) start now lines end ] in
        let Q : Option InputEnd → Type 0 = λ o. HasRead (lexicon_of structure) start now lines (elim o [ None ↦ input.Stopped (length w.put) | Some end ↦ end ]) in
        let stopped : HasRead (lexicon_of structure) start now lines (input.Stopped (length w.put)) =
        subst (λ (n : ℕ). HasRead (lexicon_of structure) start now lines (input.Stopped n)) (sym (outputs_count rows worker 0 lines w.put outs))
        (carried_stopped (lexicon_of structure) start now w.reading lines few (subst P e read)) in
        subst Q (sym e) stopped
    ends (Some end) e =
        let P : Option InputEnd → Type 0 = λ o. elim o [ None ↦ HasCarried (lexicon_of structure) start now w.reading lines | Some end ↦ HasRead (lexicon_of structure) start now lines end ] in
        let Q : Option InputEnd → Type 0 = λ o. HasRead (lexicon_of structure) start now lines (elim o [ None ↦ input.Stopped (length w.put) | Some end ↦ end ]) in
        subst Q (sym e) (subst P e read)
