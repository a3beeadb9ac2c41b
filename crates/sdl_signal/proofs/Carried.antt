-- How the environment's reading goes on, by what its source of lines answers.
use Rattle.std.proofs.Common.{◌≡◌, ℕ, ◌+◌, ◌<◌, ◌≤◌, List, [], ◌∷◌, ◌++◌, length, Option, Some, None, IfSome, flat_map, refl, sym, ap, ◌∙◌, subst, append_assoc, append-nil, inl, inr, arith, length-append}
use Rattle.std.specs.List.{AllByRecursion}
use Rattle.std.specs.Io.KnownBytes.{Keeps, Consumes, IsAtEnd, prepend_known}
use Rattle.sdl_signal_lines.specs.Bytes.{newline, HasNoNewline, IsFirstLine, BeginsWithLines, BeginsTooLong, ended_line}
use Rattle.sdl_signal_lines.specs.Source.{Source, HandsOut, to_come}
use Rattle.sdl_signal.specs.Names.{Lexicon}
use Rattle.sdl_signal.specs.Line.{line_text}
use Rattle.sdl_signal.specs.Reading.{IsFirstFault, NamesFirst}
use Rattle.sdl_signal.specs.Environment.{AreRead, Reading, HasCome, HasCarried, HasRead, most_lines}
use Rattle.sdl_signal.specs.declared.values.EnvLine.{EnvLine}
use Rattle.sdl_signal.specs.declared.reading.LineFault.{LineFault}
use Rattle.sdl_signal.specs.declared.reading.LineFault.TheVariants.{TooLong}
use Rattle.sdl_signal.specs.declared.ends.InputEnd.TheVariants as ends
use Rattle.sdl_signal_lines.specs.declared.sources.Ended.{Ended}
use Rattle.sdl_signal_lines.specs.declared.sources.Ended.TheVariants as ended

-- lists of lines, with one more
flat-push : (lines : List (List ℕ)) (line rest : List ℕ) → flat_map ended_line lines ++ (ended_line line ++ rest) ≡ flat_map ended_line (lines ++ line ∷ []) ++ rest
flat-push [] line rest = ap (λ l. l ++ rest) (sym (append-nil (ended_line line)))
flat-push (l ∷ lines) line rest =
    append_assoc (ended_line l) (flat_map ended_line lines) (ended_line line ++ rest) ∙ ap (λ r. ended_line l ++ r) (flat-push lines line rest)
    ∙ sym (append_assoc (ended_line l) (flat_map ended_line (lines ++ line ∷ [])) rest)

all-push : (lines : List (List ℕ)) (line : List ℕ) → AllByRecursion HasNoNewline lines → HasNoNewline line → AllByRecursion HasNoNewline (lines ++ line ∷ [])
all-push [] line h n = (n, tt)
all-push (l ∷ lines) line h n = (h.0, all-push lines line h.1 n)

AreRead-push : (names : Lexicon) (lines : List (List ℕ)) (carried : List EnvLine) (line : List ℕ) (l : EnvLine) → AreRead names lines carried → line_text names l ≡ Some line → NamesFirst names l
    → AreRead names (lines ++ line ∷ []) (carried ++ l ∷ [])
AreRead-push names [] [] line l h t f = (t, f, tt)
AreRead-push names [] (c ∷ cs) line l h t f = absurd h
AreRead-push names (x ∷ lines) [] line l h t f = absurd h
AreRead-push names (x ∷ lines) (c ∷ cs) line l h t f = (h.0, h.1, AreRead-push names lines cs line l h.2 t f)

pub begins_flat : (lines : List (List ℕ)) (rest : List ℕ) → AllByRecursion HasNoNewline lines → BeginsWithLines (flat_map ended_line lines ++ rest) lines rest
begins_flat [] rest h = refl
begins_flat (l ∷ lines) rest h =
    (flat_map ended_line lines ++ rest, (h.0, inl (append_assoc (ended_line l) (flat_map ended_line lines) rest)), begins_flat lines rest h.1)

begins : (input : List ℕ) (lines : List (List ℕ)) (rest : List ℕ) → input ≡ flat_map ended_line lines ++ rest → AllByRecursion HasNoNewline lines → BeginsWithLines input lines rest
begins input lines rest e h = subst (λ xs. BeginsWithLines xs lines rest) (sym e) (begins_flat lines rest h)

begins_more : (bytes : List ℕ) (lines : List (List ℕ)) (mid line rest : List ℕ) → BeginsWithLines bytes lines mid → IsFirstLine mid line rest → BeginsWithLines bytes (lines ++ line ∷ []) rest
begins_more bytes [] mid line rest b f = (rest, subst (λ xs. IsFirstLine xs line rest) (sym b) f, refl)
begins_more bytes (l ∷ lines) mid line rest b f = (b.0, b.1, begins_more b.0 lines mid line rest b.2 f)

pub nil_left : (xs ys : List ℕ) → xs ++ ys ≡ [] → ys ≡ []
nil_left [] ys e = e
nil_left (x ∷ xs) ys e = cc

-- what the reader has left, and what it gave
pub record Given (input : List ℕ) (now : Option (List ℕ)) (front ahead : List ℕ) : Type 0 where
  pub left : List ℕ
  pub is : now ≡ Some left
  pub split : input ≡ (front ++ ahead) ++ left

given_is : (input : List ℕ) (now : Option (List ℕ)) (front ahead : List ℕ) → Given input now front ahead → Consumes (Some input) now (front ++ ahead)
given_is input now front ahead g = let P : Option (List ℕ) → Type 0 = λ o. Consumes (Some input) o (front ++ ahead) in subst P (sym g.is) g.split

-- bytes that were to come, of which some were handed out
given : (input front out ahead xs : List ℕ) (now : Option (List ℕ)) → input ≡ front ++ xs → Consumes (Some xs) (prepend_known ahead now) out → Given input now (front ++ out) ahead
given input front out ahead xs None e c = absurd c
given input front out ahead xs (Some left) e c = record {
  left = left;
  is = refl;
  split = e ∙ ap (λ r. front ++ r) c ∙ sym (append_assoc front out (ahead ++ left)) ∙ sym (append_assoc (front ++ out) ahead left);
}

kept_given : (input front ahead xs : List ℕ) (now : Option (List ℕ)) → input ≡ front ++ xs → Keeps (Some xs) (prepend_known ahead now) → Given input now front ahead
kept_given input front ahead xs None e k = absurd k
kept_given input front ahead xs (Some left) e k = record { left = left; is = refl; split = e ∙ ap (λ r. front ++ r) (sym k) ∙ sym (append_assoc front ahead left) }

-- the source was open, and its lines so far ended in newlines
pub record IsOpen (input : List ℕ) (lines : List (List ℕ)) (source : Source) (left : List ℕ) : Type 0 where
  pub ended : source.ended ≡ None
  pub split : input ≡ flat_map ended_line lines ++ (source.ahead ++ left)
  pub each : AllByRecursion HasNoNewline lines

is_open : (input : List ℕ) (lines : List (List ℕ)) (source : Source) (left : List ℕ) → (source.ended ≡ Some ended.Done → ⊥) → HasCome input lines source left → IsOpen input lines source left
is_open input lines source left still (inl (e, split, each)) = record { ended = e; split = split; each = each }
is_open input lines source left still (inr (e, whole, none)) = absurd (still e)

all_lines : (input : List ℕ) (lines : List (List ℕ)) (source : Source) (left : List ℕ) → IsOpen input lines source left → BeginsWithLines input lines (source.ahead ++ left)
all_lines input lines source left here = begins input lines (source.ahead ++ left) here.split here.each

-- a line that is handed out is the first of what was to come
first_of : (xs line : List ℕ) (after : Option (List ℕ)) (end : Option Ended) → HasNoNewline line → HandsOut (Some xs) after line end → (rest : List ℕ) × IsFirstLine xs line rest
first_of xs line None end n (inl (c, e)) = absurd c
first_of xs line (Some ys) end n (inl (c, e)) = (ys, (n, inl c))
first_of xs line None end n (inr (c, l, z, e)) = absurd c
first_of xs line (Some ys) end n (inr (c, l, z, e)) = ([], (n, inr (c ∙ ap (λ r. line ++ r) z ∙ append-nil line, l, refl)))

consumed_of : (xs line : List ℕ) (after : Option (List ℕ)) (end : Option Ended) → HandsOut (Some xs) after line end → (out : List ℕ) × Consumes (Some xs) after out
consumed_of xs line after end (inl (c, e)) = (ended_line line, c)
consumed_of xs line after end (inr (c, l, z, e)) = (line, c)

some_first : (xs line rest : List ℕ) → IsFirstLine xs line rest → 0 < length xs
some_first xs line rest (n, inl e) =
    let count : length xs ≡ length ((line ++ newline ∷ []) ++ rest) = ap length e in
    omega (arith, count, length-append (line ++ newline ∷ []) rest, length-append line (newline ∷ []))
some_first xs line rest (n, inr (e, l, z)) = let P : List ℕ → Type 0 = λ ys. 0 < length ys in subst P (sym e) l

some_too_long : (xs : List ℕ) → BeginsTooLong xs → 0 < length xs
some_too_long xs (start, more, e, count, n) = let all : length xs ≡ length (start ++ more) = ap length e in omega (arith, all, length-append start more, count)

-- A line more was carried out.
pub carried_more : (names : Lexicon) (start now after : Option (List ℕ)) (old : Reading) (new : Source) (carried : List EnvLine) (line : List ℕ) (l : EnvLine)
    → (old.source.ended ≡ Some ended.Done → ⊥)
    → (old.source.ended ≡ None → HasNoNewline line × HandsOut (to_come old.source now) (to_come new after) line new.ended)
    → line_text names l ≡ Some line → NamesFirst names l
    → HasCarried names start now old carried → HasCarried names start after (record { source = new; carried = old.carried + 1 }) (carried ++ l ∷ [])
carried_more names None now after old new carried line l still next text first h = tt
carried_more names (Some input) now after old new carried line l still next text first (left, lines, is, read, count, come) =
    let here : IsOpen input lines old.source left = is_open input lines old.source left still come in
    let P : Option (List ℕ) → Type 0 = λ o. HasNoNewline line × HandsOut (to_come old.source o) (to_come new after) line new.ended in
    let (none, out) = subst P is (next here.ended) in
    goes_on here none after out
  where
    counted : length (lines ++ line ∷ []) ≡ old.carried + 1
    counted = rw length-append (ap (λ n. n + 1) count)

    goes_on : IsOpen input lines old.source left → HasNoNewline line → (o : Option (List ℕ)) → HandsOut (Some (old.source.ahead ++ left)) (to_come new o) line new.ended
        → HasCarried names (Some input) o (record { source = new; carried = old.carried + 1 }) (carried ++ l ∷ [])
    goes_on here none None (inl (c, e)) = absurd c
    goes_on here none None (inr (c, len, z, e)) = absurd c
    goes_on here none (Some ys) (inl (c, e)) = (
      ys,
      lines ++ line ∷ [],
      refl,
      AreRead-push names lines carried line l read text first,
      counted,
      inl (e, here.split ∙ ap (λ r. flat_map ended_line lines ++ r) c ∙ flat-push lines line (new.ahead ++ ys), all-push lines line here.each none),
    )
    goes_on here none (Some ys) (inr (c, len, z, e)) = (
      ys,
      lines ++ line ∷ [],
      refl,
      AreRead-push names lines carried line l read text first,
      counted,
      inr (
        e,
        begins_more input lines (old.source.ahead ++ left) line [] (all_lines input lines old.source left here)
            (none, inr (c ∙ ap (λ r. line ++ r) z ∙ append-nil line, len, refl)),
        z,
      ),
    )

-- The input has ended.
pub read_whole : (names : Lexicon) (start now after : Option (List ℕ)) (old : Reading) (new : Source) (carried : List EnvLine)
    → (old.source.ended ≡ Some ended.Done → after ≡ now)
    → (old.source.ended ≡ None → IsAtEnd (to_come old.source now) × Keeps (to_come old.source now) (to_come new after))
    → old.carried ≤ most_lines → HasCarried names start now old carried → HasRead names start after carried ends.Whole
read_whole names None now after old new carried still next few h = tt
read_whole names (Some input) now after old new carried still next few (left, lines, is, read, count, inl (e, split, each)) =
    let P : Option (List ℕ) → Type 0 = λ o. IsAtEnd (to_come old.source o) × Keeps (to_come old.source o) (to_come new after) in
    let (none, keeps) = subst P is (next e) in
    let front = flat_map ended_line lines in (
      front ++ new.ahead,
      given_is input after front new.ahead (kept_given input front new.ahead (old.source.ahead ++ left) after split keeps),
      (lines, begins input lines [] (split ∙ ap (λ r. front ++ r) none) each, read, omega (arith, count, few)),
    )
read_whole names (Some input) now after old new carried still next few (left, lines, is, read, count, inr (e, whole, none)) =
    let same : after ≡ Some left = still e ∙ is in
    let P : Option (List ℕ) → Type 0 = λ o. Consumes (Some input) o input in (
      input,
      subst P (sym same) (sym (append-nil input) ∙ ap (λ r. input ++ r) (sym (nil_left old.source.ahead left none))),
      (lines, whole, read, omega (arith, count, few)),
    )

-- The reader failed.
pub read_fault : (names : Lexicon) (start now after : Option (List ℕ)) (old : Reading) (new : Source) (carried : List EnvLine)
    → (old.source.ended ≡ Some ended.Done → ⊥)
    → (old.source.ended ≡ None → Keeps (to_come old.source now) (to_come new after) × HasNoNewline new.ahead × (length new.ahead ≤ 320))
    → old.carried ≤ most_lines → HasCarried names start now old carried → HasRead names start after carried ends.ReadFault
read_fault names None now after old new carried still next few h = tt
read_fault names (Some input) now after old new carried still next few (left, lines, is, read, count, come) =
    let here = is_open input lines old.source left still come in
    let P : Option (List ℕ) → Type 0 = λ o. Keeps (to_come old.source o) (to_come new after) × HasNoNewline new.ahead × (length new.ahead ≤ 320) in
    let (keeps, none, short) = subst P is (next here.ended) in
    let front = flat_map ended_line lines in (
      front ++ new.ahead,
      given_is input after front new.ahead (kept_given input front new.ahead (old.source.ahead ++ left) after here.split keeps),
      (lines, new.ahead, refl, here.each, none, short, read, omega (arith, count, few)),
    )

-- The next line is too long: a fault, or one line more than the limit.
pub read_over : (names : Lexicon) (start now after : Option (List ℕ)) (old : Reading) (new : Source) (carried : List EnvLine)
    → (old.source.ended ≡ Some ended.Done → ⊥)
    → (old.source.ended ≡ None → IfSome (to_come old.source now) BeginsTooLong × Keeps (to_come old.source now) (to_come new after))
    → old.carried < most_lines → HasCarried names start now old carried → HasRead names start after carried (ends.BadLine (old.carried + 1) TooLong)
read_over names None now after old new carried still next few h = tt
read_over names (Some input) now after old new carried still next few (left, lines, is, read, count, come) =
    let here = is_open input lines old.source left still come in
    let P : Option (List ℕ) → Type 0 = λ o. IfSome (to_come old.source o) BeginsTooLong × Keeps (to_come old.source o) (to_come new after) in
    let (over, keeps) = subst P is (next here.ended) in
    let front = flat_map ended_line lines in (
      front ++ new.ahead,
      given_is input after front new.ahead (kept_given input front new.ahead (old.source.ahead ++ left) after here.split keeps),
      (lines, old.source.ahead ++ left, all_lines input lines old.source left here, read, omega (arith, count, few), ap (λ n. n + 1) (sym count), inl (refl, over)),
    )

pub too_much_over : (names : Lexicon) (start now after : Option (List ℕ)) (old : Reading) (new : Source) (carried : List EnvLine)
    → (old.source.ended ≡ Some ended.Done → ⊥)
    → (old.source.ended ≡ None → IfSome (to_come old.source now) BeginsTooLong × Keeps (to_come old.source now) (to_come new after))
    → old.carried ≡ most_lines → HasCarried names start now old carried → HasRead names start after carried ends.TooMuch
too_much_over names None now after old new carried still next full h = tt
too_much_over names (Some input) now after old new carried still next full (left, lines, is, read, count, come) =
    let here = is_open input lines old.source left still come in
    let P : Option (List ℕ) → Type 0 = λ o. IfSome (to_come old.source o) BeginsTooLong × Keeps (to_come old.source o) (to_come new after) in
    let (over, keeps) = subst P is (next here.ended) in
    let front = flat_map ended_line lines in (
      front ++ new.ahead,
      given_is input after front new.ahead (kept_given input front new.ahead (old.source.ahead ++ left) after here.split keeps),
      (lines, old.source.ahead ++ left, all_lines input lines old.source left here, read, count ∙ full, some_too_long (old.source.ahead ++ left) over),
    )

-- The next line has a fault, or is one more than the limit.
pub read_bad : (names : Lexicon) (start now after : Option (List ℕ)) (old : Reading) (new : Source) (carried : List EnvLine) (line : List ℕ) (fault : LineFault)
    → (old.source.ended ≡ Some ended.Done → ⊥)
    → (old.source.ended ≡ None → HasNoNewline line × HandsOut (to_come old.source now) (to_come new after) line new.ended)
    → IsFirstFault names line fault
    → old.carried < most_lines → HasCarried names start now old carried → HasRead names start after carried (ends.BadLine (old.carried + 1) fault)
read_bad names None now after old new carried line fault still next bad few h = tt
read_bad names (Some input) now after old new carried line fault still next bad few (left, lines, is, read, count, come) =
    let here = is_open input lines old.source left still come in
    let P : Option (List ℕ) → Type 0 = λ o. HasNoNewline line × HandsOut (to_come old.source o) (to_come new after) line new.ended in
    let (none, out) = subst P is (next here.ended) in
    let front = flat_map ended_line lines in
    let xs = old.source.ahead ++ left in
    let (handed, consumed) = consumed_of xs line (to_come new after) new.ended out in
    let (rest, first) = first_of xs line (to_come new after) new.ended none out in (
      (front ++ handed) ++ new.ahead,
      given_is input after (front ++ handed) new.ahead (given input front handed new.ahead xs after here.split consumed),
      (lines, xs, all_lines input lines old.source left here, read, omega (arith, count, few), ap (λ n. n + 1) (sym count), inr (line, rest, first, bad)),
    )

pub too_much_line : (names : Lexicon) (start now after : Option (List ℕ)) (old : Reading) (new : Source) (carried : List EnvLine) (line : List ℕ)
    → (old.source.ended ≡ Some ended.Done → ⊥)
    → (old.source.ended ≡ None → HasNoNewline line × HandsOut (to_come old.source now) (to_come new after) line new.ended)
    → old.carried ≡ most_lines → HasCarried names start now old carried → HasRead names start after carried ends.TooMuch
too_much_line names None now after old new carried line still next full h = tt
too_much_line names (Some input) now after old new carried line still next full (left, lines, is, read, count, come) =
    let here = is_open input lines old.source left still come in
    let P : Option (List ℕ) → Type 0 = λ o. HasNoNewline line × HandsOut (to_come old.source o) (to_come new after) line new.ended in
    let (none, out) = subst P is (next here.ended) in
    let front = flat_map ended_line lines in
    let xs = old.source.ahead ++ left in
    let (handed, consumed) = consumed_of xs line (to_come new after) new.ended out in
    let (rest, first) = first_of xs line (to_come new after) new.ended none out in (
      (front ++ handed) ++ new.ahead,
      given_is input after (front ++ handed) new.ahead (given input front handed new.ahead xs after here.split consumed),
      (lines, xs, all_lines input lines old.source left here, read, count ∙ full, some_first xs line rest first),
    )
