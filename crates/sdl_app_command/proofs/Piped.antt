-- Lines that go through the queue of the pipe.
use Rattle.std.proofs.Common.{◌≡◌, ℕ, zero, suc, ◌+◌, ◌<◌, ◌≤◌, List, [], ◌∷◌, ◌++◌, length, take, drop, Option, Some, None, IsSome, refl, sym, ap, ◌∙◌, subst, append_assoc, append-nil, arith, length-append}
use Rattle.std.specs.List.{AllByRecursion}
use Rattle.std.specs.Io.KnownBytes.{Appends}
use Rattle.std.proofs.KnownBytes.{Appends-trans}
use Rattle.std.proofs.lemmas.Bool.{false≢true}
use Rattle.std.proofs.Math.Seq.{take-add, drop-append_seam}
use Rattle.std.proofs.lemmas.List.{take-append-le, take_at}
use Rattle.sdl_signal.specs.declared.values.EnvLine.{EnvLine}
use Rattle.sdl_signal.specs.declared.values.Item.{Item}
use Rattle.sdl_signal.specs.declared.values.Signal.{Signal}
use Rattle.sdl_signal.specs.Names.{Lexicon}
use Rattle.sdl_signal.specs.Line.{line_text}
use Rattle.sdl_signal_lines.specs.Bytes.{ended_line}
use Rattle.std.specs.Prelude.{unwrap_or}
use Rattle.sdl_app_command.specs.Pipe.{pipe_lexicon, line_at_gate, text_or_none, piped_text, queued_item, queued_items, AreWritable, IsWritable, text_of}

-- one line more in the queue
pub queued_items-push : (number : ℕ) (carried : List EnvLine) (l : EnvLine) → queued_items number carried ++ queued_item (number + length carried) l.signal ∷ [] ≡ queued_items number (carried ++ l ∷ [])
queued_items-push number [] l = let e : number + 0 ≡ number = omega arith in ap (λ n. queued_item n l.signal ∷ []) e
queued_items-push number (x ∷ carried) l =
    let e : number + suc (length carried) ≡ number + 1 + length carried = omega arith in
    ap (λ items. queued_item number x.signal ∷ items)
    (ap (λ n. queued_items (number + 1) carried ++ queued_item n l.signal ∷ []) e ∙ queued_items-push (number + 1) carried l)

pub AreWritable-push : (names : Lexicon) (carried : List EnvLine) (l : EnvLine) → AreWritable names carried → IsSome (line_text names (record l { to = None })) → AreWritable names (carried ++ l ∷ [])
AreWritable-push names [] l h t = (t, tt)
AreWritable-push names (x ∷ carried) l h t = (h.0, AreWritable-push names carried l h.1 t)

-- the pipe has one gate
gate_is_first : (n : ℕ) (signal : Signal) → IsSome (line_text pipe_lexicon (record { gate = record { 0 = n }; signal = signal; to = None })) → n ≡ 0
gate_is_first zero signal h = refl
gate_is_first (suc n) signal h = absurd (false≢true h)

same_line : (l : EnvLine) → IsSome (line_text pipe_lexicon (record l { to = None })) → record l { to = None } ≡ line_at_gate l.signal
same_line l h = ap (λ n. record { gate = record { 0 = n }; signal = l.signal; to = None }) (gate_is_first l.gate.0 l.signal h)

pub queue_is_writable : (number : ℕ) (carried : List EnvLine) → AreWritable pipe_lexicon carried → AllByRecursion (IsWritable pipe_lexicon) (queued_items number carried)
queue_is_writable number [] h = tt
queue_is_writable number (l ∷ carried) h =
    let P : EnvLine → Type 0 = λ line. IsSome (line_text pipe_lexicon line) in
    (subst P (same_line l h.0) h.0, queue_is_writable (number + 1) carried h.1)

pub text_of-queued_items : (number : ℕ) (carried : List EnvLine) → AreWritable pipe_lexicon carried → text_of pipe_lexicon (queued_items number carried) ≡ piped_text pipe_lexicon carried
text_of-queued_items number [] h = refl
text_of-queued_items number (l ∷ carried) h =
    ap (λ line. ended_line (text_or_none pipe_lexicon line) ++ text_of pipe_lexicon (queued_items (number + 1) carried)) (sym (same_line l h.0))
    ∙ ap (λ text. ended_line (text_or_none pipe_lexicon (record l { to = None })) ++ text) (text_of-queued_items (number + 1) carried h.1)

-- a text and the text of one item more
pub text_of-push : (names : Lexicon) (items : List Item) (i : Item) → text_of names (items ++ i ∷ []) ≡ text_of names items ++ ended_line (text_or_none names (line_at_gate i.signal))
text_of-push names [] i = append-nil (ended_line (text_or_none names (line_at_gate i.signal)))
text_of-push names (x ∷ items) i =
    ap (λ text. ended_line (text_or_none names (line_at_gate x.signal)) ++ text) (text_of-push names items i)
    ∙ sym (append_assoc (ended_line (text_or_none names (line_at_gate x.signal))) (text_of names items) (ended_line (text_or_none names (line_at_gate i.signal))))

pub text_of-append : (names : Lexicon) (xs ys : List Item) → text_of names (xs ++ ys) ≡ text_of names xs ++ text_of names ys
text_of-append names [] ys = refl
text_of-append names (x ∷ xs) ys =
    ap (λ text. ended_line (text_or_none names (line_at_gate x.signal)) ++ text) (text_of-append names xs ys)
    ∙ sym (append_assoc (ended_line (text_or_none names (line_at_gate x.signal))) (text_of names xs) (text_of names ys))

-- a front of the next line, behind a text that went out
pub written_front : (old mid new : Option (List ℕ)) (text line rest : List ℕ) (n : ℕ) → Appends old mid text → Appends mid new (take n line) → n < length line
    → (m : ℕ) × (m < length (text ++ (line ++ rest))) × Appends old new (take m (text ++ (line ++ rest)))
written_front old mid new text line rest n before more less =
    let all : length (text ++ (line ++ rest)) ≡ length text + length (line ++ rest) = length-append text (line ++ rest) in
    let few : n ≤ length line = omega arith in
    let front : take (length text + n) (text ++ (line ++ rest)) ≡ text ++ take n line =
    take-add (length text) n (text ++ (line ++ rest))
    ∙ ap (λ t. t ++ take n (drop (length text) (text ++ (line ++ rest)))) (take_at text (line ++ rest) (length text) refl)
    ∙ ap (λ r. text ++ take n r) (drop-append_seam text (line ++ rest))
    ∙ ap (λ r. text ++ r) (take-append-le n line rest few) in
    (length text + n, omega (arith, all, length-append line rest, less), subst (Appends old new) (sym front) (Appends-trans old mid new text (take n line) before more))

-- the text of items of which the first was taken
pub text_of-taken : (names : Lexicon) (all written queue rest : List Item) (i : Item) (line : List ℕ) → all ≡ written ++ queue → queue ≡ i ∷ rest → line_text names (line_at_gate i.signal) ≡ Some line
    → (all ≡ (written ++ i ∷ []) ++ rest) × (text_of names (written ++ i ∷ []) ≡ text_of names written ++ ended_line line)
    × (text_of names all ≡ text_of names written ++ (ended_line line ++ text_of names rest))
text_of-taken names all written queue rest i line whole taken text =
    let e : all ≡ written ++ (i ∷ rest) = whole ∙ ap (λ q. written ++ q) taken in
    let is : text_or_none names (line_at_gate i.signal) ≡ line = ap (λ o. unwrap_or o []) text in (
      e ∙ sym (append_assoc written (i ∷ []) rest),
      text_of-push names written i ∙ ap (λ l. text_of names written ++ ended_line l) is,
      ap (text_of names) e ∙ text_of-append names written (i ∷ rest) ∙ ap (λ l. text_of names written ++ (ended_line l ++ text_of names rest)) is,
    )

pub rest_is_writable : (names : Lexicon) (queue rest : List Item) (i : Item) → queue ≡ i ∷ rest → AllByRecursion (IsWritable names) queue → IsWritable names i × AllByRecursion (IsWritable names) rest
rest_is_writable names queue rest i e h = let P : List Item → Type 0 = AllByRecursion (IsWritable names) in let all : P (i ∷ rest) = subst P e h in (all.0, all.1)
