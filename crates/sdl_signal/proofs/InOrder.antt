-- A line that is read from its front to its end.
use Rattle.std.proofs.Common.{◌≡◌, ℕ, List, [], ◌∷◌, ◌++◌, Some, sym, ap, ◌∙◌, slice_get, option_map, codes, append-nil, append_assoc}
use Rattle.std.proofs.lemmas.Option.{same_Some}
use Rattle.std.proofs.lemmas.Iterator.Adapters.{option_map_id}
use Rattle.sdl_signal.specs.declared.values.EnvLine.{EnvLine}
use Rattle.sdl_signal.specs.Names.{Lexicon, DeclaredSignal}
use Rattle.sdl_signal.specs.declared.values.Pid.{Pid}
use Rattle.sdl_signal.specs.Line.{space, pid_text, value_texts, to_part, to_texts, line_text}
use Rattle.sdl_signal.specs.Writing.{spaced}
use Rattle.sdl_signal.proofs.LineText.{join-spaced, spaced-append}
use Rattle.sdl_signal.proofs.Rules.{text_of_fields}
use Rattle.sdl_signal.proofs.Texts.{map_is}

-- one more field, with a space before it
pub spaced_more : (text rest behind field after : List ℕ) (ts : List (List ℕ)) → text ≡ spaced ts ++ rest → rest ≡ space ∷ behind → behind ≡ field ++ after → text ≡ spaced (ts ++ field ∷ []) ++ after
spaced_more text rest behind field after ts e f g =
    e
    ∙ ap (λ r. spaced ts ++ r) (f ∙ ap (λ b. space ∷ b) g)
    ∙ ap (λ x. spaced ts ++ space ∷ (x ++ after)) (sym (append-nil field))
    ∙ sym (append_assoc (spaced ts) (space ∷ field ++ []) after)
    ∙ ap (λ x. x ++ after) (sym (spaced-append ts (field ∷ [])))

-- the text of a line from its fields, in their order
pub text_in_order : (names : Lexicon) (l : EnvLine) (line gate behind rest name values tail : List ℕ) (d : DeclaredSignal) (ts : List (List ℕ)) → option_map (λ n. n) (slice_get names.gates l.gate.0) ≡ Some gate → slice_get names.signals l.signal.id.0 ≡ Some d → option_map (λ s. s.name) (slice_get names.signals l.signal.id.0) ≡ Some name → value_texts names d.sorts l.signal.params.items ≡ Some ts → values ≡ spaced ts ++ tail → option_map spaced (to_texts names l.to) ≡ Some tail → line ≡ gate ++ behind → behind ≡ space ∷ rest → rest ≡ name ++ values → line_text names l ≡ Some line
text_in_order names l line gate behind rest name values tail d ts ge se ne ve vs te e f g =
    let m = map_is spaced (to_texts names l.to) tail te in
    let n : d.name ≡ name = same_Some d.name name (sym (ap (option_map (λ (s : DeclaredSignal). s.name)) se) ∙ ne) in
    text_of_fields names l gate d ts m.0 (sym (option_map_id (slice_get names.gates l.gate.0)) ∙ ge) se ve m.1
    ∙ ap Some
    (join-spaced gate (d.name ∷ ts ++ m.0)
    ∙ ap (λ x. gate ++ space ∷ (x ++ spaced (ts ++ m.0))) n
    ∙ ap (λ v. gate ++ space ∷ (name ++ v)) (spaced-append ts m.0 ∙ ap (λ t. spaced ts ++ t) m.2 ∙ sym vs)
    ∙ ap (λ r. gate ++ space ∷ r) (sym g)
    ∙ ap (λ b. gate ++ b) (sym f)
    ∙ sym e)

-- the text of a TO part
pub to_part_text : (names : Lexicon) (p : Pid) (text behind word rest field : List ℕ) → text ≡ space ∷ behind → behind ≡ word ++ rest → word ≡ codes "to" → rest ≡ space ∷ field → pid_text names p ≡ Some field → option_map spaced (to_texts names (Some p)) ≡ Some text
to_part_text names p text behind word rest field e f w g h =
    ap (λ o. option_map spaced (option_map (λ t. to_part (Some t)) o)) h
    ∙ ap (λ x. Some (space ∷ (codes "to" ++ space ∷ x))) (append-nil field)
    ∙ ap (λ r. Some (space ∷ (codes "to" ++ r))) (sym g)
    ∙ ap (λ v. Some (space ∷ (v ++ rest))) (sym w)
    ∙ ap (λ b. Some (space ∷ b)) (sym f)
    ∙ ap Some (sym e)
