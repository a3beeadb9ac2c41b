use Rattle.std.proofs.Common.{◌≡◌, ℕ, List, ◌+◌, ◌≤◌, ◌-◌, length, take, drop, sym, subst, arith, length-drop, Option}
use Rattle.std.proofs.Math.Seq.{take-add}
use Rattle.std.proofs.lemmas.List.{take_rest}
use Rattle.std.specs.Io.KnownBytes.{Appends}
use Rattle.std.proofs.KnownBytes.{Appends-trans}
use Rattle.sdl_signal_lines.proofs.sinks.LineSink.write_bytes.Goals as goal

appends_more : (a b c : Option (List ℕ)) (all : List ℕ) (sent n : ℕ) → Appends a b (take sent all) → Appends b c (take n (take (length all - sent) (drop sent all))) → Appends a c (take (sent + n) all)
appends_more a b c all sent n p q =
    subst (Appends a c) (sym (take-add sent n all)) (Appends-trans a b c _ _ p (subst (λ part. Appends b c (take n part)) (take_rest all sent) q))

within_more : (all : List ℕ) (sent n : ℕ) → sent ≤ length all → n ≤ length (take (length all - sent) (drop sent all)) → sent + n ≤ length all
within_more all sent n w h =
    let P : List ℕ → Type 0 = λ part. n ≤ length part in
    let inside : n ≤ length (drop sent all) = subst P (take_rest all sent) h in
    let count : length (drop sent all) ≡ length all - sent = length-drop sent all in
    omega (arith, w, inside, count)

pub loop-sent-preserved-in-Ok : goal.loop-sent-preserved-in-Ok
loop-sent-preserved-in-Ok g c =
    let (retries, few, within, appended) = c.loop-sent.invariant in
    (retries, few, within_more _ _ _ within c.in-Ok.ensures.bound, appends_more _ _ _ _ _ _ appended c.in-Ok.ensures.bytes)
