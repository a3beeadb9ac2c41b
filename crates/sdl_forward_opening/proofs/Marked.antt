-- The marks of the stations from which a structure's workers take rise with the workers' numbers, so that no two are equal.
use Rattle.std.proofs.Common.{◌≡◌, ◌≢◌, ℕ, zero, suc, ◌+◌, ◌*◌, ◌%◌, ◌≤◌, ◌<◌, Bool, true, false, cond, List, [], ◌∷◌, ◌++◌, length, map, refl, ap, sym, ◌∙◌, subst, arith}
use Rattle.std.specs.Prelude.{⊤}
use Rattle.std.specs.List.{AllByRecursion}
use Rattle.std.proofs.lemmas.Bool.{cond_both}
use Rattle.sdl_signal.specs.declared.ids.BlockId.{BlockId}
use Rattle.sdl_signal.specs.declared.ids.SignalId.{SignalId}
use Rattle.sdl_structure_parts.specs.declared.parts.Channel.{Channel}
use Rattle.sdl_structure_parts.specs.Structure.{Structure, IsStructure}
use Rattle.sdl_routes.specs.declared.route.Hop.{Hop}
use Rattle.sdl_routes.specs.Routes.{EachOnce}
use Rattle.sdl_forward_ends.specs.Marks.{mark}
use Rattle.sdl_forward_opening.specs.declared.worker.Worker.{Worker}
use Rattle.sdl_forward_opening.specs.declared.worker.Worker.TheVariants.{Block, Environment, Forwarder}
use Rattle.sdl_forward_opening.specs.Workers.{place, mark_at, blocks_from, delaying_path, delaying_from, workers_in}

-- the numbers rise, and the first is at least this one
Rises : ℕ → List ℕ → Type 0
Rises n [] = ⊤
Rises n (m ∷ ms) = (n ≤ m) × Rises (m + 1) ms

lower : (n k : ℕ) (ms : List ℕ) → n ≤ k → Rises k ms → Rises n ms
unfolding Rises
lower n k [] least up = tt
lower n k (m ∷ ms) least up = let at = up.0 in (omega arith, up.1)

above : (n k : ℕ) (ms : List ℕ) → n < k → Rises k ms → AllByRecursion (λ (m : ℕ). n ≢ m) ms
unfolding Rises
above n k [] less up = tt
above n k (m ∷ ms) less up = let at = up.0 in (λ same. absurd (omega (arith, same, less, at)), above n (m + 1) ms (omega arith) up.1)

rises_once : (n : ℕ) (ms : List ℕ) → Rises n ms → EachOnce ms
unfolding Rises
rises_once n [] up = tt
rises_once n (m ∷ ms) up = (above m (m + 1) ms (omega arith) up.1, rises_once (m + 1) ms up.1)

blocks_rise : (n k : ℕ) (more : List Worker) → n + k ≤ 64 → Rises 64 (map mark_at more) → Rises n (map mark_at (blocks_from n k ++ more))
unfolding Rises
blocks_rise n zero more few up = lower n 64 (map mark_at more) (omega arith) up
blocks_rise n (suc k) more few up =
    (omega arith, lower (n % 64 + 1) (n + 1) (map mark_at (blocks_from (n + 1) k ++ more)) (omega arith) (blocks_rise (n + 1) k more (omega arith) up))

-- a channel's paths, forth before back
paths_rise : (n : ℕ) (forth back : List SignalId) (hs : List Hop) → n < 64 → Rises (65 + (n + 1) * 2) (map mark_at (map Forwarder hs))
    → Rises (65 + n * 2) (map mark_at (map Forwarder ((delaying_path n false forth ++ delaying_path n true back) ++ hs)))
unfolding Rises
paths_rise n [] [] hs less up = lower (65 + n * 2) (65 + (n + 1) * 2) (map mark_at (map Forwarder hs)) (omega arith) up
paths_rise n (f ∷ fs) [] hs less up = (omega arith, lower (65 + n % 64 * 2 + 0 + 1) (65 + (n + 1) * 2) (map mark_at (map Forwarder hs)) (omega arith) up)
paths_rise n [] (b ∷ bs) hs less up = (omega arith, lower (65 + n % 64 * 2 + 1 + 1) (65 + (n + 1) * 2) (map mark_at (map Forwarder hs)) (omega arith) up)
paths_rise n (f ∷ fs) (b ∷ bs) hs less up =
    (omega arith, (omega arith, lower (65 + n % 64 * 2 + 1 + 1) (65 + (n + 1) * 2) (map mark_at (map Forwarder hs)) (omega arith) up))

lines_rise : (n : ℕ) (cs : List Channel) → n + length cs ≤ 64 → Rises (65 + n * 2) (map mark_at (map Forwarder (delaying_from n cs)))
unfolding Rises
lines_rise n [] few = tt
lines_rise n (c ∷ cs) few =
    let more : Rises (65 + (n + 1) * 2) (map mark_at (map Forwarder (delaying_from (n + 1) cs))) = lines_rise (n + 1) cs (omega arith) in
    cond_both c.nodelay [] (delaying_path n false c.forth.items ++ delaying_path n true c.back.items)
    (λ (hs : List Hop). Rises (65 + n * 2) (map mark_at (map Forwarder (hs ++ delaying_from (n + 1) cs))))
    (λ e. lower (65 + n * 2) (65 + (n + 1) * 2) (map mark_at (map Forwarder (delaying_from (n + 1) cs))) (omega arith) more)
    (λ e. paths_rise n c.forth.items c.back.items (delaying_from (n + 1) cs) (omega arith) more)

pub marks_once : (s : Structure) → IsStructure s → EachOnce (map mark_at (workers_in s))
unfolding Rises
marks_once s ok =
    let blocks = ok.few_blocks in
    let channels = ok.few_channels in
    rises_once 0 (map mark_at (workers_in s))
    (blocks_rise 0 (length s.blocks) (Environment ∷ map Forwarder (delaying_from 0 s.channels)) (omega arith) (omega arith, lines_rise 0 s.channels (omega arith)))
