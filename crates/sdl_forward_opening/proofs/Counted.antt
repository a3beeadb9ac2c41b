-- The workers of a structure, counted.
use Rattle.std.proofs.Common.{◌≡◌, ℕ, zero, suc, ◌+◌, ◌*◌, ◌≤◌, Bool, true, false, cond, List, [], ◌∷◌, ◌++◌, length, map, refl, ap, ◌∙◌, arith, add-one}
use Rattle.std.proofs.lemmas.Bool.{cond_both}
use Rattle.std.proofs.lemmas.List.{append_assoc, length-append, length-map}
use Rattle.sdl_signal.specs.declared.ids.BlockId.{BlockId}
use Rattle.sdl_signal.specs.declared.ids.SignalId.{SignalId}
use Rattle.sdl_structure_parts.specs.declared.parts.Channel.{Channel}
use Rattle.sdl_structure_parts.specs.Structure.{Structure, IsStructure}
use Rattle.sdl_routes.specs.declared.route.Hop.{Hop}
use Rattle.sdl_forward_opening.specs.declared.worker.Worker.{Worker}
use Rattle.sdl_forward_opening.specs.declared.worker.Worker.TheVariants.{Block, Environment, Forwarder}
use Rattle.sdl_forward_opening.specs.Workers.{blocks_from, delaying_path, delaying_from, workers_in}

unfoldable block : ℕ → BlockId
block n = record { 0 = n }

blocks_last : (n k : ℕ) → blocks_from n (suc k) ≡ blocks_from n k ++ Block (block (n + k)) ∷ []
unfolding block
blocks_last n zero = ap (λ (m : ℕ). Block (block m) ∷ []) (omega arith)
blocks_last n (suc k) =
    ap (λ (ws : List Worker). Block (block n) ∷ ws) (blocks_last (n + 1) k ∙ ap (λ (m : ℕ). blocks_from (n + 1) k ++ Block (block m) ∷ []) (omega arith))

pub blocks_more : (k : ℕ) → blocks_from 0 (k + 1) ≡ blocks_from 0 k ++ Block (record { 0 = k }) ∷ []
unfolding block
blocks_more k =
    ap (blocks_from 0) (add-one k) ∙ (blocks_last 0 k ∙ ap (λ (m : ℕ). blocks_from 0 k ++ Block (block m) ∷ []) (omega arith))

pub count_blocks : (n k : ℕ) → length (blocks_from n k) ≡ k
count_blocks n zero = refl
count_blocks n (suc k) = ap suc (count_blocks (n + 1) k)

-- there are at most two lines a channel
path_few : (n : ℕ) (back : Bool) (xs : List SignalId) → length (delaying_path n back xs) ≤ 1
path_few n back [] = omega arith
path_few n back (x ∷ xs) = omega arith

lines_few : (n : ℕ) (cs : List Channel) → length (delaying_from n cs) ≤ 2 * length cs
lines_few n [] = omega arith
lines_few n (c ∷ cs) =
    let here : length (cond c.nodelay [] (delaying_path n false c.forth.items ++ delaying_path n true c.back.items)) ≤ 2 =
    cond_both c.nodelay [] (delaying_path n false c.forth.items ++ delaying_path n true c.back.items) (λ (hs : List Hop). length hs ≤ 2) (λ e. omega arith)
    (λ e. let a = length-append (delaying_path n false c.forth.items) (delaying_path n true c.back.items) in let b = path_few n false c.forth.items in let d = path_few n true c.back.items in omega arith) in
    let all = length-append (cond c.nodelay [] (delaying_path n false c.forth.items ++ delaying_path n true c.back.items)) (delaying_from (n + 1) cs) in
    let more = lines_few (n + 1) cs in
    omega arith

pub workers_few : (s : Structure) (workers : List Worker) → IsStructure s → workers ≡ workers_in s → length workers ≤ 193
workers_few s workers ok is =
    let a = length-append (blocks_from 0 (length s.blocks)) (Environment ∷ map Forwarder (delaying_from 0 s.channels)) in
    let b = count_blocks 0 (length s.blocks) in
    let c = length-map (delaying_from 0 s.channels) Forwarder in
    let d = lines_few 0 s.channels in
    let e = ok.few_blocks in
    let f = ok.few_channels in
    let g = ap length is in
    omega arith

-- they are put together from the blocks, the environment and the forwarders
pub workers_are : (s : Structure) (n : ℕ) (cs : List Channel) (blocks more all : List Worker) → n ≡ length s.blocks → cs ≡ s.channels → blocks ≡ blocks_from 0 n → more ≡ blocks ++ Environment ∷ []
    → all ≡ more ++ map Forwarder (delaying_from 0 cs) → all ≡ workers_in s
workers_are s n cs blocks more all count same is then behind =
    let lines = map Forwarder (delaying_from 0 s.channels) in
    behind ∙ (ap (λ (ys : List Channel). more ++ map Forwarder (delaying_from 0 ys)) same
    ∙ (ap (λ (ws : List Worker). ws ++ lines) (then ∙ ap (λ (ws : List Worker). ws ++ Environment ∷ []) (is ∙ ap (blocks_from 0) count))
    ∙ append_assoc (blocks_from 0 (length s.blocks)) (Environment ∷ []) lines))
