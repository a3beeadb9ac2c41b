-- The workers that come back, parted by their kinds.
use Rattle.std.proofs.Common.{◌+◌, List, [], ◌∷◌, ◌++◌, length, map, ◌≡◌, refl, ap, sym, ◌∙◌, append_assoc}
use Rattle.std.proofs.lemmas.List.{append-nil, length-append}
use Rattle.sdl_forward_ends.specs.Ends.{WorkerEnds}
use Rattle.sdl_run_threads.specs.declared.workers.BlockThread.{BlockThread}
use Rattle.sdl_run_threads.specs.declared.workers.ForwarderThread.{ForwarderThread}
use Rattle.sdl_run_threads.specs.declared.work.Returned.{Returned}
use Rattle.sdl_run_threads.specs.declared.kinds.Kind.{Kind}
use Rattle.sdl_run_threads.specs.declared.kinds.Kind.TheVariants.{Block, Forwarder}
use Rattle.sdl_run_threads.specs.Back.{worker_in}
use Rattle.sdl_run_settling.specs.Coming.{block_if, forwarder_if, blocks_back, forwarders_back, ends_back}
use Rattle.sdl_run_serial.proofs.Begins.{nothing}

block_first : {B F : Type 0} (k : Kind B F) (bs : List B) → block_if k bs ≡ block_if k [] ++ bs
block_first (Block b) bs = refl
block_first (Forwarder f) bs = refl

forwarder_first : {B F : Type 0} (k : Kind B F) (fs : List F) → forwarder_if k fs ≡ forwarder_if k [] ++ fs
forwarder_first (Block b) fs = refl
forwarder_first (Forwarder f) fs = refl

module _ {B F : Type 0} (rest fewer : List (Returned (Kind B F))) (r : Returned (Kind B F)) (w : Kind B F) (cut : rest ≡ r ∷ fewer) (is : w ≡ worker_in r) where
  pub block_cut : blocks_back rest ≡ block_if w [] ++ blocks_back fewer
  block_cut = ap blocks_back cut ∙ (ap (λ (k : Kind B F). block_if k (blocks_back fewer)) (sym is) ∙ block_first w (blocks_back fewer))

  pub forwarder_cut : forwarders_back rest ≡ forwarder_if w [] ++ forwarders_back fewer
  forwarder_cut = ap forwarders_back cut ∙ (ap (λ (k : Kind B F). forwarder_if k (forwarders_back fewer)) (sym is) ∙ forwarder_first w (forwarders_back fewer))

-- some of a list have gone over
pub gone_over : {X : Type 0} (done later all more rest fewer : List X) → rest ≡ more ++ fewer → later ≡ done ++ more → done ++ rest ≡ all → later ++ fewer ≡ all
gone_over done later all more rest fewer e h before =
    ap (λ zs. zs ++ fewer) h ∙ (append_assoc done more fewer ∙ (ap (λ zs. done ++ zs) (sym e) ∙ before))

pub none_over : {X : Type 0} (done all rest : List X) → rest ≡ [] → done ++ rest ≡ all → done ≡ all
none_over done all rest e before = sym (append-nil done) ∙ (ap (λ zs. done ++ zs) (sym e) ∙ before)

pub count_over : {X : Type 0} (more rest fewer : List X) → rest ≡ more ++ fewer → length rest ≡ length more + length fewer
count_over more rest fewer e = ap length e ∙ length-append more fewer

pub no_blocks : {B F : Type 0} (rest : List (Returned (Kind B F))) → length rest ≡ 0 → blocks_back rest ≡ []
no_blocks rest e = ap blocks_back (nothing rest e)

pub no_forwarders : {B F : Type 0} (rest : List (Returned (Kind B F))) → length rest ≡ 0 → forwarders_back rest ≡ []
no_forwarders rest e = ap forwarders_back (nothing rest e)

-- one of a kind
pub one_block : {B F : Type 0} (k : Kind B F) (b : B) → k ≡ Block b → length (block_if k []) ≡ 1
one_block {B = B} {F = F} k b e = ap (λ (v : Kind B F). length (block_if v [])) e

pub one_forwarder : {B F : Type 0} (k : Kind B F) (f : F) → k ≡ Forwarder f → length (forwarder_if k []) ≡ 1
one_forwarder {B = B} {F = F} k f e = ap (λ (v : Kind B F). length (forwarder_if v [])) e

-- what comes into an empty list
added : {X : Type 0} (none more all : List X) → none ≡ [] → all ≡ none ++ more → all ≡ more
added none more all e h = h ∙ ap (λ xs. xs ++ more) e

pub only_added : {X : Type 0} (none more all : List X) → none ≡ [] → all ≡ none ++ more → length all ≡ length more
only_added none more all e h = ap length (added none more all e h)

-- the ends of the blocks, then the environment's own, then those of the forwarders
pub all_ends : {S K I : Type 0} {F : I → Type 0} {g : _} (own : WorkerEnds) (done : List (Returned (Kind (BlockThread S K I F g) ForwarderThread))) (b0 b1 : List (BlockThread S K I F g)) (f0 f1 : List ForwarderThread) (e0 e1 e2 e3 : List WorkerEnds)
    → b0 ≡ [] → f0 ≡ [] → e0 ≡ [] → b1 ≡ b0 ++ blocks_back done → f1 ≡ f0 ++ forwarders_back done → e1 ≡ e0 ++ map (λ t. t.ends) b1 → e2 ≡ e1 ++ own ∷ [] → e3 ≡ e2 ++ map (λ t. t.ends) f1 → e3 ≡ ends_back own done
all_ends {S = S} {K = K} {I = I} {F = F} {g = g} own done b0 b1 f0 f1 e0 e1 e2 e3 nb nf ne hb hf h1 h2 h3 =
    let bs : List WorkerEnds = map (λ (t : BlockThread S K I F g). t.ends) (blocks_back done) in
    let fs : List WorkerEnds = map (λ (t : ForwarderThread). t.ends) (forwarders_back done) in
    let first : e1 ≡ bs = h1 ∙ (ap (λ xs. xs ++ map (λ (t : BlockThread S K I F g). t.ends) b1) ne ∙ ap (map (λ (t : BlockThread S K I F g). t.ends)) (added b0 (blocks_back done) b1 nb hb)) in
    let second : e2 ≡ bs ++ own ∷ [] = h2 ∙ ap (λ xs. xs ++ own ∷ []) first in
    h3 ∙ (ap (λ xs. xs ++ map (λ (t : ForwarderThread). t.ends) f1) second
    ∙ (ap (λ ts. (bs ++ own ∷ []) ++ map (λ (t : ForwarderThread). t.ends) ts) (added f0 (forwarders_back done) f1 nf hf)
    ∙ append_assoc bs (own ∷ []) fs))
