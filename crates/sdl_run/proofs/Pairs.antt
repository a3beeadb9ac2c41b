-- Ends given out, place by place.
use Rattle.std.proofs.Common.{ℕ, ◌+◌, List, [], ◌∷◌, ◌++◌, length, map, ◌≡◌, refl, ap, sym, ◌∙◌, arith, append_assoc}
use Rattle.std.proofs.lemmas.List.{append-nil, length-append}
use Rattle.sdl_forward_ends.specs.Ends.{WorkerEnds}
use Rattle.sdl_run_serial.proofs.Begins.{one_over, none_left, nothing}
use Rattle.sdl_forward.specs.Forwards.{Forwarding}
use Rattle.sdl_block.specs.declared.worker.BlockWorker.{BlockWorker}
use Rattle.sdl_run_threads.specs.declared.workers.BlockThread.{BlockThread}
use Rattle.sdl_run_threads.specs.declared.workers.ForwarderThread.{ForwarderThread}
use Rattle.sdl_run_threads.specs.declared.kinds.Kind.{Kind}
use Rattle.sdl_run_threads.specs.declared.kinds.Kind.TheVariants.{Block, Forwarder}
use Rattle.sdl_run.specs.Sharing.{paired, block_thread, forwarder_thread, Gives, GivesOut}

paired_push : {X W : Type 0} (f : X → WorkerEnds → W) (xs : List X) (es : List WorkerEnds) (x : X) (e : WorkerEnds) → length es ≡ length xs → paired f (xs ++ x ∷ []) (es ++ e ∷ []) ≡ paired f xs es ++ f x e ∷ []
paired_push f [] [] x e h = refl
paired_push f [] (d ∷ es) x e h = absurd (omega (arith, h))
paired_push f (y ∷ xs) [] x e h = absurd (omega (arith, h))
paired_push f (y ∷ xs) (d ∷ es) x e h = ap (λ ws. f y d ∷ ws) (paired_push f xs es x e (omega (arith, h)))

pub paired_map : {X V W : Type 0} (h : V → W) (f : X → WorkerEnds → V) (xs : List X) (es : List WorkerEnds) → paired (λ x e. h (f x e)) xs es ≡ map h (paired f xs es)
paired_map h f [] es = refl
paired_map h f (x ∷ xs) [] = refl
paired_map h f (x ∷ xs) (e ∷ es) = ap (λ ws. h (f x e) ∷ ws) (paired_map h f xs es)

-- some were given their ends so far
pub record GivesSoFar {X W : Type 0} (f : X → WorkerEnds → W) (xs rest : List X) (before now : List WorkerEnds) (old new : List W) : Type 0 where
  pub done : List X
  pub own : List WorkerEnds
  pub all : done ++ rest ≡ xs
  pub cut : before ≡ own ++ now
  pub count : length own ≡ length done
  pub added : new ≡ old ++ paired f done own

pub gives_none : {X W : Type 0} (f : X → WorkerEnds → W) (xs rest : List X) (before : List WorkerEnds) (old : List W) → rest ≡ xs → GivesSoFar f xs rest before before old old
gives_none f xs rest before old e = record { done = []; own = []; all = e; cut = refl; count = refl; added = sym (append-nil old) }

pub gives_one : {X W : Type 0} (f : X → WorkerEnds → W) (xs rest fewer : List X) (before now later : List WorkerEnds) (old new newer : List W) (x : X) (e : WorkerEnds)
    → rest ≡ x ∷ fewer → now ≡ e ∷ later → newer ≡ new ++ f x e ∷ [] → GivesSoFar f xs rest before now old new → GivesSoFar f xs fewer before later old newer
gives_one f xs rest fewer before now later old new newer x e a b c s =
    record {
      done = s.done ++ x ∷ [];
      own = s.own ++ e ∷ [];
      all = one_over s.done (s.done ++ x ∷ []) xs x rest fewer a refl s.all;
      cut = s.cut ∙ sym (one_over s.own (s.own ++ e ∷ []) (s.own ++ now) e now later b refl refl);
      count = (let p = length-append s.own (e ∷ []) in let q = length-append s.done (x ∷ []) in let r = s.count in omega (arith, p, q, r));
      added = (
          let p = s.added in
          let q = append_assoc old (paired f s.done s.own) (f x e ∷ []) in
          let r = paired_push f s.done s.own x e s.count in
          c ∙ (ap (λ zs. zs ++ f x e ∷ []) p ∙ (q ∙ ap (λ zs. old ++ zs) (sym r))));
    }

pub gives_all : {X W : Type 0} (f : X → WorkerEnds → W) (xs rest : List X) (before now : List WorkerEnds) (old new : List W) → length rest ≡ 0 → GivesSoFar f xs rest before now old new → Gives f xs before now old new
gives_all {X = X} f xs rest before now old new none s =
    let e = none_left s.done xs rest none s.all in
    record {
      own = s.own;
      cut = s.cut;
      count = s.count ∙ ap length e;
      added = s.added ∙ ap (λ (zs : List X). old ++ paired f zs s.own) e;
    }

-- the blocks are given the first ends, the environment the next, and the forwarders all others
pub gives_out : {S K I : Type 0} {F : I → Type 0} {g : _} (budget : ℕ) (blocks : List (BlockWorker S K I F g)) (forwarders : List Forwarding) (all mid later after : List WorkerEnds) (own : WorkerEnds)
    (none some full : List (Kind (BlockThread S K I F g) ForwarderThread)) → Gives (λ x e. Block (block_thread budget x e)) blocks all mid none some → mid ≡ own ∷ later
    → Gives (λ x e. Forwarder (forwarder_thread x e)) forwarders later after some full → none ≡ [] → length all ≡ length blocks + (length forwarders + 1) → GivesOut budget blocks forwarders all full own
gives_out budget blocks forwarders all mid later after own none some full b cut f empty count =
    let a = ap length b.cut ∙ length-append b.own mid in
    let d = ap length cut in
    let e = ap length f.cut ∙ length-append f.own after in
    let h = b.count in
    let i = f.count in
    let rest : after ≡ [] = nothing after (omega (arith, a, d, e, h, i, count)) in
    let lines : later ≡ f.own = f.cut ∙ (ap (λ zs. f.own ++ zs) rest ∙ append-nil f.own) in
    record {
      of_blocks = b.own;
      of_forwarders = f.own;
      cut = b.cut ∙ ap (λ zs. b.own ++ zs) (cut ∙ ap (λ zs. own ∷ zs) lines);
      block_count = b.count;
      forwarder_count = f.count;
      workers_are = f.added
          ∙ (ap (λ ws. ws ++ paired (λ x e. Forwarder (forwarder_thread x e)) forwarders f.own) (b.added ∙ ap (λ ws. ws ++ paired (λ x e. Block (block_thread budget x e)) blocks b.own) empty)
          ∙ (ap (λ ws. ws ++ paired (λ x e. Forwarder (forwarder_thread x e)) forwarders f.own) (paired_map Block (block_thread budget) blocks b.own)
          ∙ ap (λ ws. map Block (paired (block_thread budget) blocks b.own) ++ ws) (paired_map Forwarder forwarder_thread forwarders f.own)));
    }

-- how many are left once these were given
pub left_after : {X W : Type 0} (f : X → WorkerEnds → W) (xs : List X) (before after : List WorkerEnds) (old new : List W) → Gives f xs before after old new → length before ≡ length xs + length after
left_after f xs before after old new g =
    let cut = ap length g.cut ∙ length-append g.own after in
    let count = g.count in
    omega (arith, cut, count)
