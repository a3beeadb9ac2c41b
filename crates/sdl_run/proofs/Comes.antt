-- The workers of two kinds that come back, kind by kind.
use Rattle.std.proofs.Common.{List, [], ◌∷◌, ◌++◌, map, ◌≡◌, refl, sym, subst}
use Rattle.std.specs.List.{AllZip}
use Rattle.sdl_run_threads.specs.declared.work.Returned.{Returned}
use Rattle.sdl_run_threads.specs.declared.kinds.Kind.{Kind}
use Rattle.sdl_run_threads.specs.declared.kinds.Kind.TheVariants.{Block, Forwarder}
use Rattle.sdl_run_threads.specs.Back.{worker_in, ComesFrom}
use Rattle.sdl_run_threads.specs.Kinds.{KeepsOneOf, SameOneOf}
use Rattle.sdl_run_settling.specs.Coming.{block_if, forwarder_if, blocks_back, forwarders_back}

-- it keeps what its steps keep, and is the one that was given
abbrev pub CameBack : {X : Type 0} → (X → Type 0) → (X → X → Type 0) → X → X → Type 0
CameBack keeps same u v = keeps v × same u v

module _ {B F : Type 0} (keeps_block : B → Type 0) (same_block : B → B → Type 0) (keeps_forwarder : F → Type 0) (same_forwarder : F → F → Type 0) where
  abbrev pub Comes : Kind B F → Returned (Kind B F) → Type 0
  Comes = ComesFrom (KeepsOneOf keeps_block keeps_forwarder) (SameOneOf same_block same_forwarder)

  block_is : (u : B) (k : Kind B F) → KeepsOneOf keeps_block keeps_forwarder k → SameOneOf same_block same_forwarder (Block u) k → (b : B) × (k ≡ Block b) × CameBack keeps_block same_block u b
  block_is u (Block b) keeps same = (b, refl, (keeps, same))
  block_is u (Forwarder f) keeps same = absurd same

  forwarder_is : (u : F) (k : Kind B F) → KeepsOneOf keeps_block keeps_forwarder k → SameOneOf same_block same_forwarder (Forwarder u) k → (f : F) × (k ≡ Forwarder f) × CameBack keeps_forwarder same_forwarder u f
  forwarder_is u (Forwarder f) keeps same = (f, refl, (keeps, same))
  forwarder_is u (Block b) keeps same = absurd same

  forwarders_come : (us : List F) (done : List (Returned (Kind B F))) → AllZip Comes (map Forwarder us) done
      → AllZip (CameBack keeps_forwarder same_forwarder) us (forwarders_back done) × (blocks_back done ≡ [])
  forwarders_come [] [] all = (tt, refl)
  forwarders_come [] (r ∷ done) all = absurd all
  forwarders_come (u ∷ us) [] all = absurd all
  forwarders_come (u ∷ us) (r ∷ done) all =
      let (f, is, kept) = forwarder_is u (worker_in r) all.0.sound all.0.own in
      let (rest, none) = forwarders_come us done all.1 in (
        subst (λ (k : Kind B F). AllZip (CameBack keeps_forwarder same_forwarder) (u ∷ us) (forwarder_if k (forwarders_back done))) (sym is) (kept, rest),
        subst (λ (k : Kind B F). block_if k (blocks_back done) ≡ []) (sym is) none,
      )

  pub all_come : (us : List B) (vs : List F) (done : List (Returned (Kind B F))) → AllZip Comes (map Block us ++ map Forwarder vs) done
      → AllZip (CameBack keeps_block same_block) us (blocks_back done) × AllZip (CameBack keeps_forwarder same_forwarder) vs (forwarders_back done)
  all_come [] vs done all =
      let (come, none) = forwarders_come vs done all in
      (subst (λ (bs : List B). AllZip (CameBack keeps_block same_block) [] bs) (sym none) tt, come)
  all_come (u ∷ us) vs [] all = absurd all
  all_come (u ∷ us) vs (r ∷ done) all =
      let (b, is, kept) = block_is u (worker_in r) all.0.sound all.0.own in
      let (rest, come) = all_come us vs done all.1 in (
        subst (λ (k : Kind B F). AllZip (CameBack keeps_block same_block) (u ∷ us) (block_if k (blocks_back done))) (sym is) (kept, rest),
        subst (λ (k : Kind B F). AllZip (CameBack keeps_forwarder same_forwarder) vs (forwarder_if k (forwarders_back done))) (sym is) come,
      )
