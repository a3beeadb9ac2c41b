-- A system that was bound of a listing's behaviours follows the listing.
use Rattle.std.proofs.Common.{◌≡◌, refl, ◌∙◌, ap, ℕ, suc, ◌+◌, ◌<◌, Bool, true, false, cond, List, [], ◌∷◌, length, filter, map, slice_index_or, subst, arith}
use Rattle.std.proofs.lemmas.List.{length-map}
use Rattle.sdl_structure_parts.specs.Structure.{Structure}
use Rattle.sdl_transition_behaviour.specs.declared.behaviour.Row.{Row as StoredRow}
use Rattle.sdl_transition_behaviour.specs.declared.behaviour.Behaviour.{Behaviour}
use Rattle.sdl_listing_body.specs.declared.listing.ListedSet.{ListedSet}
use Rattle.sdl_transition.specs.declared.block_parts.BlockParts.{BlockParts}
use Rattle.sdl_transition.specs.declared.binding.Bound.{Bound}
use Rattle.sdl_transition.specs.Blocks.{is_of_block, EachAt, HasItsOwn}
use Rattle.sdl_transition.specs.Bound.{structure_of, blocks_of}
use Rattle.sdl_transition.specs.Rules.{Rules, row_rule, rules_of, block_rules}
use Rattle.sdl_listing_binding.specs.Parts.{HasParts, BehaviourParts, RowParts, row_parts, behaviour_parts, listed_set, listed_sets, listed}
use Rattle.sdl_listing_runs.specs.Rules.{row_rule_parts, rules_in_block, AreRulesOf, AreListedRules, AreBlocksRules, FollowListing}

cond_map : {A B : Type 0} (f : A → B) (t : Bool) (xs ys : List A) → map f (cond t xs ys) ≡ cond t (map f xs) (map f ys)
cond_map f true xs ys = refl
cond_map f false xs ys = refl

module _ {S I : Type 0} {F : I → Type 0} {g : _} where
  rows_by_rules : (rs : List (StoredRow S I F g)) → map row_rule_parts (map row_rule rs) ≡ map row_parts rs
  rows_by_rules [] = refl
  rows_by_rules (r ∷ rs) = ap (λ (l : List RowParts). row_parts r ∷ l) (rows_by_rules rs)

  one_set : (b : Behaviour S I F g) (n : ℕ) (l : ListedSet) → behaviour_parts b ≡ listed_set n l → AreRulesOf n l (rules_of b)
  one_set b n l e =
      record {
        set = ap (λ (p : BehaviourParts). p.head.set) e;
        vars = ap (λ (p : BehaviourParts). p.head.vars) e;
        start = ap (λ (p : BehaviourParts). p.start) e;
        rows = rows_by_rules b.rows.items ∙ ap (λ (p : BehaviourParts). p.rows) e;
        saves = ap (λ (p : BehaviourParts). p.head.saves) e;
      }

  all_sets : (bs : List (Behaviour S I F g)) (n : ℕ) (sets : List ListedSet) → map behaviour_parts bs ≡ listed_sets n sets → AreListedRules n sets (map rules_of bs)
  all_sets [] n [] e = tt
  all_sets [] n (l ∷ ls) e = absurd cc
  all_sets (b ∷ bs) n [] e = absurd cc
  all_sets (b ∷ bs) n (l ∷ ls) e =
      let one : behaviour_parts b ≡ listed_set n l = cc in
      let more : map behaviour_parts bs ≡ listed_sets (n + (1 + length l.rows.items)) ls = cc in
      (one_set b n l one, all_sets bs (n + (1 + length l.rows.items)) ls more)

  -- the same sets lie in a block, by their behaviours and by the rules of these
  filtered : (s : Structure) (k : ℕ) (bs : List (Behaviour S I F g)) → map rules_of (filter (is_of_block s k) bs) ≡ rules_in_block s (map rules_of bs) k
  filtered s k [] = refl
  filtered s k (b ∷ bs) =
      let rest = filter (is_of_block s k) bs in
      cond_map rules_of (is_of_block s k b) (b ∷ rest) rest ∙ ap (λ (l : List Rules). cond (is_of_block s k b) (rules_of b ∷ l) l) (filtered s k bs)

  -- the blocks from this number on have their own behaviours
  abbrev OwnFrom : Structure → List (Behaviour S I F g) → ℕ → List (BlockParts S I F g) → Type 0
  OwnFrom s bs k ps = (j : ℕ) (d : BlockParts S I F g) → j < length ps → HasItsOwn s bs (k + j) (slice_index_or ps j d)

  from_first : (s : Structure) (bs : List (Behaviour S I F g)) (ps : List (BlockParts S I F g)) → EachAt (HasItsOwn s bs) ps → OwnFrom s bs 0 ps
  from_first s bs ps h = λ j d less.
      let same : j ≡ 0 + j = omega arith in
      subst (λ (n : ℕ). HasItsOwn s bs n (slice_index_or ps j d)) same (h j d less)

  behind_first : (s : Structure) (bs : List (Behaviour S I F g)) (k : ℕ) (p : BlockParts S I F g) (ps : List (BlockParts S I F g)) → OwnFrom s bs k (p ∷ ps) → OwnFrom s bs (suc k) ps
  behind_first s bs k p ps h = λ j d less.
      let behind : suc j < length (p ∷ ps) = omega (arith, less) in
      let next : k + suc j ≡ suc k + j = omega arith in
      subst (λ (n : ℕ). HasItsOwn s bs n (slice_index_or ps j d)) next (h (suc j) d behind)

  each_block : (s : Structure) (bs : List (Behaviour S I F g)) (k : ℕ) (ps : List (BlockParts S I F g)) → OwnFrom s bs k ps → AreBlocksRules s (map rules_of bs) k (map block_rules ps)
  each_block s bs k [] h = tt
  each_block s bs k (p ∷ ps) h =
      let same : k + 0 ≡ k = omega arith in
      let own : HasItsOwn s bs k p = subst (λ (n : ℕ). HasItsOwn s bs n p) same (h 0 p (omega arith)) in
      let first : block_rules p ≡ rules_in_block s (map rules_of bs) k = ap (map rules_of) own.own ∙ filtered s k bs in
      (first, each_block s bs (suc k) ps (behind_first s bs k p ps h))

  -- its blocks have the rules that the listing says
  pub following : (bound : Bound S I F g) (sets : List ListedSet) → HasParts (listed sets) bound → FollowListing (structure_of bound) sets (map block_rules (blocks_of bound))
  following bound sets h =
      record {
        all = map rules_of h.behaviours;
        listed = all_sets h.behaviours 0 sets h.parts_are;
        blocks_are = length-map (blocks_of bound) block_rules ∙ h.distributed.blocks_are;
        each = each_block (structure_of bound) h.behaviours 0 (blocks_of bound) (from_first (structure_of bound) h.behaviours (blocks_of bound) h.distributed.each);
      }
