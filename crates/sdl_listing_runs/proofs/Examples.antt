-- What it is to follow a listing, tried on listings of one set.
use Rattle.std.proofs.Common.{◌≡◌, ◌∙◌, refl, sym, ap, ℕ, suc, ◌+◌, ◌==◌, cond, List, [], ◌∷◌, length, map, Some}
use Rattle.std.proofs.lemmas.List.{length-map}
use Rattle.sdl_structure_parts.specs.Structure.{Structure}
use Rattle.sdl_transition.specs.Rules.{RowRule, Rules}
use Rattle.sdl_transition.specs.Blocks.{block_number}
use Rattle.sdl_listing_body.specs.declared.syntax.Row.{Row}
use Rattle.sdl_listing_body.specs.declared.listing.ListedSet.{ListedSet}
use Rattle.sdl_listing_binding.specs.Parts.{RowParts, listed_row, listed_rows}
use Rattle.sdl_listing_runs.specs.Rules.{row_rule_parts, AreRulesOf, AreListedRules, AreBlocksRules, FollowListing}

-- the rules of the only set, in the only block
pub one_set : (s : Structure) (l : ListedSet) (r : Rules) → length s.blocks ≡ 1 → block_number s l.set ≡ 0 → AreRulesOf 0 l r → FollowListing s (l ∷ []) ((r ∷ []) ∷ [])
one_set s l r one lies are =
    let here : block_number s r.set ≡ 0 = ap (block_number s) are.set ∙ lies in
    record {
      all = r ∷ [];
      listed = (are, tt);
      blocks_are = sym one;
      each = (sym (ap (λ (n : ℕ). cond (n == 0) (r ∷ []) []) here), tt);
    }

left_out : (s : Structure) (l : ListedSet) (all : List Rules) → block_number s l.set ≡ 0 → AreListedRules 0 (l ∷ []) all → AreBlocksRules s all 0 ([] ∷ []) → ⊥
left_out s l [] lies listed each = listed
left_out s l (r ∷ []) lies listed each =
    let here : block_number s r.set ≡ 0 = ap (block_number s) listed.0.set ∙ lies in
    let none : [] ≡ r ∷ [] = each.0 ∙ ap (λ (n : ℕ). cond (n == 0) (r ∷ []) []) here in
    cc
left_out s l (r ∷ q ∷ rs) lies listed each = listed.1

-- they can't be left out
pub not_left_out : (s : Structure) (l : ListedSet) → block_number s l.set ≡ 0 → FollowListing s (l ∷ []) ([] ∷ []) → ⊥
not_left_out s l lies f = left_out s l f.all lies f.listed f.each

as_many : (n : ℕ) (rows : List Row) → length (listed_rows n rows) ≡ length rows
as_many n [] = refl
as_many n (row ∷ rows) = ap suc (as_many (n + 1) rows)

-- nor can a row
pub each_row : (n : ℕ) (l : ListedSet) (r : Rules) → AreRulesOf n l r → length r.rows ≡ length l.rows.items
each_row n l r are = sym (length-map r.rows row_rule_parts) ∙ (ap length are.rows ∙ as_many (n + 1) l.rows.items)

-- and a row has its own state
pub in_its_state : (n : ℕ) (rule : RowRule) (rules : List RowRule) (row : Row) (rows : List Row) → map row_rule_parts (rule ∷ rules) ≡ listed_rows n (row ∷ rows) → Some rule.state ≡ row.state
in_its_state n rule rules row rows same =
    let one : row_rule_parts rule ≡ listed_row n row = cc in
    ap (λ (p : RowParts). p.state) one
