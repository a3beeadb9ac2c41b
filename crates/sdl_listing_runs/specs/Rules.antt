-- The rules that a listing gives the blocks of a structure. (This project's own.)
use Rattle.std.specs.Prelude.{◌≡◌, ℕ, suc, ◌+◌, ◌==◌, List, [], ◌∷◌, length, filter, map, Some}
use Rattle.sdl_structure_parts.specs.Structure.{Structure}
use Rattle.sdl_transition.specs.Rules.{Rule, RowRule, Rules}
use Rattle.sdl_transition.specs.Blocks.{block_number}
use Rattle.sdl_listing_body.specs.declared.listing.ListedSet.{ListedSet}
use Rattle.sdl_listing_binding.specs.Parts.{TransitionParts, RowParts, listed_transition, listed_rows}

-- a rule, and that of a row, as a listing says them
abbrev pub rule_parts : Rule → TransitionParts
rule_parts r = record { number = r.number; offer = r.offer }

abbrev pub row_rule_parts : RowRule → RowParts
row_rule_parts r = record { state = Some r.state; signal = Some r.signal; transition = rule_parts r.rule }

-- The rules are those of the set, whose transitions have the numbers from this one on: the start's, and then the rows'.
pub record AreRulesOf (number : ℕ) (l : ListedSet) (r : Rules) : Type 0 where
  pub set : r.set ≡ l.set
  pub vars : r.vars ≡ l.vars.items
  pub start : rule_parts r.start ≡ listed_transition number l.start
  pub rows : map row_rule_parts r.rows ≡ listed_rows (number + 1) l.rows.items
  pub saves : r.saves ≡ l.saves.items

-- the rules of the sets, one by one
abbrev pub AreListedRules : ℕ → List ListedSet → List Rules → Type 0
AreListedRules number [] [] = Unit {0}
AreListedRules number (l ∷ ls) (r ∷ rs) = AreRulesOf number l r × AreListedRules (number + (1 + length l.rows.items)) ls rs
AreListedRules number _ _ = ⊥

-- of all rules, those of the sets that lie in the block
abbrev pub rules_in_block : Structure → List Rules → ℕ → List Rules
rules_in_block s all k = filter (λ r. block_number s r.set == k) all

-- the blocks from this number on have the rules of their sets
abbrev pub AreBlocksRules : Structure → List Rules → ℕ → List (List Rules) → Type 0
AreBlocksRules s all k [] = Unit {0}
AreBlocksRules s all k (rules ∷ more) = (rules ≡ rules_in_block s all k) × AreBlocksRules s all (suc k) more

-- The blocks of the structure have the rules that the listing says of their sets, all of them and no others.
pub record FollowListing (s : Structure) (listing : List ListedSet) (rules : List (List Rules)) : Type 0 where
  pub all : List Rules
  pub listed : AreListedRules 0 listing all
  pub blocks_are : length rules ≡ length s.blocks
  pub each : AreBlocksRules s all 0 rules
