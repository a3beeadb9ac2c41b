-- What a limited reader gives is the front of what the reader has.
use Rattle.std.proofs.Common.{ℕ, List, [], ◌++◌, take, Option, None, Some, IfSome, option_map, ◌≡◌, subst}
use Rattle.std.specs.declared.io.traits.Take.{Take}
use Rattle.std.specs.Io.Take.{take_remaining}

front_known : (known : Option (List ℕ)) (n : ℕ) (items : List ℕ) → IfSome (option_map (take n) known) (λ xs. items ≡ xs) → IfSome known (λ xs. items ≡ take n xs)
front_known None n items h = h
front_known (Some xs) n items h = h

pub front_read : {R : Type 0} (remaining : R → Option (List ℕ)) (reader : R) (t : Take R) (n : ℕ) (old items : List ℕ)
    → t.limit ≡ n → t.inner ≡ reader → old ≡ [] → IfSome (take_remaining remaining t) (λ xs. items ≡ old ++ xs) → IfSome (remaining reader) (λ xs. items ≡ take n xs)
front_read remaining reader t n old items limit inner empty h =
    subst (λ r. IfSome (remaining r) (λ xs. items ≡ take n xs)) inner
    (subst (λ (m : ℕ). IfSome (remaining t.inner) (λ xs. items ≡ take m xs)) limit
    (front_known (remaining t.inner) t.limit items
    (subst (λ (before : List ℕ). IfSome (take_remaining remaining t) (λ xs. items ≡ before ++ xs)) empty h)))
