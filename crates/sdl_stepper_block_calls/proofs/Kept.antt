-- What holds of all items of a list holds of those that are kept of them.
use Rattle.std.proofs.Common.{Bool, true, false, if◌then◌else◌, List, [], ◌∷◌, ◌++◌}
use Rattle.std.specs.List.{All, AllByRecursion, items_where_true}
use Rattle.std.proofs.lemmas.List.Elements.{All-append, All-cons, All-nil}

pub all_kept : {X : Type 0} (P : X → Type 0) → (bs : List Bool) (xs : List X) → AllByRecursion P xs → AllByRecursion P (items_where_true bs xs)
all_kept P [] xs h = tt
all_kept P (b ∷ bs) [] h = tt
all_kept P (true ∷ bs) (x ∷ xs) h = (h.0, all_kept P bs xs h.1)
all_kept P (false ∷ bs) (x ∷ xs) h = all_kept P bs xs h.1

-- What holds of all items of a list and of one more holds of all, whether that one was added or not.
pub kept_either : {X : Type 0} (P : X → Type 0) → (b : Bool) (xs : List X) (x : X) → All P xs → P x → All P (if b then xs ++ x ∷ [] else xs)
kept_either P true xs x h p = All-append P xs (x ∷ []) h (All-cons P x [] p (All-nil P))
kept_either P false xs x h p = h
