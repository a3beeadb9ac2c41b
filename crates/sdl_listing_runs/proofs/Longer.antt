-- One more of a list that is looked at by its parts.
use Rattle.std.proofs.Common.{◌≡◌, ◌+◌, List, [], ◌∷◌, ◌++◌, length, map, ap, arith}
use Rattle.std.proofs.lemmas.List.{length-append, length-map}

-- where its parts are those before and one more, it has one more
pub one_longer : {A B : Type 0} (f : A → B) (new old : List A) (b : B) → map f new ≡ map f old ++ b ∷ [] → length new ≡ length old + 1
one_longer f new old b are =
    let both : length (map f new) ≡ length (map f old ++ b ∷ []) = ap length are in
    let sum : length (map f old ++ b ∷ []) ≡ length (map f old) + 1 = length-append (map f old) (b ∷ []) in
    let as_new : length (map f new) ≡ length new = length-map new f in
    let as_old : length (map f old) ≡ length old = length-map old f in
    omega (arith, both, sum, as_new, as_old)
