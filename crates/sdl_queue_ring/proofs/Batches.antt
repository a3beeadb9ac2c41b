-- The items of batches, and of lists without their last items.
use Rattle.std.proofs.Common.{◌≡◌, ℕ, ◌+◌, ◌-◌, ◌<◌, ◌≤◌, min, take, List, [], ◌∷◌, ◌++◌, length, refl, sym, ap, ◌∙◌, arith, append_assoc, append-nil, length-append}
use Rattle.std.proofs.Math.Nat.{min-eq_left}
use Rattle.std.proofs.Math.Seq.{take-append_seam, take-nil}
use Rattle.sdl_signal.specs.declared.values.Item.{Item}
use Rattle.sdl_queue_ring.specs.declared.ring.Batch.{Batch}
use Rattle.sdl_queue_ring.specs.Batches.{items_of, without, IsCount}

pub items_of-append : (xs ys : List Batch) → items_of (xs ++ ys) ≡ items_of xs ++ items_of ys
unfolding items_of
items_of-append [] ys = refl
items_of-append (x ∷ xs) ys = ap (λ t. (x.first ∷ x.rest.items) ++ t) (items_of-append xs ys) ∙ sym (append_assoc (x.first ∷ x.rest.items) (items_of xs) (items_of ys))

-- the items of batches with one more
pub one_more : (xs : List Batch) (b : Batch) → items_of (xs ++ b ∷ []) ≡ items_of xs ++ b.first ∷ b.rest.items
unfolding items_of
one_more xs b = items_of-append xs (b ∷ []) ∙ ap (λ t. items_of xs ++ t) (append-nil (b.first ∷ b.rest.items))

pub without_rest : (xs ys : List Item) → without (xs ++ ys) ys ≡ xs
without_rest xs ys = ap (λ n. take n (xs ++ ys)) (omega (arith, length-append xs ys)) ∙ take-append_seam xs ys

-- of a list that ends so, what comes before
pub without_is : (all xs ys : List Item) → xs ++ ys ≡ all → without all ys ≡ xs
without_is all xs ys e = rw (← e) (without_rest xs ys)

-- of no batches there are no items
pub of_none : (xs : List Batch) → xs ≡ [] → items_of xs ≡ []
unfolding items_of
of_none xs e = ap items_of e

pub none_and : (xs : List Batch) (ys : List Item) → xs ≡ [] → ys ≡ [] → items_of xs ++ ys ≡ []
none_and xs ys e f = ap (λ t. t ++ ys) (of_none xs e) ∙ f

pub none_without : (xs : List Batch) (ys : List Item) → xs ≡ [] → without (items_of xs) ys ≡ []
none_without xs ys e = ap (λ t. without t ys) (of_none xs e) ∙ take-nil (0 - length ys)

-- a backlog that became a batch
pub flushed : (old mid new : List Batch) (b : Batch) (back left : List Item) → mid ≡ old → new ≡ mid ++ b ∷ [] → left ≡ [] → back ≡ b.first ∷ b.rest.items → items_of new ++ left ≡ items_of old ++ back
flushed old mid new b back left m n l e = rw (n, m, l, e) (append-nil (items_of (old ++ b ∷ [])) ∙ one_more old b)

-- an item that became a batch
pub placed : (old mid new : List Batch) (b : Batch) (back : List Item) → mid ≡ old → new ≡ mid ++ b ∷ [] → back ≡ [] → b.rest.items ≡ [] → items_of new ++ back ≡ (items_of old ++ back) ++ b.first ∷ []
placed old mid new b back m n l r = rw (n, m, l) (append-nil (items_of (old ++ b ∷ [])) ∙ one_more old b ∙ ap (λ t. items_of old ++ b.first ∷ t) r ∙ ap (λ t. t ++ b.first ∷ []) (sym (append-nil (items_of old))))

-- a list that ends so is what comes before, and this end
pub ends_so : (all xs ys : List Item) → xs ++ ys ≡ all → without all ys ++ ys ≡ all
ends_so all xs ys e = ap (λ t. t ++ ys) (without_is all xs ys e) ∙ e

-- the first of the last items, and those behind it
pub split : (all rest left : List Item) (x : Item) → without all rest ++ rest ≡ all → rest ≡ x ∷ left → (without all rest ++ x ∷ []) ++ left ≡ all
split all rest left x e s = append_assoc (without all rest) (x ∷ []) left ∙ ap (λ t. without all rest ++ t) (sym s) ∙ e

-- the same where there are no last items, but a batch comes behind
pub behind : (all new rest left : List Item) (x : Item) → without all rest ++ rest ≡ all → rest ≡ [] → new ≡ all ++ x ∷ left → (without all rest ++ x ∷ []) ++ left ≡ new
behind all new rest left x e n s =
    let whole : without all rest ≡ all = sym (append-nil (without all rest)) ∙ ap (λ t. without all rest ++ t) (sym n) ∙ e in
    append_assoc (without all rest) (x ∷ []) left ∙ ap (λ t. t ++ x ∷ left) whole ∙ sym s

-- one more was counted
pub counted : (count n m result : ℕ) → IsCount count n → m ≡ n + 1 → result ≡ min (count + 1) 18446744073709551615 → IsCount result m
counted count n m result is one r small =
    let same : count ≡ n = is (omega (arith, one, small)) in
    r ∙ min-eq_left (omega (arith, same, one, small)) ∙ omega (arith, same, one)

-- a list with one more at its end
pub longer : (xs new : List Item) (x : Item) → new ≡ xs ++ x ∷ [] → length new ≡ length xs + 1
longer xs new x e = ap length e ∙ length-append xs (x ∷ [])

-- what was put is what was taken, and what is left
pub delayed : (received known sent : List Batch) (rest back : List Item) → received ++ known ≡ sent → without (items_of received) rest ++ rest ≡ items_of received → items_of sent ++ back ≡ without (items_of received) rest ++ (rest ++ items_of known ++ back)
delayed received known sent rest back fifo ends =
    let taken = without (items_of received) rest in
    ap (λ b. items_of b ++ back) (sym fifo)
    ∙ ap (λ t. t ++ back) (items_of-append received known)
    ∙ ap (λ t. (t ++ items_of known) ++ back) (sym ends)
    ∙ ap (λ t. t ++ back) (append_assoc taken rest (items_of known))
    ∙ append_assoc taken (rest ++ items_of known) back

-- the counts of what was put and taken, of which the second is exact, too
pub both_counted : (put taken left : List Item) (n k : ℕ) → put ≡ taken ++ left → n ≡ length put → n < 18446744073709551616 → IsCount k (length taken) → (k ≤ n) × (n - k ≡ length left)
both_counted put taken left n k e is small count =
    let l : length put ≡ length taken + length left = ap length e ∙ length-append taken left in
    let same : k ≡ length taken = count (omega (arith, is, small, l)) in
    (omega (arith, is, l, same), omega (arith, is, l, same))

-- a batch whose items were moved
pub moved : (items pushed done : List Item) (b : Batch) (known left : List Batch) → known ≡ b ∷ left → pushed ≡ items ++ b.first ∷ [] → done ≡ pushed ++ b.rest.items → done ++ items_of left ≡ items ++ items_of known
unfolding items_of
moved items pushed done b known left k p d =
    rw (k, d, p) (ap (λ t. t ++ items_of left) (append_assoc items (b.first ∷ []) b.rest.items) ∙ append_assoc items (b.first ∷ b.rest.items) (items_of left))

pub length_of : (b : Batch) (known left : List Batch) → known ≡ b ∷ left → length (items_of known) ≡ 1 + length b.rest.items + length (items_of left)
unfolding items_of
length_of b known left e =
    let l : length (items_of known) ≡ length (b.first ∷ b.rest.items) + length (items_of left) = ap (λ k. length (items_of k)) e ∙ length-append (b.first ∷ b.rest.items) (items_of left) in
    omega (arith, l)
