-- Lists of items by routes, as they gain items.
use Rattle.std.proofs.Common.{◌≡◌, ◌≢◌, ℕ, zero, suc, ◌+◌, ◌<◌, Bool, true, false, eqb, List, [], ◌∷◌, ◌++◌, map, length, take, set, get_or, refl, ap, sym, ◌∙◌, subst, arith, append_assoc, length-take}
use Rattle.std.proofs.lemmas.List.{append-nil, take_more, map-append, length-map, map-set, get_or-map}
use Rattle.std.proofs.lemmas.List.Elements.{filter-append}
use Rattle.std.proofs.lemmas.Bool.{eqb-true, eq-eqb, false≢true, cond_both}
use Rattle.sdl_signal.specs.declared.values.Item.{Item}
use Rattle.sdl_routes.specs.declared.route.Station.{Station}
use Rattle.sdl_forward_opening.specs.declared.worker.Worker.{Worker}
use Rattle.sdl_queue.specs.declared.rest.Rest.{Rest}
use Rattle.sdl_queue.specs.Rest.{left_in}
use Rattle.sdl_forward.specs.Boards.{lists_of}
use Rattle.sdl_run_outcome.specs.Books.{of_route}
use Rattle.sdl_run_recount.specs.Sorted.{items_at, Gains}
use Rattle.sdl_run_recount.specs.Along.{given, gathered, laid}

-- lists with one changed
pub set_length : (xss : List (List Item)) (n : ℕ) (ys : List Item) → length (set xss n ys) ≡ length xss
set_length [] n ys = refl
set_length (xs ∷ xss) zero ys = refl
set_length (xs ∷ xss) (suc n) ys = ap suc (set_length xss n ys)

pub set_here : (xss : List (List Item)) (n : ℕ) (ys : List Item) → n < length xss → items_at (set xss n ys) n ≡ ys
set_here [] n ys h = absurd (omega arith)
set_here (xs ∷ xss) zero ys h = refl
set_here (xs ∷ xss) (suc n) ys h = set_here xss n ys (omega arith)

pub set_elsewhere : (xss : List (List Item)) (n r : ℕ) (ys : List Item) → r ≢ n → items_at (set xss n ys) r ≡ items_at xss r
set_elsewhere [] n r ys h = refl
set_elsewhere (xs ∷ xss) zero zero ys h = absurd (h refl)
set_elsewhere (xs ∷ xss) zero (suc r) ys h = refl
set_elsewhere (xs ∷ xss) (suc n) zero ys h = refl
set_elsewhere (xs ∷ xss) (suc n) (suc r) ys h = set_elsewhere xss n r ys (λ e. h (ap suc e))

pub at_read : (xss : List (List Item)) (r : ℕ) → items_at xss r ≡ get_or xss r []
at_read [] r = refl
at_read (xs ∷ xss) zero = refl
at_read (xs ∷ xss) (suc r) = at_read xss r

-- a route gains the item
pub gain_one : (xss : List (List Item)) (i : Item) → i.route.0 < length xss → Gains (λ r. i ∷ []) xss (set xss i.route.0 (items_at xss i.route.0 ++ i ∷ []))
gain_one xss i h =
    let n = i.route.0 in
    let ys = items_at xss n ++ i ∷ [] in
    record {
      routes = set_length xss n ys;
      each = λ r less.
          cond_both (eqb n r) (i ∷ []) [] (λ xs. items_at (set xss n ys) r ≡ items_at xss r ++ xs)
          (λ t. let e = eqb-true n r t in subst (λ (q : ℕ). items_at (set xss n ys) q ≡ items_at xss q ++ i ∷ []) e (set_here xss n ys h))
          (λ f. set_elsewhere xss n r ys (λ e. false≢true (sym f ∙ eq-eqb n r (sym e))) ∙ sym (append-nil (items_at xss r)));
    }

-- nothing is gained
pub gain_none : (xss : List (List Item)) (named : ℕ → List Item) → ((r : ℕ) → r < length xss → of_route r (named r) ≡ []) → Gains named xss xss
gain_none xss named h = record { routes = refl; each = λ r less. sym (append-nil (items_at xss r)) ∙ ap (λ (ys : List Item). items_at xss r ++ ys) (sym (h r less)) }

-- one gain after another
pub gain_then : {xss yss zss : List (List Item)} (f g h : ℕ → List Item) → Gains f xss yss → Gains g yss zss → ((r : ℕ) → h r ≡ f r ++ g r) → Gains h xss zss
gain_then {xss} {yss} {zss} f g h a b e =
    record {
      routes = b.routes ∙ a.routes;
      each = λ r less.
          let more : r < length yss = subst (λ (n : ℕ). r < n) (sym a.routes) less in
          let test = λ (i : Item). eqb i.route.0 r in
          b.each r more
          ∙ (ap (λ (xs : List Item). xs ++ of_route r (g r)) (a.each r less)
          ∙ (append_assoc (items_at xss r) (of_route r (f r)) (of_route r (g r))
          ∙ ap (λ (xs : List Item). items_at xss r ++ xs) (sym (filter-append test (f r) (g r)) ∙ ap (of_route r) (sym (e r)))));
    }

pub given_append : (b : Bool) (xs ys : List Item) → given b (xs ++ ys) ≡ given b xs ++ given b ys
given_append true xs ys = refl
given_append false xs ys = refl

pub given_none : (b : Bool) → given b [] ≡ []
given_none true = refl
given_none false = refl

gathered_none : (test : Worker → Bool) (ws : List Worker) → gathered test ws [] ≡ []
gathered_none test [] = refl
gathered_none test (w ∷ ws) = refl

gathered_end : (test : Worker → Bool) (ws : List Worker) (xss : List (List Item)) (xs : List Item) (v : Worker) → length xss < length ws
    → gathered test ws (xss ++ xs ∷ []) ≡ gathered test ws xss ++ given (test (get_or ws (length xss) v)) xs
gathered_end test [] xss xs v h = absurd (omega arith)
gathered_end test (w ∷ ws) [] xs v h = ap (λ (ys : List Item). given (test w) xs ++ ys) (gathered_none test ws) ∙ append-nil (given (test w) xs)
gathered_end test (w ∷ ws) (ys ∷ yss) xs v h =
    ap (λ (zs : List Item). given (test w) ys ++ zs) (gathered_end test ws yss xs v (omega arith))
    ∙ sym (append_assoc (given (test w) ys) (gathered test ws yss) (given (test (get_or ws (length yss) v)) xs))

-- one list after another of those beside the workers
pub gathered_more : {X : Type 0} (test : Worker → Bool) (f : X → List Item) (ws : List Worker) (xs : List X) (n : ℕ) (v : Worker) (d : X) → n < length ws → n < length xs
    → gathered test ws (map f (take (n + 1) xs)) ≡ gathered test ws (map f (take n xs)) ++ given (test (get_or ws n v)) (f (get_or xs n d))
gathered_more {X} test f ws xs n v d h k =
    let here : length (map f (take n xs)) ≡ n = length-map (take n xs) f ∙ (length-take n xs ∙ omega arith) in
    ap (λ (ys : List X). gathered test ws (map f ys)) (take_more xs n d k)
    ∙ (ap (gathered test ws) (map-append f (take n xs) (get_or xs n d ∷ []))
    ∙ (gathered_end test ws (map f (take n xs)) (f (get_or xs n d)) v (subst (λ (m : ℕ). m < length ws) (sym here) h)
    ∙ ap (λ (m : ℕ). gathered test ws (map f (take n xs)) ++ given (test (get_or ws m v)) (f (get_or xs n d))) here))

-- and of those at the stations
pub laid_append : (test : Station → Bool) (rs more : List (Station × List Item)) → laid test (rs ++ more) ≡ laid test rs ++ laid test more
laid_append test [] more = refl
laid_append test (r ∷ rs) more = ap (λ (ys : List Item). given (test r.0) r.1 ++ ys) (laid_append test rs more) ∙ sym (append_assoc (given (test r.0) r.1) (laid test rs) (laid test more))

-- a list is replaced by one with the item more
pub put_at : {V : Type 0} (f : V → List Item) (vs : List V) (i : Item) (v w : V) → i.route.0 < length (map f vs) → v ≡ get_or vs i.route.0 v → f w ≡ f v ++ i ∷ []
    → Gains (λ r. i ∷ []) (map f vs) (map f (set vs i.route.0 w))
put_at f vs i v w h e g =
    let n = i.route.0 in
    let here : items_at (map f vs) n ≡ f v = at_read (map f vs) n ∙ (get_or-map f vs n v [] (subst (λ m. n < m) (length-map vs f) h) ∙ ap f (sym e)) in
    subst (λ (yss : List (List Item)). Gains (λ r. i ∷ []) (map f vs) yss)
    (ap (λ (xs : List Item). set (map f vs) n (xs ++ i ∷ [])) here ∙ (ap (set (map f vs) n) (sym g) ∙ sym (map-set f vs n w)))
    (gain_one (map f vs) i h)

-- empty lists
pub none_more : (xss : List (List Item)) → ((r : ℕ) → items_at xss r ≡ []) → (r : ℕ) → items_at (xss ++ [] ∷ []) r ≡ []
none_more [] h zero = refl
none_more [] h (suc r) = refl
none_more (xs ∷ xss) h zero = h zero
none_more (xs ∷ xss) h (suc r) = none_more xss (λ q. h (suc q)) r

-- the list at a place, read there
pub read_at : {V : Type 0} (f : V → List Item) (vs : List V) (n : ℕ) (v : V) → n < length vs → v ≡ get_or vs n v → items_at (map f vs) n ≡ f v
read_at f vs n v h e = at_read (map f vs) n ∙ (get_or-map f vs n v [] h ∙ ap f (sym e))

-- nothing is gained of no list
pub gathered_nothing : (test : Worker → ℕ → Bool) (ws : List Worker) (xss : List (List Item)) → Gains (λ r. gathered (λ w. test w r) ws []) xss xss
gathered_nothing test ws xss = gain_none xss (λ r. gathered (λ w. test w r) ws []) (λ r less. ap (of_route r) (gathered_none (λ w. test w r) ws))

-- one list is gained after another
pub gathered_then : {X : Type 0} {xss yss zss : List (List Item)} (test : Worker → ℕ → Bool) (f : X → List Item) (ws : List Worker) (xs : List X) (n : ℕ) (v : Worker) (d : X) (ys : List Item) → n < length ws → n < length xs → ys ≡ f (get_or xs n d)
    → Gains (λ r. gathered (λ w. test w r) ws (map f (take n xs))) xss yss → Gains (λ r. given (test (get_or ws n v) r) ys) yss zss
    → Gains (λ r. gathered (λ w. test w r) ws (map f (take (n + 1) xs))) xss zss
gathered_then test f ws xs n v d ys h k e a b =
    gain_then (λ r. gathered (λ w. test w r) ws (map f (take n xs))) (λ r. given (test (get_or ws n v) r) ys) (λ r. gathered (λ w. test w r) ws (map f (take (n + 1) xs))) a b
    (λ r. gathered_more (λ w. test w r) f ws xs n v d h k ∙ ap (λ (zs : List Item). gathered (λ w. test w r) ws (map f (take n xs)) ++ given (test (get_or ws n v) r) zs) (sym e))

abbrev shown_rest : Station × Rest → Station × List Item
shown_rest r = (r.0, left_in r.1)

abbrev beside : Station → List Item → Station × List Item
beside s xs = (s, xs)

-- what is left at a station more
pub rests_then : {xss yss zss : List (List Item)} (test : Station → ℕ → Bool) (rests : List (Station × Rest)) (n : ℕ) (e : Station × Rest) (ys : List Item) → n < length rests → e ≡ get_or rests n e → left_in e.1 ≡ ys
    → Gains (λ r. laid (λ s. test s r) (lists_of (take n rests))) xss yss → Gains (λ r. given (test e.0 r) ys) yss zss → Gains (λ r. laid (λ s. test s r) (lists_of (take (n + 1) rests))) xss zss
rests_then test rests n e ys h is left a b =
    let before = lists_of (take n rests) in
    let more : lists_of (take (n + 1) rests) ≡ before ++ beside e.0 ys ∷ [] =
    ap (map shown_rest) (take_more rests n e h)
    ∙ (map-append shown_rest (take n rests) (get_or rests n e ∷ []) ∙ ap (λ (x : Station × List Item). before ++ x ∷ []) (ap shown_rest (sym is) ∙ ap (beside e.0) left)) in
    gain_then (λ r. laid (λ s. test s r) before) (λ r. given (test e.0 r) ys) (λ r. laid (λ s. test s r) (lists_of (take (n + 1) rests))) a b
    (λ r. ap (laid (λ s. test s r)) more ∙ (laid_append (λ s. test s r) before (beside e.0 ys ∷ []) ∙ ap (λ (xs : List Item). laid (λ s. test s r) before ++ xs) (append-nil (given (test e.0 r) ys))))

-- an item more of a queue
pub queue_more : {xss yss zss : List (List Item)} (test : ℕ → Bool) (xs : List Item) (i : Item) → Gains (λ r. given (test r) xs) xss yss → Gains (λ r. given (test r) (i ∷ [])) yss zss → Gains (λ r. given (test r) (xs ++ i ∷ [])) xss zss
queue_more test xs i a b = gain_then (λ r. given (test r) xs) (λ r. given (test r) (i ∷ [])) (λ r. given (test r) (xs ++ i ∷ [])) a b (λ r. given_append (test r) xs (i ∷ []))

pub queue_begins : (test : ℕ → Bool) (xss : List (List Item)) → Gains (λ r. given (test r) []) xss xss
queue_begins test xss = gain_none xss (λ r. given (test r) []) (λ r less. ap (of_route r) (given_none (test r)))

pub none_left : (xs : List Item) → length xs ≡ 0 → xs ≡ []
none_left [] e = refl
none_left (x ∷ xs) e = absurd (omega arith)
