-- Walks with one hop more, and the places of the routes that begin with a walk.
use Rattle.std.proofs.Common.{◌≡◌, ◌≢◌, ℕ, zero, suc, ◌+◌, ◌*◌, ◌<◌, ◌≤◌, Bool, true, false, List, [], ◌∷◌, ◌++◌, map, length, Option, Some, None, option_map, slice_get, IsSomeAnd, IfSome, get_or, Contains, if◌then◌else◌, inl, refl, ap, sym, ◌∙◌, subst, arith, add-one}
use Rattle.std.specs.List.{AllByRecursion}
use Rattle.std.proofs.lemmas.List.{map-append, length-append}
use Rattle.sdl_signal.specs.declared.ids.SignalId.{SignalId}
use Rattle.sdl_signal.specs.declared.ids.GateId.{GateId}
use Rattle.sdl_structure_parts.specs.declared.parts.Channel.{Channel}
use Rattle.sdl_structure_parts.specs.declared.parts.Direction.{Direction}
use Rattle.sdl_structure_parts.specs.declared.parts.Direction.TheVariants.{Forth, Back}
use Rattle.sdl_structure_parts.specs.Structure.{Structure, IsStructure, path_of, channel_at, SignalsExist}
use Rattle.sdl_structure_parts.specs.Rules.{IsWellFormed}
use Rattle.sdl_routes.specs.declared.route.Hop.{Hop}
use Rattle.sdl_routes.specs.declared.route.TableRow.{TableRow}
use Rattle.sdl_routes.specs.declared.route.Source.{Source}
use Rattle.sdl_routes.specs.Routes.{hop_direction, Carries, MayStart, StartsAtGate, IsSource, Joins, JoinsLast, IsWalk, IsRoute, AreRoutesOf, HasTooMany, hop_number, place, row_place}
use Rattle.sdl_routes.specs.Found.{place_behind, Begins, HasFound}
use Rattle.sdl_routes.proofs.Places.{after_one}
use Rattle.sdl_routes.proofs.Found.{each_of, found_skip, found_push}
use Rattle.sdl_routes.proofs.Ranks.{short_walk, all_at}

pub walk_more : (s : Structure) (x : SignalId) (k : Hop) (hops : List Hop) → IsWalk s x hops → Carries s k x → JoinsLast s hops k → IsWalk s x (hops ++ k ∷ [])
walk_more s x k [] walk carries joins = absurd walk
walk_more s x k (h ∷ []) walk carries joins = (walk, joins, carries)
walk_more s x k (h ∷ j ∷ hops) walk carries joins = (walk.0, walk.1, walk_more s x k (j ∷ hops) walk.2 carries joins)

-- so there is room for it
pub room_for : (s : Structure) → IsStructure s → IsWellFormed s → (x : SignalId) (k : Hop) (hops : List Hop) → IsWalk s x hops → Carries s k x → JoinsLast s hops k
    → length hops < 9
room_for s is wf x k hops walk carries joins =
    let short : length (hops ++ k ∷ []) ≤ 9 = (short_walk s is wf x (hops ++ k ∷ []) (walk_more s x k hops walk carries joins)).0 in
    let e : length (hops ++ k ∷ []) ≡ length hops + 1 = length-append hops (k ∷ []) in
    omega arith

walk_head : (s : Structure) (x : SignalId) (h : Hop) (hops : List Hop) → IsWalk s x (h ∷ hops) → Carries s h x
walk_head s x h [] walk = walk
walk_head s x h (k ∷ hops) walk = walk.0

-- the number of a hop says which it is
parts_from_number : (c d : ℕ) (a b : Bool) → 2 * c + (if a then 1 else 0) ≡ 2 * d + (if b then 1 else 0) → (c ≡ d) × (a ≡ b)
parts_from_number c d true true e = (omega arith, refl)
parts_from_number c d true false e = absurd (omega arith)
parts_from_number c d false true e = absurd (omega arith)
parts_from_number c d false false e = (omega arith, refl)

pub hop_from_number : (h k : Hop) → hop_number h ≡ hop_number k → h ≡ k
hop_from_number h k e =
    let (c, b) = parts_from_number h.channel.0 k.channel.0 h.back k.back e in
    ap (λ (n : ℕ). let hop : Hop = record { channel = record { 0 = n }; back = h.back } in hop) c
    ∙ ap (λ (back : Bool). let hop : Hop = record { channel = k.channel; back = back } in hop) b

pub signal_from_number : (x y : SignalId) → x.0 ≡ y.0 → x ≡ y
signal_from_number x y e = ap (λ (n : ℕ). let signal : SignalId = record { 0 = n } in signal) e

-- a walk that begins with these hops and one more
walk_begins : (s : Structure) (x : SignalId) (k h : Hop) (hops walk : List Hop) → IsWalk s x walk
    → Begins (map hop_number (h ∷ hops) ++ hop_number k ∷ []) (map hop_number walk) → Carries s k x × JoinsLast s (h ∷ hops) k
walk_begins s x k h [] [] is begins = absurd is
walk_begins s x k h [] (r ∷ []) is begins = absurd begins.1
walk_begins s x k h [] (r ∷ q ∷ rest) is begins =
    let same : r ≡ h = hop_from_number r h begins.0 in
    let next : q ≡ k = hop_from_number q k begins.1.0 in (
      subst (λ (y : Hop). Carries s y x) next (walk_head s x q rest is.2),
      subst (λ (y : Hop). Joins s h y) next (subst (λ (y : Hop). Joins s y q) same is.1),
    )
walk_begins s x k h (j ∷ hops) [] is begins = absurd is
walk_begins s x k h (j ∷ hops) (r ∷ []) is begins = absurd begins.1
walk_begins s x k h (j ∷ hops) (r ∷ q ∷ rest) is begins = walk_begins s x k j hops (q ∷ rest) is.2 begins.1

walk_begins_at : (s : Structure) (x : SignalId) (k : Hop) (walk : List Hop) → IsWalk s x walk
    → Begins (hop_number k ∷ []) (map hop_number walk) → Carries s k x
walk_begins_at s x k [] is begins = absurd is
walk_begins_at s x k (r ∷ rest) is begins =
    subst (λ (y : Hop). Carries s y x) (hop_from_number r k begins.0) (walk_head s x r rest is)

-- no route begins so
none_begins : (s : Structure) (x : SignalId) (k : Hop) (hops : List Hop) → IsWalk s x hops → ¬ (Carries s k x × JoinsLast s hops k)
    → (row : TableRow) → IsRoute s row → ¬ Begins (place x hops ++ hop_number k ∷ []) (row_place row)
none_begins s x k [] known refused row route begins = absurd known
none_begins s x k (h ∷ hops) known refused row route begins =
    let same : row.route.signal ≡ x = signal_from_number row.route.signal x begins.0 in
    let walk : IsWalk s x row.route.hops.items = subst (λ (y : SignalId). IsWalk s y row.route.hops.items) same route.walk in
    refused (walk_begins s x k h hops row.route.hops.items walk begins.1)

-- what a walk of a route starts with may start a route
may_start : (s : Structure) (k : Hop) (walk : List Hop) (gate : GateId) (src : Source) → StartsAtGate s walk gate → IsSource s gate src
    → Begins (hop_number k ∷ []) (map hop_number walk) → MayStart s k
may_start s k [] gate src start is begins = absurd begins
may_start s k (r ∷ rest) gate src start is begins = subst (λ (y : Hop). MayStart s y) (hop_from_number r k begins.0) (gate, src, start, is)

none_begins_at : (s : Structure) (x : SignalId) (k : Hop) → ¬ (MayStart s k × Carries s k x)
    → (row : TableRow) → IsRoute s row → ¬ Begins (x.0 ∷ hop_number k ∷ []) (row_place row)
none_begins_at s x k refused row route begins =
    let same : row.route.signal ≡ x = signal_from_number row.route.signal x begins.0 in
    let walk : IsWalk s x row.route.hops.items = subst (λ (y : SignalId). IsWalk s y row.route.hops.items) same route.walk in
    refused (may_start s k row.route.hops.items row.route.start row.source route.start route.source begins.1, walk_begins_at s x k row.route.hops.items walk begins.1)

no_empty_walk : (s : Structure) (x : SignalId) (m n : ℕ) (hops : List Hop) → IsWalk s x hops → m ∷ map hop_number hops ≢ n ∷ []
no_empty_walk s x m n [] walk e = absurd walk
no_empty_walk s x m n (h ∷ hops) walk e = cc

-- no route has no hops
pub no_empty : (s : Structure) (n : ℕ) (row : TableRow) → IsRoute s row → row_place row ≢ n ∷ []
no_empty s n row route e = no_empty_walk s row.route.signal row.route.signal.0 n row.route.hops.items route.walk e

-- the channel of a hop that carries a signal exists
option_exists : (cs : List Channel) (k : ℕ) (d : Direction) (x : SignalId) → IsSomeAnd (option_map (λ c. path_of c d) (slice_get cs k)) (λ p. Contains p.signals x) → k < length cs
option_exists [] k d x h = absurd h
option_exists (c ∷ cs) zero d x h = omega arith
option_exists (c ∷ cs) (suc k) d x h = let lt : k < length cs = option_exists cs k d x h in omega arith

number_below : (c n : ℕ) (b : Bool) → c < n → 2 * c + (if b then 1 else 0) < 2 * n
number_below c n true lt = omega arith
number_below c n false lt = omega arith

pub carried_below : (s : Structure) (h : Hop) (x : SignalId) → Carries s h x → hop_number h < 2 * length s.channels
carried_below s h x carries = number_below h.channel.0 (length s.channels) h.back (option_exists s.channels h.channel.0 (hop_direction h) x carries)

walk_below_end : (s : Structure) (x : SignalId) (hops : List Hop) → IsWalk s x hops → AllByRecursion (λ n. n < 2 * length s.channels) (map hop_number hops)
walk_below_end s x [] walk = tt
walk_below_end s x (h ∷ []) walk = (carried_below s h x walk, tt)
walk_below_end s x (h ∷ k ∷ hops) walk = (carried_below s h x walk.0, walk_below_end s x (k ∷ hops) walk.2)

inside : (P : ℕ → Type 0) (xs ys : List ℕ) (n : ℕ) → AllByRecursion P (xs ++ n ∷ ys) → P n
inside P [] ys n h = h.0
inside P (x ∷ xs) ys n h = inside P xs ys n h.1

tail_same : (m y : ℕ) (hs ys rest : List ℕ) → m ∷ hs ≡ y ∷ (ys ++ rest) → hs ≡ ys ++ rest
tail_same m y hs ys rest e = cc

pub numbers_below : (s : Structure) (y : ℕ) (ys : List ℕ) (row : TableRow) (n : ℕ) (rest : List ℕ) → IsRoute s row → row_place row ≡ (y ∷ ys) ++ n ∷ rest → n < 2 * length s.channels
numbers_below s y ys row n rest route e =
    let P : ℕ → Type 0 = λ m. m < 2 * length s.channels in
    let all : AllByRecursion P (map hop_number row.route.hops.items) = walk_below_end s row.route.signal row.route.hops.items route.walk in
    let same : map hop_number row.route.hops.items ≡ ys ++ n ∷ rest = tail_same row.route.signal.0 y (map hop_number row.route.hops.items) ys (n ∷ rest) e in
    inside P ys rest n (subst (λ (ns : List ℕ). AllByRecursion P ns) same all)

-- the steps of the search
pub place_more : (x : SignalId) (hops : List Hop) (k : Hop) → place x (hops ++ k ∷ []) ≡ place x hops ++ hop_number k ∷ []
place_more x hops k = ap (λ ns. x.0 ∷ ns) (map-append hop_number hops (k ∷ []))

pub step_begun : (s : Structure) (x : SignalId) (hops longer : List Hop) (k : Hop) (n : ℕ) (rows : List TableRow)
    → longer ≡ hops ++ k ∷ [] → hop_number k ≡ n → HasFound s (place x hops ++ n ∷ []) rows → HasFound s (place x longer) rows
step_begun s x hops longer k n rows e number found =
    let at : place x hops ++ n ∷ [] ≡ place x longer =
    ap (λ m. place x hops ++ m ∷ []) (sym number) ∙ sym (place_more x hops k) ∙ ap (λ l. place x l) (sym e) in
    subst (λ (p : List ℕ). HasFound s p rows) at found

pub step_taken : (s : Structure) (x : SignalId) (hops longer : List Hop) (k : Hop) (n : ℕ) (rows : List TableRow)
    → longer ≡ hops ++ k ∷ [] → hop_number k ≡ n → HasFound s (place_behind (place x longer)) rows → HasFound s (place x hops ++ (n + 1) ∷ []) rows
step_taken s x hops longer k n rows e number found =
    let at : place_behind (place x longer) ≡ place x hops ++ (n + 1) ∷ [] =
    ap (λ l. place_behind (place x l)) e ∙ ap place_behind (place_more x hops k) ∙ after_one (place x hops) (hop_number k)
    ∙ ap (λ m. place x hops ++ suc m ∷ []) number ∙ ap (λ m. place x hops ++ m ∷ []) (sym (add-one n)) in
    subst (λ (p : List ℕ). HasFound s p rows) at found

pub step_skipped : (s : Structure) (x : SignalId) (hops : List Hop) (k : Hop) (n : ℕ) (rows : List TableRow) → IsWalk s x hops
    → ¬ (Carries s k x × JoinsLast s hops k) → hop_number k ≡ n → HasFound s (place x hops ++ n ∷ []) rows → HasFound s (place x hops ++ (n + 1) ∷ []) rows
step_skipped s x hops k n rows walk refused number found =
    let P : ℕ → Type 0 = λ m. HasFound s (place x hops ++ m ∷ []) rows in
    let at : place_behind (place x hops ++ hop_number k ∷ []) ≡ place x hops ++ (n + 1) ∷ [] =
    after_one (place x hops) (hop_number k) ∙ ap (λ m. place x hops ++ suc m ∷ []) number ∙ ap (λ m. place x hops ++ m ∷ []) (sym (add-one n)) in
    subst (λ (p : List ℕ). HasFound s p rows) at
    (found_skip s (place x hops ++ hop_number k ∷ []) rows (none_begins s x k hops walk refused) (subst P (sym number) found))

pub first_skipped : (s : Structure) (x : SignalId) (k : Hop) (n : ℕ) (rows : List TableRow)
    → ¬ (MayStart s k × Carries s k x) → hop_number k ≡ n → HasFound s (x.0 ∷ n ∷ []) rows → HasFound s (x.0 ∷ (n + 1) ∷ []) rows
first_skipped s x k n rows refused number found =
    let P : ℕ → Type 0 = λ m. HasFound s (x.0 ∷ m ∷ []) rows in
    let at : place_behind (x.0 ∷ hop_number k ∷ []) ≡ x.0 ∷ (n + 1) ∷ [] =
    ap (λ m. x.0 ∷ suc m ∷ []) number ∙ ap (λ m. x.0 ∷ m ∷ []) (sym (add-one n)) in
    subst (λ (p : List ℕ). HasFound s p rows) at
    (found_skip s (x.0 ∷ hop_number k ∷ []) rows (none_begins_at s x k refused) (subst P (sym number) found))

-- too many routes: those found and one more
pub too_many : (s : Structure) (x : SignalId) (hops : List Hop) (row : TableRow) (rows : List TableRow) → IsRoute s row → row_place row ≡ place x hops
    → ((other : TableRow) → IsRoute s other → Begins (place x hops) (row_place other) → other ≡ row)
    → HasFound s (place x hops) rows → length rows ≡ 4096 → HasTooMany s
too_many s x hops row rows route at only found full =
    let more = found_push s x.0 (map hop_number hops) row rows route at only found in
    let e : length (rows ++ row ∷ []) ≡ length rows + 1 = length-append rows (row ∷ []) in
    (rows ++ row ∷ [], omega arith, each_of _ (IsRoute s) (rows ++ row ∷ []) (λ r h. h.0) more.sound, more.order)

pub first_taken : (s : Structure) (x : SignalId) (k : Hop) (n : ℕ) (rows : List TableRow)
    → hop_number k ≡ n → HasFound s (place_behind (place x (k ∷ []))) rows → HasFound s (x.0 ∷ (n + 1) ∷ []) rows
first_taken s x k n rows number found =
    let at : place_behind (place x (k ∷ [])) ≡ x.0 ∷ (n + 1) ∷ [] =
    ap (λ m. x.0 ∷ suc m ∷ []) number ∙ ap (λ m. x.0 ∷ m ∷ []) (sym (add-one n)) in
    subst (λ (p : List ℕ). HasFound s p rows) at found

-- the signal of a hop that carries it exists
each_at : {X : Type 0} (P : X → Type 0) (xs : List X) (k : ℕ) (d : X) → AllByRecursion P xs → k < length xs → P (get_or xs k d)
each_at P [] k d all lt = absurd (omega arith)
each_at P (x ∷ xs) zero d all lt = all.0
each_at P (x ∷ xs) (suc k) d all lt = each_at P xs k d all.1 (omega arith)

some_map : {X : Type 0} {P Q : X → Type 0} (o : Option X) → ((x : X) → P x → Q x) → IfSome o P → IfSome o Q
some_map None f h = tt
some_map (Some x) f h = f x h

pub contained : {X : Type 0} (P : X → Type 0) (xs : List X) (x : X) → AllByRecursion P xs → Contains xs x → P x
contained P xs x all (k, lt, is) = subst P is (each_at P xs k x all lt)

signal_of : (s : Structure) (c : Option Channel) (d : Direction) (x : SignalId) → IfSome c (λ c. SignalsExist s c.forth.items × SignalsExist s c.back.items)
    → IsSomeAnd (option_map (λ c. path_of c d) c) (λ p. Contains p.signals x) → x.0 < length s.signals
signal_of s None d x exist h = absurd h
signal_of s (Some c) Forth x exist h = contained (λ (y : SignalId). y.0 < length s.signals) c.forth.items x exist.0 h
signal_of s (Some c) Back x exist h = contained (λ (y : SignalId). y.0 < length s.signals) c.back.items x exist.1 h

pub signal_exists : (s : Structure) → IsStructure s → (x : SignalId) (hops : List Hop) → IsWalk s x hops → x.0 < length s.signals
signal_exists s is x [] walk = absurd walk
signal_exists s is x (h ∷ hops) walk =
    signal_of s (channel_at s h.channel) (hop_direction h) x
    (some_map (channel_at s h.channel) (λ (c : Channel) p. (p.3, p.4)) (all_at _ s.channels h.channel.0 is.channels))
    (walk_head s x h hops walk)

-- the routes of all signals are all routes
pub all_found : (s : Structure) → IsStructure s → (rows : List TableRow) → HasFound s (length s.signals ∷ []) rows → AreRoutesOf s rows
all_found s is rows found = record {
  sound = each_of _ (IsRoute s) rows (λ r h. h.0) found.sound;
  complete = λ row route. found.complete row route (inl (signal_exists s is row.route.signal row.route.hops.items route.walk));
  order = found.order;
}
