-- What the steps of a forwarder through its own ends keep.
use Rattle.std.proofs.Common.{◌≡◌, ◌≢◌, ◌⊎◌, ℕ, true, false, List, [], ◌∷◌, ◌++◌, length, map, Option, Some, None, refl, inl, inr, ap, sym, ◌∙◌, subst, append-nil, arith}
use Rattle.std.specs.Option.{option_to_list}
use Rattle.std.specs.List.{AllByRecursion}
use Rattle.std.proofs.lemmas.Bool.{cond-true, cond-false, cases_Bool}
use Rattle.std.proofs.lemmas.Option.{none-some}
use Rattle.std.proofs.lemmas.List.Elements.{filter-append}
use Rattle.sdl_signal.specs.declared.values.Item.{Item}
use Rattle.sdl_routes.specs.declared.route.Hop.{Hop}
use Rattle.sdl_routes.specs.declared.route.TableRow.{TableRow}
use Rattle.sdl_routes.specs.declared.route.Station.{Station}
use Rattle.sdl_routes.specs.declared.route.Station.TheVariants.{Line}
use Rattle.sdl_queue.specs.Ends.{Opening, FeedEnd}
use Rattle.sdl_forward_ends.specs.Ends.{WorkerEnds, IsSameEnds, feed_at, feed_identity, put_at, taken_by}
use Rattle.sdl_forward_ends.proofs.Same.{same_station_itself, other_station, cases_station}
use Rattle.sdl_forward.specs.declared.forwarder.Forwarded.{Forwarded}
use Rattle.sdl_forward.specs.declared.forwarder.Forwarded.TheVariants.{Moved, Idle, Held}
use Rattle.sdl_forward.specs.Boards.{same_station}
use Rattle.sdl_forward.specs.Forwards.{Forwarding, next_station}
use Rattle.sdl_forward.specs.Carries.{Carries, HasWaysOn, Takes, PutsNext, Keeps, Waits}
use Rattle.sdl_forward_ends.specs.Stations.{is_station}
use Rattle.sdl_forward.specs.HandsOn.{AreFresh, going_to, GoesOn, IsHandingOn, HasHandedOn}

abbrev station_in : Station → List (Station × (Opening × ℕ)) → Station
station_in s [] = s
station_in s (m ∷ ms) = m.0

abbrev rest_in : List (Station × (Opening × ℕ)) → List (Station × (Opening × ℕ))
rest_in [] = []
rest_in (m ∷ ms) = ms

-- feeds of the same marks are at the same stations
feed_marked : (fs gs : List (Station × FeedEnd)) → map feed_identity gs ≡ map feed_identity fs → (s : Station) (f : FeedEnd) → feed_at fs s ≡ Some f → (g : FeedEnd) × (feed_at gs s ≡ Some g)
feed_marked [] gs e s f at = absurd (none-some f at)
feed_marked (x ∷ fs) [] e s f at = absurd (let a = ap length e in omega (arith, a))
feed_marked (x ∷ fs) (y ∷ gs) e s f at =
    let same : y.0 ≡ x.0 = ap (station_in s) e in
    elim (cases_Bool (same_station x.0 s)) [
      | inl t ↦ (y.1, cond-true (same_station y.0 s) (Some y.1) (feed_at gs s) (subst (λ (u : Station). same_station u s ≡ true) (sym same) t))
      | inr t ↦ (
          let later = feed_marked fs gs (ap rest_in e) s f (sym (cond-false (same_station x.0 s) (Some x.1) (feed_at fs s) t) ∙ at) in
          (later.0, cond-false (same_station y.0 s) (Some y.1) (feed_at gs s) (subst (λ (u : Station). same_station u s ≡ false) (sym same) t) ∙ later.1))
    ]

ways_same : (rows : List TableRow) (h : Hop) (old new : WorkerEnds) → IsSameEnds old new → HasWaysOn rows h old → HasWaysOn rows h new
ways_same rows h old new same ways = λ i s next. let f = ways i s next in feed_marked old.feeds new.feeds same.feeds s f.0 f.1

going-append : (rows : List TableRow) (h : Hop) (s : Station) (xs ys : List Item) → going_to rows h s (xs ++ ys) ≡ going_to rows h s xs ++ going_to rows h s ys
going-append rows h s xs ys = filter-append (λ (i : Item). is_station s (next_station rows (Line h) i)) xs ys

-- an item goes to its next station, and to no other
going_there : (rows : List TableRow) (h : Hop) (i : Item) (t : Station) → next_station rows (Line h) i ≡ Some t → going_to rows h t (i ∷ []) ≡ i ∷ []
going_there rows h i t next = cond-true (is_station t (next_station rows (Line h) i)) (i ∷ []) [] (ap (is_station t) next ∙ same_station_itself t)

going_elsewhere : (rows : List TableRow) (h : Hop) (i : Item) (s t : Station) → s ≢ t → next_station rows (Line h) i ≡ Some t → going_to rows h s (i ∷ []) ≡ []
going_elsewhere rows h i s t n next = cond-false (is_station s (next_station rows (Line h) i)) (i ∷ []) [] (ap (is_station s) next ∙ other_station t s (λ e. n (sym e)))

all_more : (P : Item → Type 0) (xs : List Item) (i : Item) → AllByRecursion P xs → P i → AllByRecursion P (xs ++ i ∷ [])
all_more P [] i all p = (p, tt)
all_more P (x ∷ xs) i all p = (all.0, all_more P xs i all.1 p)

-- what was put, and then the item that comes next, is what is taken after it
taken_after : (was : Forwarding) (old new : WorkerEnds) (put : List Item) (item : Item) → put ++ option_to_list was.held ≡ taken_by old → Takes was old item new → put ++ item ∷ [] ≡ taken_by new
taken_after was old new put item whole takes = elim takes [
  | inl t ↦ ap (λ (o : Option Item). put ++ option_to_list o) (sym t.0) ∙ whole ∙ sym t.1
  | inr t ↦
      ap (λ (xs : List Item). xs ++ item ∷ []) (sym (append-nil put) ∙ ap (λ (o : Option Item). put ++ option_to_list o) (sym t.0) ∙ whole) ∙ sym t.1
]

put_after : (rows : List TableRow) (h : Hop) (old new : WorkerEnds) (put : List Item) (item : Item) (to : Station) → ((s : Station) → put_at old s ≡ going_to rows h s put)
    → next_station rows (Line h) item ≡ Some to → put_at new to ≡ put_at old to ++ item ∷ [] → ((s : Station) → s ≢ to → put_at new s ≡ put_at old s)
    → (s : Station) → put_at new s ≡ going_to rows h s (put ++ item ∷ [])
put_after rows h old new put item to each next puts others s = elim (cases_station s to) [
  | inl e ↦
      subst (λ (u : Station). put_at new u ≡ going_to rows h u (put ++ item ∷ [])) (sym e)
      (puts ∙ ap (λ (xs : List Item). xs ++ item ∷ []) (each to)
      ∙ ap (λ (xs : List Item). going_to rows h to put ++ xs) (sym (going_there rows h item to next))
      ∙ sym (going-append rows h to put (item ∷ [])))
  | inr n ↦
      others s n ∙ each s ∙ sym (append-nil (going_to rows h s put))
      ∙ ap (λ (xs : List Item). going_to rows h s put ++ xs) (sym (going_elsewhere rows h item s to n next))
      ∙ sym (going-append rows h s put (item ∷ []))
]

after_bringing : (rows : List TableRow) (was is : Forwarding) (old new : WorkerEnds) → IsHandingOn rows was old → PutsNext rows was old is new → IsSameEnds old new → IsHandingOn rows is new
after_bringing rows was is old new k b same =
    let now : IsHandingOn rows (record { hop = was.hop; held = None }) new = record {
      ways = ways_same rows was.hop old new same k.ways;
      put = k.put ++ b.item ∷ [];
      whole = append-nil (k.put ++ b.item ∷ []) ∙ taken_after was old new k.put b.item k.whole b.takes;
      each = put_after rows was.hop old new k.put b.item b.to k.each b.next b.puts b.others;
      on = all_more (GoesOn rows was.hop) k.put b.item k.on (b.to, b.next);
    } in
    subst (λ (f : Forwarding). IsHandingOn rows f new) (sym b.emptied) now

after_keeping : (rows : List TableRow) (was is : Forwarding) (old new : WorkerEnds) → IsHandingOn rows was old → Keeps was old is new → IsSameEnds old new → IsHandingOn rows is new
after_keeping rows was is old new k b same =
    let now : IsHandingOn rows (record { hop = was.hop; held = Some b.item }) new = record {
      ways = ways_same rows was.hop old new same k.ways;
      put = k.put;
      whole = taken_after was old new k.put b.item k.whole b.takes;
      each = λ s. b.puts s ∙ k.each s;
      on = k.on;
    } in
    subst (λ (f : Forwarding). IsHandingOn rows f new) (sym b.held) now

after_waiting : (rows : List TableRow) (was is : Forwarding) (old new : WorkerEnds) → IsHandingOn rows was old → Waits was old is new → IsSameEnds old new → IsHandingOn rows is new
after_waiting rows was is old new k b same =
    let now : IsHandingOn rows was new = record {
      ways = ways_same rows was.hop old new same k.ways;
      put = k.put;
      whole = k.whole ∙ sym b.taken;
      each = λ s. b.puts s ∙ k.each s;
      on = k.on;
    } in
    subst (λ (f : Forwarding). IsHandingOn rows f new) (sym b.forwarder) now

pub stays : (rows : List TableRow) (was is : Forwarding) (old new : WorkerEnds) (answer : Forwarded) → IsHandingOn rows was old → Carries rows was old answer is new → IsSameEnds old new → IsHandingOn rows is new
stays rows was is old new Moved k c same = after_bringing rows was is old new k c same
stays rows was is old new Held k c same = after_keeping rows was is old new k c same
stays rows was is old new Idle k c same = after_waiting rows was is old new k c same

pub path_stays : (rows : List TableRow) (was is : Forwarding) (old new : WorkerEnds) (answer : Forwarded) → Carries rows was old answer is new → is.hop ≡ was.hop
path_stays rows was is old new Moved c = ap (λ (f : Forwarding). f.hop) c.emptied
path_stays rows was is old new Held c = ap (λ (f : Forwarding). f.hop) c.held
path_stays rows was is old new Idle c = ap (λ (f : Forwarding). f.hop) c.forwarder

pub first : (rows : List TableRow) (w : Forwarding) (e : WorkerEnds) → w.held ≡ None → AreFresh e → HasWaysOn rows w.hop e → IsHandingOn rows w e
first rows w e none fresh ways =
    record {
      ways = ways;
      put = [];
      whole = ap (λ (o : Option Item). option_to_list o) none ∙ sym fresh.taken;
      each = fresh.put;
      on = tt;
    }

on_or_held : (rows : List TableRow) (h : Hop) (o : Option Item) (xs : List Item) → AllByRecursion (GoesOn rows h) xs → AllByRecursion (λ (i : Item). GoesOn rows h i ⊎ (o ≡ Some i)) (xs ++ option_to_list o)
on_or_held rows h None [] all = tt
on_or_held rows h (Some i) [] all = (inr refl, tt)
on_or_held rows h o (x ∷ xs) all = (inl all.0, on_or_held rows h o xs all.1)

pub handed : (rows : List TableRow) (w : Forwarding) (e : WorkerEnds) → IsHandingOn rows w e → HasHandedOn rows w e
handed rows w e k =
    record {
      went = λ s.
          ap (λ (xs : List Item). xs ++ going_to rows w.hop s (option_to_list w.held)) (k.each s)
          ∙ sym (going-append rows w.hop s k.put (option_to_list w.held))
          ∙ ap (λ (xs : List Item). going_to rows w.hop s xs) k.whole;
      on = subst (AllByRecursion (λ (i : Item). GoesOn rows w.hop i ⊎ (w.held ≡ Some i))) k.whole (on_or_held rows w.hop w.held k.put k.on);
    }
