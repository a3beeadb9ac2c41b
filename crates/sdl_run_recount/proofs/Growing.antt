-- Trails that grow event by event, and totals that do.
use Rattle.std.proofs.Common.{◌≡◌, ℕ, ◌+◌, ◌<◌, Bool, Some, List, [], ◌∷◌, ◌++◌, length, take, slice_get, sum_by, refl, ap, ◌∙◌, arith}
use Rattle.std.specs.List.{flat_map}
use Rattle.std.proofs.lemmas.List.{append-nil, take_more}
use Rattle.std.proofs.lemmas.List.Concat.{flat_map-append}
use Rattle.std.proofs.lemmas.List.Sums.{sum_by-append, sum_by-cons}
use Rattle.std.proofs.lemmas.Option.{get_or_from_slice_get}
use Rattle.sdl_signal.specs.declared.values.Item.{Item}
use Rattle.sdl_instances_log.specs.declared.event.Event.{Event}
use Rattle.sdl_instances_log.specs.Log.{sent, sent_by, arrived, arrived_in, done_in, all_done}
use Rattle.sdl_run_ledger.specs.declared.ledger.Ledger.{Ledger}
use Rattle.sdl_run_ledger.specs.Counts.{summed}
use Rattle.sdl_run_recount.specs.Sorted.{lists_in, items_at}
use Rattle.sdl_run_recount.specs.Along.{given}
use Rattle.sdl_run_recount.specs.Totals.{grown, AddsUpTo}
use Rattle.sdl_run_recount.specs.Trails.{Grows}
use Rattle.sdl_run_outcome.specs.Books.{of_route}
use Rattle.sdl_run_recount.specs.declared.trail.Trail.{Trail}
use Rattle.sdl_run_recount.specs.declared.totals.Totals.{Totals}
use Rattle.sdl_run_recount.proofs.Sorting.{gain_none, gain_then, given_append, queue_begins}

-- one element more is taken
pub take_read : {X : Type 0} (xs : List X) (n : ℕ) (x : X) → n < length xs → slice_get xs n ≡ Some x → take (n + 1) xs ≡ take n xs ++ x ∷ []
take_read {X} xs n x h e = take_more xs n x h ∙ ap (λ (y : X). take n xs ++ y ∷ []) (get_or_from_slice_get xs n x x e)

sent_more : (es : List Event) (x : Event) → sent (es ++ x ∷ []) ≡ sent es ++ flat_map sent_by (done_in x)
sent_more es x =
    ap (flat_map sent_by) (flat_map-append done_in es (x ∷ []))
    ∙ (flat_map-append sent_by (all_done es) (all_done (x ∷ [])) ∙ ap (λ (ds : List _). sent es ++ flat_map sent_by ds) (append-nil (done_in x)))

arrived_more : (es : List Event) (x : Event) → arrived (es ++ x ∷ []) ≡ arrived es ++ arrived_in x
arrived_more es x = flat_map-append arrived_in es (x ∷ []) ∙ ap (λ (is : List Item). arrived es ++ is) (append-nil (arrived_in x))

-- one gain after another
pub grows_then : {a b c : Trail} {f g h k : ℕ → List Item} → Grows f g a b → Grows h k b c → Grows (λ r. f r ++ h r) (λ r. g r ++ k r) a c
grows_then {a} {b} {c} {f} {g} {h} {k} x y =
    record {
      output_gains = gain_then f h (λ r. f r ++ h r) x.output_gains y.output_gains (λ r. refl);
      found_gains = gain_then g k (λ r. g r ++ k r) x.found_gains y.found_gains (λ r. refl);
    }

-- nothing is added
pub grows_nothing : (t : Trail) → Grows (λ r. []) (λ r. []) t t
grows_nothing t = record { output_gains = gain_none (lists_in t.output) (λ r. []) (λ r less. refl); found_gains = gain_none (lists_in t.found) (λ r. []) (λ r less. refl) }

-- the same items, named in another way
pub grows_as : {a b : Trail} (f g : ℕ → List Item) → Grows (λ r. []) f a b → ((r : ℕ) → f r ≡ g r) → Grows (λ r. []) g a b
grows_as {a} {b} f g x e =
    record {
      output_gains = x.output_gains;
      found_gains =
          record {
            routes = x.found_gains.routes;
            each = λ r less. x.found_gains.each r less ∙ ap (λ (xs : List Item). items_at (lists_in a.found) r ++ of_route r xs) (e r);
          };
    }

pub grows_not : (starts ends : ℕ → Bool) (t : Trail) → Grows (λ r. given (starts r) []) (λ r. given (ends r) []) t t
grows_not starts ends t = record { output_gains = queue_begins starts (lists_in t.output); found_gains = queue_begins ends (lists_in t.found) }

-- one event after another
pub events_then : {a b c : Trail} (starts ends : ℕ → Bool) (es : List Event) (n : ℕ) (x : Event) → n < length es → slice_get es n ≡ Some x
    → Grows (λ r. given (starts r) (sent (take n es))) (λ r. given (ends r) (arrived (take n es))) a b → Grows (λ r. given (starts r) (flat_map sent_by (done_in x))) (λ r. given (ends r) (arrived_in x)) b c
    → Grows (λ r. given (starts r) (sent (take (n + 1) es))) (λ r. given (ends r) (arrived (take (n + 1) es))) a c
events_then starts ends es n x h e one two =
    let more = take_read es n x h e in
    record {
      output_gains =
          gain_then (λ r. given (starts r) (sent (take n es))) (λ r. given (starts r) (flat_map sent_by (done_in x))) (λ r. given (starts r) (sent (take (n + 1) es))) one.output_gains two.output_gains
          (λ r. ap (λ (ys : List Event). given (starts r) (sent ys)) more ∙ (ap (given (starts r)) (sent_more (take n es) x) ∙ given_append (starts r) (sent (take n es)) (flat_map sent_by (done_in x))));
      found_gains =
          gain_then (λ r. given (ends r) (arrived (take n es))) (λ r. given (ends r) (arrived_in x)) (λ r. given (ends r) (arrived (take (n + 1) es))) one.found_gains two.found_gains
          (λ r. ap (λ (ys : List Event). given (ends r) (arrived ys)) more ∙ (ap (given (ends r)) (arrived_more (take n es) x) ∙ given_append (ends r) (arrived (take n es)) (arrived_in x)));
    }

-- sums
grown_more : (o s c x n t : ℕ) → c ≡ grown o s → n ≡ grown c x → t ≡ s + x → n ≡ grown o t
grown_more o s c x n t e f g = omega arith

grown_not : (o : ℕ) → o ≡ grown o 0
grown_not o = omega arith

sum_read : {X : Type 0} (f : X → ℕ) (xs : List X) (n : ℕ) (x : X) → n < length xs → slice_get xs n ≡ Some x → sum_by f (take (n + 1) xs) ≡ sum_by f (take n xs) + f x
sum_read f xs n x h e =
    let a = ap (sum_by f) (take_read xs n x h e) in
    let b = sum_by-append f (take n xs) (x ∷ []) in
    let c = sum_by-cons f x [] in
    omega arith

pub adds_nothing : {X : Type 0} (f : X → Ledger) (t : Totals) → AddsUpTo t (summed f []) t
adds_nothing f t =
    record {
      output = grown_not t.output;
      no_route = grown_not t.no_route;
      entered = grown_not t.entered;
      no_instance = grown_not t.no_instance;
      gone = grown_not t.gone;
      left = grown_not t.left;
      fired = grown_not t.fired;
      implicit = grown_not t.implicit;
      stopped = grown_not t.stopped;
    }

pub adds_then : {X : Type 0} {a b c : Totals} (f : X → Ledger) (xs : List X) (n : ℕ) (x : X) → n < length xs → slice_get xs n ≡ Some x → AddsUpTo a (summed f (take n xs)) b → AddsUpTo b (f x) c → AddsUpTo a (summed f (take (n + 1) xs)) c
adds_then {X} {a} {b} {c} f xs n x h e one two =
    let was = summed f (take n xs) in
    let is = summed f (take (n + 1) xs) in
    record {
      output = grown_more a.output was.output b.output (f x).output c.output is.output one.output two.output (sum_read (λ y. (f y).output) xs n x h e);
      no_route = grown_more a.no_route was.no_route b.no_route (f x).no_route c.no_route is.no_route one.no_route two.no_route (sum_read (λ y. (f y).no_route) xs n x h e);
      entered = grown_more a.entered was.entered b.entered (f x).entered c.entered is.entered one.entered two.entered (sum_read (λ y. (f y).entered) xs n x h e);
      no_instance = grown_more a.no_instance was.no_instance b.no_instance (f x).no_instance c.no_instance is.no_instance one.no_instance two.no_instance (sum_read (λ y. (f y).no_instance) xs n x h e);
      gone = grown_more a.gone was.gone b.gone (f x).gone c.gone is.gone one.gone two.gone (sum_read (λ y. (f y).gone) xs n x h e);
      left = grown_more a.left was.left b.left (f x).left c.left is.left one.left two.left (sum_read (λ y. (f y).left) xs n x h e);
      fired = grown_more a.fired was.fired b.fired (f x).fired c.fired is.fired one.fired two.fired (sum_read (λ y. (f y).fired) xs n x h e);
      implicit = grown_more a.implicit was.implicit b.implicit (f x).implicit c.implicit is.implicit one.implicit two.implicit (sum_read (λ y. (f y).implicit) xs n x h e);
      stopped = grown_more a.stopped was.stopped b.stopped (f x).stopped c.stopped is.stopped one.stopped two.stopped (sum_read (λ y. (f y).stopped) xs n x h e);
    }
