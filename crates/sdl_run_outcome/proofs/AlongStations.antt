-- Along a route each station has one worker before it.
use Rattle.std.proofs.Common.{ℕ, Bool, true, false, cond, List, [], ◌∷◌, ◌++◌, map, ◌≡◌, ◌≢◌, inl, inr, Option, Some, None, refl, ap, sym, ◌∙◌, subst}
use Rattle.std.proofs.lemmas.Bool.{cond_both, cond-true}
use Rattle.std.proofs.lemmas.Option.{same_Some}
use Rattle.sdl_routes.specs.declared.route.Hop.{Hop}
use Rattle.sdl_routes.specs.declared.route.Station.{Station}
use Rattle.sdl_routes.specs.declared.route.Station.TheVariants.{Line}
use Rattle.sdl_forward_opening.specs.declared.worker.Worker.{Worker}
use Rattle.sdl_forward_opening.specs.declared.worker.Worker.TheVariants.{Block, Environment, Forwarder}
use Rattle.sdl_forward_opening.specs.Opens.{Brings}
use Rattle.sdl_forward.specs.Boards.{same_station}
use Rattle.sdl_run_outcome.specs.Stations.{Ways, IsAgent, Leads, AreWays, IsWay, Among, Once, first, next, place, taker}
use Rattle.sdl_forward.specs.Forwards.{station_behind}
use Rattle.sdl_run_outcome.proofs.Comparisons.{same_station_is, same_station_itself}

pub first_among : (ss : List Station) (s : Station) → first ss ≡ Some s → Among s ss
first_among [] s e = cc
first_among (x ∷ xs) s e = inl (sym (same_Some x s e))

-- what comes after a station of a list is not its first
pub after_among : (a x : Station) (xs : List Station) (s : Station) → station_behind a (x ∷ xs) ≡ Some s → Among s xs
after_among a x [] s = cond_both (same_station x a) None None (λ (o : Option Station). o ≡ Some s → Among s []) (λ t e. first_among [] s e) (λ t e. first_among [] s e)
after_among a x (y ∷ ys) s = cond_both (same_station x a) (Some y) (station_behind a (y ∷ ys)) (λ (o : Option Station). o ≡ Some s → Among s (y ∷ ys)) (λ t e. first_among (y ∷ ys) s e) (λ t e. inr (after_among a y ys s e))

pub after_any : (a : Station) (ss : List Station) (s : Station) → station_behind a ss ≡ Some s → Among s ss
after_any a [] s e = first_among [] s e
after_any a (x ∷ xs) s e = inr (after_among a x xs s e)

first_not_after : (ss : List Station) (a s : Station) → Once ss → first ss ≡ Some s → station_behind a ss ≡ Some s → ⊥
first_not_after [] a s o e f = first_among [] s e
first_not_after (x ∷ xs) a s o e f = o.0 (subst (λ y. Among y xs) (sym (same_Some x s e)) (after_among a x xs s f))

after_one_at : (x a b s : Station) (xs : List Station) (t u : Bool) → (station_behind a xs ≡ Some s → station_behind b xs ≡ Some s → a ≡ b) → Once xs → same_station x a ≡ t → same_station x b ≡ u
    → cond t (first xs) (station_behind a xs) ≡ Some s → cond u (first xs) (station_behind b xs) ≡ Some s → a ≡ b
after_one_at x a b s xs true true more o p q e f = sym (same_station_is x a p) ∙ same_station_is x b q
after_one_at x a b s xs true false more o p q e f = absurd (first_not_after xs b s o e f)
after_one_at x a b s xs false true more o p q e f = absurd (first_not_after xs a s o f e)
after_one_at x a b s xs false false more o p q e f = more e f

-- a station comes after one other at most
after_one : (ss : List Station) (a b s : Station) → Once ss → station_behind a ss ≡ Some s → station_behind b ss ≡ Some s → a ≡ b
after_one [] a b s o e f = absurd (first_among [] s e)
after_one (x ∷ xs) a b s o e f = after_one_at x a b s xs (same_station x a) (same_station x b) (after_one xs a b s o.1) o.1 refl refl e f

pub before_one : (t : Ways) (r : ℕ) (s : Station) → Once (t.stations r) → (v w : Worker) → Brings t v r s → Brings t w r s → v ≡ w
before_one t r s o (Forwarder h) (Forwarder k) e f = ap taker (after_one (t.stations r) (Line h) (Line k) s o e.0 f.0)
before_one t r s o (Forwarder h) (Block n) e f = absurd (first_not_after (t.stations r) (Line h) s o f.0 e.0)
before_one t r s o (Forwarder h) Environment e f = absurd (first_not_after (t.stations r) (Line h) s o f.0 e.0)
before_one t r s o (Block n) (Forwarder k) e f = absurd (first_not_after (t.stations r) (Line k) s o e.0 f.0)
before_one t r s o Environment (Forwarder k) e f = absurd (first_not_after (t.stations r) (Line k) s o e.0 f.0)
before_one t r s o (Block n) (Block m) e f = sym (e.1 tt) ∙ f.1 tt
before_one t r s o (Block n) Environment e f = sym (e.1 tt) ∙ f.1 tt
before_one t r s o Environment (Block m) e f = sym (e.1 tt) ∙ f.1 tt
before_one t r s o Environment Environment e f = sym (e.1 tt) ∙ f.1 tt

-- where a worker brings an item to is on its route
pub next_among : (t : Ways) (r : ℕ) (w : Worker) (s : Station) → next t w r ≡ Some s → Among s (t.stations r)
next_among t r (Block n) s e = first_among (t.stations r) s e
next_among t r Environment s e = first_among (t.stations r) s e
next_among t r (Forwarder h) s e = after_any (Line h) (t.stations r) s e

pub place_taker : (w : Worker) → taker (place w) ≡ w
place_taker (Block n) = refl
place_taker Environment = refl
place_taker (Forwarder h) = refl

pub line_not_place : (w : Worker) → IsAgent w → (h : Hop) → place w ≡ Line h → ⊥
line_not_place (Block n) a h e = cc
line_not_place Environment a h e = cc
line_not_place (Forwarder k) a h e = absurd a

place_last : (w : Worker) → IsAgent w → (f : Worker) (hs : List Hop) → Among (place w) (map Line hs ++ place f ∷ []) → w ≡ f
place_last w a f [] h = elim h [ inl e ↦ sym (place_taker w) ∙ (ap taker e ∙ place_taker f) | inr n ↦ absurd n ]
place_last w a f (k ∷ hs) h = elim h [ inl e ↦ absurd (line_not_place w a k e) | inr n ↦ place_last w a f hs n ]

pub among_some : (s : Station) (ss : List Station) → Among s ss → ss ≢ []
among_some s [] h e = h
among_some s (x ∷ xs) h e = cc

-- a station that is not the first of a list is followed there as in the rest
pub after_rest : (a x : Station) (xs : List Station) → Among a xs → (Among x xs → ⊥) → station_behind a (x ∷ xs) ≡ station_behind a xs
after_rest a x xs m free = cond_both (same_station x a) (first xs) (station_behind a xs) (λ (o : Option Station). o ≡ station_behind a xs)
    (λ e. absurd (free (subst (λ (y : Station). Among y xs) (sym (same_station_is x a e)) m))) (λ e. refl)

pub after_skip : (a x : Station) (xs : List Station) → x ≢ a → station_behind a (x ∷ xs) ≡ station_behind a xs
after_skip a x xs apart = cond_both (same_station x a) (first xs) (station_behind a xs) (λ (o : Option Station). o ≡ station_behind a xs) (λ e. absurd (apart (same_station_is x a e))) (λ e. refl)

pub after_itself : (x : Station) (xs : List Station) → station_behind x (x ∷ xs) ≡ first xs
after_itself x xs = cond-true (same_station x x) (first xs) (station_behind x xs) (same_station_itself x)

pub next_agent : (t : Ways) (r : ℕ) (w : Worker) → IsAgent w → next t w r ≡ first (t.stations r)
next_agent t r (Block n) a = refl
next_agent t r Environment a = refl
next_agent t r (Forwarder h) a = absurd a

-- a route through an agent's station ends at that agent
pub ends_at : (t : Ways) → AreWays t → (w : Worker) → IsAgent w → (r : ℕ) → Among (place w) (t.stations r) → Leads t r × (t.finish r ≡ w)
ends_at t ok w a r m =
    let some : Leads t r = among_some (place w) (t.stations r) m in
    let way : IsWay t r = ok r some in
    (some, sym (place_last w a (t.finish r) way.lines (subst (λ (ss : List Station). Among (place w) ss) way.are m)))
