-- What the derived tests of equality say.
use Rattle.std.proofs.Common.{◌≡◌, ℕ, Bool, true, false, ◌&&◌, eqb, List, Option, Some, None, refl, ap, ◌∙◌, rules, Decides, MatchBool, ◌≢◌}
use Rattle.std.proofs.lemmas.Bool.Decides.{Decides-eqb, Decides-and, Decides-like}
use Rattle.std.proofs.lemmas.Slice.Eq.{slice_eq-Decides}
use Rattle.std.specs.Cmp.Lexicographic.{pointwise}
use Rattle.std.proofs.lemmas.Bool.{false≢true}
use Rattle.std.specs.Option.{option_eq}
use Rattle.sdl_signal.specs.declared.values.Pid.{Pid}
use Rattle.sdl_signal.specs.declared.values.Pid.TheVariants as pid
use Rattle.sdl_signal.specs.declared.values.Value.{Value}
use Rattle.sdl_signal.specs.declared.values.Value.TheVariants as value
use Rattle.sdl_signal.specs.declared.values.Signal.{Signal}
use Rattle.sdl_signal.specs.declared.values.Item.{Item}
use Rattle.sdl_signal.specs.contracts.values.PidPartialEq.TheImpl as pid_test
use Rattle.sdl_signal.specs.contracts.values.ValuePartialEq.TheImpl as value_test
use Rattle.sdl_signal.specs.contracts.values.SignalPartialEq.TheImpl as signal_test
use Rattle.sdl_signal.specs.contracts.values.ItemPartialEq.TheImpl as item_test

pid_decides : (p q : Pid) → Decides (pid_test.eq-value.it p q) (p ≡ q)
pid_decides pid.Null pid.Null = search rules
pid_decides pid.Null pid.Env = search rules
pid_decides pid.Null (pid.Inst t m) = search rules
pid_decides pid.Env pid.Null = search rules
pid_decides pid.Env pid.Env = search rules
pid_decides pid.Env (pid.Inst t m) = search rules
pid_decides (pid.Inst s n) pid.Null = search rules
pid_decides (pid.Inst s n) pid.Env = search rules
pid_decides (pid.Inst s n) (pid.Inst t m) = search rules

value_decides : (p q : Value) → Decides (value_test.eq-value.it p q) (p ≡ q)
value_decides (value.Integer a) (value.Integer b) = search rules
value_decides (value.Integer a) (value.Boolean b) = search rules
value_decides (value.Integer a) (value.Pid b) = search rules
value_decides (value.Boolean a) (value.Integer b) = search rules
value_decides (value.Boolean a) (value.Boolean b) = search rules
value_decides (value.Boolean a) (value.Pid b) = search rules
value_decides (value.Pid a) (value.Integer b) = search rules
value_decides (value.Pid a) (value.Boolean b) = search rules
value_decides (value.Pid a) (value.Pid b) = Decides-like (pid_test.eq-value.it a b) (λ e. ap value.Pid e) (λ e. cc) (pid_decides a b)

signal_of : ℕ → List Value → Signal
signal_of n values = record { id = record { 0 = n }; params = record { items = values } }

signal_decides : (p q : Signal) → Decides (signal_test.eq-value.it p q) (p ≡ q)
unfolding signal_of
signal_decides p q =
    Decides-like (signal_test.eq-value.it p q)
    (λ (e : (p.id.0 ≡ q.id.0) × (p.params.items ≡ q.params.items)). ap (λ (n : ℕ). signal_of n p.params.items) e.0 ∙ ap (λ (vs : List Value). signal_of q.id.0 vs) e.1)
    (λ (e : p ≡ q). (ap (λ (s : Signal). s.id.0) e, ap (λ (s : Signal). s.params.items) e))
    (Decides-and (eqb p.id.0 q.id.0) (pointwise value_test.eq-value.it p.params.items q.params.items) (Decides-eqb p.id.0 q.id.0) (slice_eq-Decides value_decides p.params.items q.params.items (pointwise value_test.eq-value.it p.params.items q.params.items) refl))

to_decides : (p q : Option Pid) → Decides (option_eq pid_test.eq-value.it p q) (p ≡ q)
to_decides None None = ((λ e. refl), (λ e. refl))
to_decides None (Some q) = ((λ e. absurd (false≢true e)), (λ e. cc))
to_decides (Some p) None = ((λ e. absurd (false≢true e)), (λ e. cc))
to_decides (Some p) (Some q) = Decides-like (pid_test.eq-value.it p q) (λ e. ap Some e) (λ e. cc) (pid_decides p q)

-- the parts of an item
abbrev AreSame : Item → Item → Type 0
AreSame p q =
    ((p.origin.worker ≡ q.origin.worker) × (p.origin.number ≡ q.origin.number))
    × ((p.stamp ≡ q.stamp) × ((p.signal ≡ q.signal) × ((p.sender ≡ q.sender) × ((p.to ≡ q.to) × (p.route.0 ≡ q.route.0)))))

item_of : ℕ → ℕ → ℕ → Signal → Pid → Option Pid → ℕ → Item
item_of w n s x p t r = record { origin = record { worker = w; number = n }; stamp = s; signal = x; sender = p; to = t; route = record { 0 = r } }

same_parts : (p q : Item) → AreSame p q → p ≡ q
unfolding item_of
same_parts p q e =
    ap (λ (w : ℕ). item_of w p.origin.number p.stamp p.signal p.sender p.to p.route.0) e.0.0
    ∙ (ap (λ (n : ℕ). item_of q.origin.worker n p.stamp p.signal p.sender p.to p.route.0) e.0.1
    ∙ (ap (λ (s : ℕ). item_of q.origin.worker q.origin.number s p.signal p.sender p.to p.route.0) e.1.0
    ∙ (ap (λ (x : Signal). item_of q.origin.worker q.origin.number q.stamp x p.sender p.to p.route.0) e.1.1.0
    ∙ (ap (λ (s : Pid). item_of q.origin.worker q.origin.number q.stamp q.signal s p.to p.route.0) e.1.1.1.0
    ∙ (ap (λ (t : Option Pid). item_of q.origin.worker q.origin.number q.stamp q.signal q.sender t p.route.0) e.1.1.1.1.0
    ∙ ap (λ (r : ℕ). item_of q.origin.worker q.origin.number q.stamp q.signal q.sender q.to r) e.1.1.1.1.1)))))

parts_same : (p q : Item) → p ≡ q → AreSame p q
parts_same p q e = (
  (ap (λ (i : Item). i.origin.worker) e, ap (λ (i : Item). i.origin.number) e),
  (ap (λ (i : Item). i.stamp) e, (ap (λ (i : Item). i.signal) e, (ap (λ (i : Item). i.sender) e, (ap (λ (i : Item). i.to) e, ap (λ (i : Item). i.route.0) e)))),
)

pub item_decides : (p q : Item) → Decides (item_test.eq-value.it p q) (p ≡ q)
item_decides p q =
    let to = option_eq pid_test.eq-value.it p.to q.to in
    let route = eqb p.route.0 q.route.0 in
    let sender = pid_test.eq-value.it p.sender q.sender in
    let signal = signal_test.eq-value.it p.signal q.signal in
    let stamp = eqb p.stamp q.stamp in
    let worker = eqb p.origin.worker q.origin.worker in
    let number = eqb p.origin.number q.origin.number in
    Decides-like (item_test.eq-value.it p q) (same_parts p q) (parts_same p q)
    (Decides-and (worker && number) (stamp && (signal && (sender && (to && route)))) (Decides-and worker number (Decides-eqb p.origin.worker q.origin.worker) (Decides-eqb p.origin.number q.origin.number))
    (Decides-and stamp (signal && (sender && (to && route))) (Decides-eqb p.stamp q.stamp)
    (Decides-and signal (sender && (to && route)) (signal_decides p.signal q.signal)
    (Decides-and sender (to && route) (pid_decides p.sender q.sender)
    (Decides-and to route (to_decides p.to q.to) (Decides-eqb p.route.0 q.route.0))))))

pub items_match : (b : Bool) (xs ys : List Item) → b ≡ pointwise item_test.eq-value.it xs ys → MatchBool b (xs ≡ ys) (xs ≢ ys)
items_match true xs ys e = (slice_eq-Decides item_decides xs ys true e).0 refl
items_match false xs ys e = λ same. false≢true ((slice_eq-Decides item_decides xs ys false e).1 same)
