-- Each delaying path stands once among those of a structure, and they stand by the numbers of their channels.
use Rattle.std.proofs.Common.{ℕ, zero, suc, ◌+◌, ◌<◌, ◌≤◌, Bool, true, false, cond, List, [], ◌∷◌, ◌++◌, length, get_or, ◌≡◌, ◌≢◌, refl, ap, sym, ◌∙◌, arith}
use Rattle.std.specs.List.{AllByRecursion}
use Rattle.std.specs.List.Sorted.{IsNonDecreasingBy}
use Rattle.std.proofs.lemmas.Bool.{cond_both, false≢true}
use Rattle.sdl_signal.specs.declared.ids.SignalId.{SignalId}
use Rattle.sdl_structure_parts.specs.declared.parts.Channel.{Channel}
use Rattle.sdl_routes.specs.declared.route.Hop.{Hop}
use Rattle.sdl_routes.specs.Routes.{EachOnce}
use Rattle.sdl_run_outcome.specs.Plan.{delaying_path, delaying_from}
use Rattle.sdl_run_outcome.proofs.Lists.{all_append, all_weaker}

-- the paths of one channel
abbrev lines_at : ℕ → Channel → List Hop
lines_at n c = cond c.nodelay [] (delaying_path n false c.forth.items ++ delaying_path n true c.back.items)

path_at : (n : ℕ) (back : Bool) (xs : List SignalId) → AllByRecursion (λ (h : Hop). (h.channel.0 ≡ n) × (h.back ≡ back)) (delaying_path n back xs)
path_at n back [] = tt
path_at n back (x ∷ xs) = ((refl, refl), tt)

lines_at_are : (n : ℕ) (c : Channel) → AllByRecursion (λ (h : Hop). h.channel.0 ≡ n) (lines_at n c)
lines_at_are n c =
    cond_both c.nodelay [] (delaying_path n false c.forth.items ++ delaying_path n true c.back.items) (AllByRecursion (λ (h : Hop). h.channel.0 ≡ n)) (λ e. tt)
    (λ e. all_append (λ (h : Hop). h.channel.0 ≡ n) (delaying_path n false c.forth.items) (delaying_path n true c.back.items)
    (all_weaker (λ (h : Hop). (h.channel.0 ≡ n) × (h.back ≡ false)) (λ (h : Hop). h.channel.0 ≡ n) (λ h p. p.0) (delaying_path n false c.forth.items) (path_at n false c.forth.items))
    (all_weaker (λ (h : Hop). (h.channel.0 ≡ n) × (h.back ≡ true)) (λ (h : Hop). h.channel.0 ≡ n) (λ h p. p.0) (delaying_path n true c.back.items) (path_at n true c.back.items)))

lines_above : (n : ℕ) (cs : List Channel) → AllByRecursion (λ (h : Hop). n ≤ h.channel.0) (delaying_from n cs)
lines_above n [] = tt
lines_above n (c ∷ cs) =
    all_append (λ (h : Hop). n ≤ h.channel.0) (lines_at n c) (delaying_from (n + 1) cs)
    (all_weaker (λ (h : Hop). h.channel.0 ≡ n) (λ (h : Hop). n ≤ h.channel.0) (λ h e. omega arith) (lines_at n c) (lines_at_are n c))
    (all_weaker (λ (h : Hop). n + 1 ≤ h.channel.0) (λ (h : Hop). n ≤ h.channel.0) (λ h e. omega arith) (delaying_from (n + 1) cs) (lines_above (n + 1) cs))

-- two lists, each of elements that stand once, and none of the first in the second
once_both : (P Q : Hop → Type 0) → ((h k : Hop) → P h → Q k → h ≡ k → ⊥) → (xs ys : List Hop) → AllByRecursion P xs → AllByRecursion Q ys → EachOnce xs → EachOnce ys → EachOnce (xs ++ ys)
once_both P Q apart [] ys p q o u = u
once_both P Q apart (x ∷ xs) ys p q o u =
    (all_append (λ y. x ≢ y) xs ys o.0 (all_weaker Q (λ y. x ≢ y) (λ y qy e. apart x y p.0 qy e) ys q), once_both P Q apart xs ys p.1 q o.1 u)

path_once : (n : ℕ) (back : Bool) (xs : List SignalId) → EachOnce (delaying_path n back xs)
path_once n back [] = tt
path_once n back (x ∷ xs) = (tt, tt)

lines_at_once : (n : ℕ) (c : Channel) → EachOnce (lines_at n c)
lines_at_once n c =
    cond_both c.nodelay [] (delaying_path n false c.forth.items ++ delaying_path n true c.back.items) EachOnce (λ e. tt)
    (λ e. once_both (λ (h : Hop). (h.channel.0 ≡ n) × (h.back ≡ false)) (λ (h : Hop). (h.channel.0 ≡ n) × (h.back ≡ true))
    (λ h k p q same. false≢true (sym p.1 ∙ (ap (λ (x : Hop). x.back) same ∙ q.1)))
    (delaying_path n false c.forth.items) (delaying_path n true c.back.items) (path_at n false c.forth.items) (path_at n true c.back.items) (path_once n false c.forth.items) (path_once n true c.back.items))

pub lines_once : (n : ℕ) (cs : List Channel) → EachOnce (delaying_from n cs)
lines_once n [] = tt
lines_once n (c ∷ cs) =
    once_both (λ (h : Hop). h.channel.0 ≡ n) (λ (h : Hop). n + 1 ≤ h.channel.0) (λ h k p q same. let e = ap (λ (x : Hop). x.channel.0) same in omega arith)
    (lines_at n c) (delaying_from (n + 1) cs) (lines_at_are n c) (lines_above (n + 1) cs) (lines_at_once n c) (lines_once (n + 1) cs)

-- no path's channel is lower than that of one before it
abbrev pub Rise : List Hop → Type 0
Rise [] = Unit {0}
Rise (h ∷ hs) = AllByRecursion (λ (k : Hop). h.channel.0 ≤ k.channel.0) hs × Rise hs

-- two lists, the first of paths of one channel, and the second of such as are no lower
rise_both : (n : ℕ) (xs ys : List Hop) → AllByRecursion (λ (h : Hop). h.channel.0 ≡ n) xs → AllByRecursion (λ (h : Hop). n ≤ h.channel.0) ys → Rise ys → Rise (xs ++ ys)
rise_both n [] ys p q r = r
rise_both n (x ∷ xs) ys p q r = (
  all_append (λ (k : Hop). x.channel.0 ≤ k.channel.0) xs ys
      (all_weaker (λ (k : Hop). k.channel.0 ≡ n) (λ (k : Hop). x.channel.0 ≤ k.channel.0) (λ k e. omega (arith, p.0)) xs p.1)
      (all_weaker (λ (k : Hop). n ≤ k.channel.0) (λ (k : Hop). x.channel.0 ≤ k.channel.0) (λ k e. omega (arith, p.0)) ys q),
  rise_both n xs ys p.1 q r,
)

pub lines_rise : (n : ℕ) (cs : List Channel) → Rise (delaying_from n cs)
lines_rise n [] = tt
lines_rise n (c ∷ cs) =
    rise_both n (lines_at n c) (delaying_from (n + 1) cs) (lines_at_are n c)
    (all_weaker (λ (h : Hop). n + 1 ≤ h.channel.0) (λ (h : Hop). n ≤ h.channel.0) (λ h e. omega arith) (delaying_from (n + 1) cs) (lines_above (n + 1) cs))
    (lines_rise (n + 1) cs)

above_at : (m : ℕ) (hs : List Hop) → AllByRecursion (λ (k : Hop). m ≤ k.channel.0) hs → (j : ℕ) (d : Hop) → j < length hs → m ≤ (get_or hs j d).channel.0
above_at m [] p j d less = absurd (omega arith)
above_at m (h ∷ hs) p zero d less = p.0
above_at m (h ∷ hs) p (suc j) d less = above_at m hs p.1 j d (omega arith)

-- the same by their places
pub rise_by_channel : (hs : List Hop) → Rise hs → IsNonDecreasingBy (λ (h : Hop). h.channel.0) hs
rise_by_channel [] r i j d le less = absurd (omega arith)
rise_by_channel (h ∷ hs) r zero zero d le less = omega arith
rise_by_channel (h ∷ hs) r zero (suc j) d le less = above_at h.channel.0 hs r.0 j d (omega arith)
rise_by_channel (h ∷ hs) r (suc i) zero d le less = absurd (omega arith)
rise_by_channel (h ∷ hs) r (suc i) (suc j) d le less = rise_by_channel hs r.1 i j d (omega arith) (omega arith)
