-- Totals that were added up, beside those that a ledger says.
use Rattle.std.proofs.Common.{◌≡◌, ℕ, ◌^◌, ◌<◌, Bool, true, false, ◌&&◌, eqb, refl, sym, ◌∙◌, arith, Decides, MatchBool}
use Rattle.std.proofs.lemmas.Bool.{false≢true}
use Rattle.std.proofs.lemmas.Bool.Decides.{Decides-eqb, Decides-and}
use Rattle.sdl_run_ledger.specs.declared.ledger.Ledger.{Ledger}
use Rattle.sdl_run_recount.specs.declared.totals.Totals.{Totals}
use Rattle.sdl_run_recount.specs.contracts.totals.TotalsPartialEq.TheImpl as test
use Rattle.sdl_run_recount.specs.Totals.{no_totals, grown, AddsUpTo, AreTotalsOf, HaveSameCounts}

-- sum by sum they are the same
abbrev AreSame : Totals → Totals → Type 0
AreSame t u = (t.output ≡ u.output) × ((t.no_route ≡ u.no_route) × ((t.entered ≡ u.entered) × ((t.no_instance ≡ u.no_instance) × ((t.gone ≡ u.gone) × ((t.left ≡ u.left) × ((t.fired ≡ u.fired) × ((t.implicit ≡ u.implicit) × (t.stopped ≡ u.stopped))))))))

abbrev all_same : Totals → Totals → Bool
all_same t u = eqb t.output u.output && (eqb t.no_route u.no_route && (eqb t.entered u.entered && (eqb t.no_instance u.no_instance && (eqb t.gone u.gone && (eqb t.left u.left && (eqb t.fired u.fired && (eqb t.implicit u.implicit && eqb t.stopped u.stopped)))))))

sums_decide : (t u : Totals) → Decides (all_same t u) (AreSame t u)
sums_decide t u =
    Decides-and (eqb t.output u.output) (eqb t.no_route u.no_route && (eqb t.entered u.entered && (eqb t.no_instance u.no_instance && (eqb t.gone u.gone && (eqb t.left u.left && (eqb t.fired u.fired && (eqb t.implicit u.implicit && eqb t.stopped u.stopped))))))) (Decides-eqb t.output u.output) (Decides-and (eqb t.no_route u.no_route) (eqb t.entered u.entered && (eqb t.no_instance u.no_instance && (eqb t.gone u.gone && (eqb t.left u.left && (eqb t.fired u.fired && (eqb t.implicit u.implicit && eqb t.stopped u.stopped)))))) (Decides-eqb t.no_route u.no_route) (Decides-and (eqb t.entered u.entered) (eqb t.no_instance u.no_instance && (eqb t.gone u.gone && (eqb t.left u.left && (eqb t.fired u.fired && (eqb t.implicit u.implicit && eqb t.stopped u.stopped))))) (Decides-eqb t.entered u.entered) (Decides-and (eqb t.no_instance u.no_instance) (eqb t.gone u.gone && (eqb t.left u.left && (eqb t.fired u.fired && (eqb t.implicit u.implicit && eqb t.stopped u.stopped)))) (Decides-eqb t.no_instance u.no_instance) (Decides-and (eqb t.gone u.gone) (eqb t.left u.left && (eqb t.fired u.fired && (eqb t.implicit u.implicit && eqb t.stopped u.stopped))) (Decides-eqb t.gone u.gone) (Decides-and (eqb t.left u.left) (eqb t.fired u.fired && (eqb t.implicit u.implicit && eqb t.stopped u.stopped)) (Decides-eqb t.left u.left) (Decides-and (eqb t.fired u.fired) (eqb t.implicit u.implicit && eqb t.stopped u.stopped) (Decides-eqb t.fired u.fired) (Decides-and (eqb t.implicit u.implicit) (eqb t.stopped u.stopped) (Decides-eqb t.implicit u.implicit) (Decides-eqb t.stopped u.stopped))))))))

tested : (t u : Totals) → test.eq-value.it t u ≡ all_same t u
tested t u = refl

-- sums that have grown to counts of 64 bits
count_is : (sum n c u : ℕ) → sum ≡ grown 0 n → (u ≡ c) × (u < 2 ^ 64) → n ≡ c → sum ≡ u
count_is sum n c u e f g = let h = f.0 in let k = f.1 in omega arith

is_same : (t u n c : ℕ) → t ≡ u → t ≡ grown 0 n → (u ≡ c) × (u < 2 ^ 64) → n ≡ c
is_same t u n c e f g = let h = g.0 in let k = g.1 in omega arith

pub compared : (b : Bool) (t u : Totals) (l m : Ledger) → b ≡ test.eq-value.it t u → AreTotalsOf m u → AddsUpTo no_totals l t → MatchBool b (HaveSameCounts l m) (HaveSameCounts l m → ⊥)
compared true t u l m e are adds =
    let f : AreSame t u = (sums_decide t u).0 (sym (e ∙ tested t u)) in
    record {
      output = is_same t.output u.output l.output m.output f.0 adds.output are.output;
      no_route = is_same t.no_route u.no_route l.no_route m.no_route f.1.0 adds.no_route are.no_route;
      entered = is_same t.entered u.entered l.entered m.entered f.1.1.0 adds.entered are.entered;
      no_instance = is_same t.no_instance u.no_instance l.no_instance m.no_instance f.1.1.1.0 adds.no_instance are.no_instance;
      gone = is_same t.gone u.gone l.gone m.gone f.1.1.1.1.0 adds.gone are.gone;
      left = is_same t.left u.left l.left m.left f.1.1.1.1.1.0 adds.left are.left;
      fired = is_same t.fired u.fired l.fired m.fired f.1.1.1.1.1.1.0 adds.fired are.fired;
      implicit = is_same t.implicit u.implicit l.implicit m.implicit f.1.1.1.1.1.1.1.0 adds.implicit are.implicit;
      stopped = is_same t.stopped u.stopped l.stopped m.stopped f.1.1.1.1.1.1.1.1 adds.stopped are.stopped;
    }
compared false t u l m e are adds =
    λ same. false≢true (e ∙ (tested t u ∙ (sums_decide t u).1 (count_is t.output l.output m.output u.output adds.output are.output same.output, (count_is t.no_route l.no_route m.no_route u.no_route adds.no_route are.no_route same.no_route, (count_is t.entered l.entered m.entered u.entered adds.entered are.entered same.entered, (count_is t.no_instance l.no_instance m.no_instance u.no_instance adds.no_instance are.no_instance same.no_instance, (count_is t.gone l.gone m.gone u.gone adds.gone are.gone same.gone, (count_is t.left l.left m.left u.left adds.left are.left same.left, (count_is t.fired l.fired m.fired u.fired adds.fired are.fired same.fired, (count_is t.implicit l.implicit m.implicit u.implicit adds.implicit are.implicit same.implicit, count_is t.stopped l.stopped m.stopped u.stopped adds.stopped are.stopped same.stopped))))))))))
