use Rattle.std.proofs.Common.{true, false, ◌≡◌, ◌≢◌, ℕ, ◌+◌, ◌*◌, ◌<◌, List, [], ◌∷◌, ◌++◌, length, ap, sym, subst, arith, add-one}
use Rattle.sdl_routes.specs.declared.route.TableRow.{TableRow}
use Rattle.sdl_routes.specs.Routes.{place, row_place, IsRoute}
use Rattle.sdl_routes.specs.Found.{place_behind, HasFound}
use Rattle.sdl_routes.proofs.Found.{found_enter, found_leave}
use Rattle.sdl_routes.proofs.Walks.{no_empty, numbers_below, first_skipped, first_taken}
use Rattle.sdl_routes.proofs.Collecting.{collected_moves, all_counted, all_kept}
use Rattle.sdl_routes.proofs.search.all_routes.Goals as goal
use Rattle.sdl_routes.proofs.search.all_routes.Goals.{then-may_start+then-carries+in_ok-extend, else-may_start, else-may_start-via-then-may_start+else-carries, else-may_start-via-else-may_start}

pub loop-number-init : goal.loop-number-init
loop-number-init c =
    let s = c.args.structure.now in
    let x : ℕ = c.loop-signal_number.signal_number in
    collected_moves s (x ∷ []) (x ∷ 0 ∷ []) c.loop-signal_number.collected
    (λ rows h. found_enter s (x ∷ []) rows (λ row route. no_empty s x row route) h) c.loop-signal_number.invariant

pub loop-number-preserved : goal.loop-number-preserved
loop-number-preserved c =
    let s = c.args.structure.now in
    let x : ℕ = c.loop-signal_number.signal_number in
    let n : ℕ = c.loop-number.number in
    let hop = c.numbered-hop.result in
    elim c.if-may_start.branch [
      | then-may_start+then-carries+in_ok-extend w ↦
          rw w.collected-is (collected_moves s (place_behind (place (record { 0 = x }) (hop ∷ []))) (x ∷ (n + 1) ∷ []) w.extend.new.collected
          (λ rows h. first_taken s (record { 0 = x }) hop n rows c.numbered-hop.ensures h) w.in_ok-extend.ensures.found)
      | else-may_start w ↦
          elim w.else-may_start.branch [
            | else-may_start-via-then-may_start+else-carries w' ↦
                rw w.collected-is (collected_moves s (x ∷ n ∷ []) (x ∷ (n + 1) ∷ []) c.loop-number.collected
                (λ rows h. first_skipped s (record { 0 = x }) hop n rows (λ (may, carries). let e : false ≡ true = w'.if-carries.ensures.1 carries in cc) c.numbered-hop.ensures h)
                c.loop-number.invariant)
            | else-may_start-via-else-may_start w' ↦
                rw w.collected-is (collected_moves s (x ∷ n ∷ []) (x ∷ (n + 1) ∷ []) c.loop-number.collected
                (λ rows h. first_skipped s (record { 0 = x }) hop n rows (λ (may, carries). let e : false ≡ true = w'.if-may_start.ensures.1 may in cc) c.numbered-hop.ensures h)
                c.loop-number.invariant)
          ]
    ]

pub loop-signal_number-preserved : goal.loop-signal_number-preserved
loop-signal_number-preserved c =
    let s = c.args.structure.now in
    let x : ℕ = c.loop-signal_number.signal_number in
    let e : length c.channels.result.now ≡ length s.channels = ap length c.channels.ensures in
    let end : c.loop-number.number ≡ 2 * length s.channels = omega arith in
    let none : (row : TableRow) → IsRoute s row → row_place row ≢ x ∷ [] = λ row route. no_empty s x row route in
    let below : (row : TableRow) (n : ℕ) (rest : List ℕ) → IsRoute s row → row_place row ≡ (x ∷ []) ++ n ∷ rest → n < 2 * length s.channels =
    λ row n rest route e. numbers_below s x [] row n rest route e in
    collected_moves s (x ∷ c.loop-number.number ∷ []) ((x + 1) ∷ []) c.loop-number.collected
    (λ rows h.
    let left : HasFound s (place_behind (x ∷ [])) rows =
    found_leave s x [] (2 * length s.channels) rows none below (subst (λ (n : ℕ). HasFound s (x ∷ n ∷ []) rows) end h) in
    subst (λ (n : ℕ). HasFound s (n ∷ []) rows) (sym (add-one x)) left)
    c.loop-number.invariant

pub returns-then-collected-clause-too_many : goal.returns-then-collected-clause-too_many
returns-then-collected-clause-too_many c =
    let e : length c.signals-signals.result.now ≡ length c.args.structure.now.signals = ap length c.signals-signals.ensures in
    let end : c.loop-signal_number.signal_number ≡ length c.args.structure.now.signals = omega arith in
    ((λ e. cc), (λ many. absurd (all_counted c.args.structure.now c.requires.structure c.loop-signal_number.signal_number c.loop-signal_number.collected end c.loop-signal_number.invariant many)))

pub returns-clause-ok : goal.returns-clause-ok
returns-clause-ok c =
    let e : length c.signals-signals.result.now ≡ length c.args.structure.now.signals = ap length c.signals-signals.ensures in
    let end : c.loop-signal_number.signal_number ≡ length c.args.structure.now.signals = omega arith in
    all_kept c.args.structure.now c.requires.structure c.loop-signal_number.signal_number c.loop-signal_number.collected end c.if-collected.false c.loop-signal_number.invariant

pub returns-clause-too_many : goal.returns-clause-too_many
returns-clause-too_many c =
    let e : length c.signals-signals.result.now ≡ length c.args.structure.now.signals = ap length c.signals-signals.ensures in
    let end : c.loop-signal_number.signal_number ≡ length c.args.structure.now.signals = omega arith in
    ((λ e. cc), (λ many. absurd (all_counted c.args.structure.now c.requires.structure c.loop-signal_number.signal_number c.loop-signal_number.collected end c.loop-signal_number.invariant many)))
