-- What an audit answers, of what it found.
use Rattle.std.proofs.Common.{◌≡◌, ℕ, ◌<◌, arith, ◌++◌, Bool, true, false, Option, Some, None, Result, List, length, ap, sym, ◌∙◌, subst, MatchBool, MatchOption}
use Rattle.sdl_signal.specs.declared.values.Item.{Item}
use Rattle.sdl_signal.specs.declared.ids.RouteId.{RouteId}
use Rattle.sdl_routes.specs.declared.route.TableRow.{TableRow}
use Rattle.sdl_routes.specs.Routes.{EachOnce}
use Rattle.sdl_routes.specs.declared.route.Station.{Station}
use Rattle.sdl_queue.specs.declared.rest.Rest.{Rest}
use Rattle.sdl_queue.specs.Rest.{left_in}
use Rattle.sdl_forward.specs.Boards.{stations_of, lists_of}
use Rattle.sdl_forward_opening.proofs.Opened.{order_once}
use Rattle.sdl_run_outcome.specs.Books.{outs, came, left}
use Rattle.sdl_run_outcome.specs.Plan.{Plan, ways_of}
use Rattle.sdl_run_outcome.specs.Outcome.{Outcome, IsComplete, books_of}
use Rattle.sdl_run_ledger.specs.declared.ledger.Ledger.{Ledger}
use Rattle.sdl_run_audit.specs.declared.fault.AuditFault.{AuditFault}
use Rattle.sdl_run_audit.specs.Audits.{IsRightLedger, IsInOrder, Answers, verdict_of}
use Rattle.sdl_run_audit.proofs.Followed.{both}

module _ (plan : Plan) (o : Outcome) (l : Ledger) (sent found : ℕ → List Item)
    (output : (r : ℕ) → r < length plan.routes → sent r ≡ outs (ways_of plan) (books_of plan o) r)
    (is_found : (r : ℕ) → r < length plan.routes → found r ≡ came (ways_of plan) (books_of plan o) r ++ left (ways_of plan) (books_of plan o) r) where
  in_order : (r : ℕ) → r < length plan.routes → sent r ≡ found r → IsInOrder plan o r
  in_order r h e = sym (output r h) ∙ (e ∙ is_found r h)

  not_in_order : (r : ℕ) → r < length plan.routes → (sent r ≡ found r → ⊥) → IsInOrder plan o r → ⊥
  not_in_order r h n e = n (output r h ∙ (e ∙ sym (is_found r h)))

  pub answered : (first : Option RouteId) (right : Bool)
      → MatchOption first ((r : ℕ) → r < length plan.routes → sent r ≡ found r) (λ r. (r.0 < length plan.routes) × (sent r.0 ≡ found r.0 → ⊥) × ((s : ℕ) → s < r.0 → sent s ≡ found s))
      → MatchBool right (IsRightLedger o l) (IsRightLedger o l → ⊥) → Answers plan o l (verdict_of first right)
  answered (Some r) right f b = (f.0, not_in_order r.0 f.0 f.1, λ s h. let less : s < length plan.routes = omega (arith, h, f.0) in in_order s less (f.2 s h))
  answered None true f b = ((λ r h. in_order r h (f r h)), b)
  answered None false f b = ((λ r h. in_order r h (f r h)), b)

-- each station once
pub rests_once : (plan : Plan) (o : Outcome) (rests : List (Station × Rest)) → o.rests ≡ lists_of rests → IsComplete plan o → EachOnce (stations_of rests)
rests_once plan o rests e c =
    subst EachOnce (ap stations_of e ∙ both (λ (x : Station × List Item). x.0) (λ (r : Station × Rest). (r.0, left_in r.1)) rests) (order_once (stations_of o.rests) c.rests.order)

-- the first route at fault, among the routes that are those of the closing
pub found_there : (rows more : List TableRow) (first : Option RouteId) (sent found : ℕ → List Item) → more ≡ rows
    → MatchOption first ((r : ℕ) → r < length more → sent r ≡ found r) (λ r. (r.0 < length more) × (sent r.0 ≡ found r.0 → ⊥) × ((s : ℕ) → s < r.0 → sent s ≡ found s))
    → MatchOption first ((r : ℕ) → r < length rows → sent r ≡ found r) (λ r. (r.0 < length rows) × (sent r.0 ≡ found r.0 → ⊥) × ((s : ℕ) → s < r.0 → sent s ≡ found s))
found_there rows more first sent found e h =
    subst (λ (rs : List TableRow). MatchOption first ((r : ℕ) → r < length rs → sent r ≡ found r) (λ r. (r.0 < length rs) × (sent r.0 ≡ found r.0 → ⊥) × ((s : ℕ) → s < r.0 → sent s ≡ found s))) e h

-- the same outcome, of which the queues are others with the same items
pub other_rests : (plan : Plan) (o p : Outcome) (l : Ledger) (answer : Result (Unit {0}) AuditFault) → p ≡ o → Answers plan p l answer → Answers plan o l answer
other_rests plan o p l answer e h = subst (λ (x : Outcome). Answers plan x l answer) e h

pub still_complete : (plan : Plan) (o p : Outcome) → p ≡ o → IsComplete plan o → IsComplete plan p
still_complete plan o p e h = subst (IsComplete plan) (sym e) h
