-- A forwarder's step keeps what holds between two steps.
use Rattle.std.proofs.Common.{ℕ, List, [], ◌∷◌, ◌++◌, map, set, ◌≡◌, ◌≢◌, inl, inr, Some, slice_get, refl, ap, sym, ◌∙◌, subst}
use Rattle.std.specs.Option.{option_to_list}
use Rattle.std.proofs.lemmas.List.{append_assoc}
use Rattle.std.specs.List.{AllByRecursion}
use Rattle.sdl_signal.specs.declared.values.Item.{Item}
use Rattle.sdl_routes.specs.declared.route.Hop.{Hop}
use Rattle.sdl_routes.specs.declared.route.Station.{Station}
use Rattle.sdl_routes.specs.declared.route.Station.TheVariants.{Line, Inlet, Outlet}
use Rattle.sdl_routes.specs.Routes.{EachOnce}
use Rattle.sdl_transition_behaviour.specs.declared.step.Frame.{Frame}
use Rattle.sdl_transition_behaviour.specs.declared.step.Step.{Step}
use Rattle.sdl_forward.specs.Boards.{waiting, IsBoardOf}
use Rattle.sdl_forward.specs.Forwards.{Forwarding, Moves, Holds}
use Rattle.sdl_forward_opening.specs.declared.worker.Worker.{Worker}
use Rattle.sdl_run_outcome.specs.Stations.{IsAgent, taker}
use Rattle.sdl_run_outcome.specs.Books.{standing}
use Rattle.sdl_run_outcome.specs.Steps.{BringsOn, IsStill, IsUnchangedAt}
use Rattle.sdl_run_outcome.specs.Plan.{Plan, IsPlan, MayTravel, ways_of, lines_of}
use Rattle.sdl_run_order.specs.Driver.{Site, site_books, held_at, IsAtWork}
use Rattle.sdl_run_outcome.proofs.Comparisons.{cases_station}
use Rattle.sdl_run_outcome.proofs.Lists.{all_append, map_set}
use Rattle.sdl_run_outcome.proofs.Ways.{ways_are}
use Rattle.sdl_run_order.proofs.Keeps.{forwards_keeps, still_keeps}
use Rattle.sdl_run_order.proofs.ForwarderStep.{IsFirstAt, held_was, held_is, held_other, next_is}
use Rattle.sdl_run_outcome.proofs.Lines.{lines_once}
use Rattle.sdl_run_order.proofs.FirstAt.{first_at}

module _ (may : ℕ → Frame → Step → Type 0) (plan : Plan) (ok : IsPlan plan) (old : Site) (work : IsAtWork may plan old) (k : ℕ) (was is : Forwarding)
    (before : slice_get old.forwarders k ≡ Some was) (board : List (Station × List Item)) (complete : IsBoardOf plan.routes board) (same : is.hop ≡ was.hop) where
  -- the driver after the step
  abbrev then : Site
  then = record { blocks = old.blocks; environment = old.environment; forwarders = set old.forwarders k is; board = board }

  here : IsFirstAt old.forwarders k was.hop
  here = first_at old.forwarders k was (subst EachOnce (sym work.forwarders) (lines_once 0 plan.structure.channels)) before

  kept_was : held_at old.forwarders was.hop ≡ option_to_list was.held
  kept_was = held_was old.forwarders k was before here

  kept_is : held_at (set old.forwarders k is) was.hop ≡ option_to_list is.held
  kept_is = subst (λ (h : Hop). held_at (set old.forwarders k is) h ≡ option_to_list is.held) same (held_is old.forwarders k is (subst (IsFirstAt old.forwarders k) (sym same) here))

  kept_else : (s : Station) → s ≢ Line was.hop → (site_books then).kept (taker s) ≡ (site_books old).kept (taker s)
  kept_else (Line h) e = held_other old.forwarders k is h (subst (IsFirstAt old.forwarders k) (sym same) here) (λ f. e (ap Line (sym f ∙ same)))
  kept_else (Inlet b) e = refl
  kept_else Outlet e = refl

  quiet : (w : Worker) → IsAgent w → IsUnchangedAt w (site_books old) (site_books then)
  quiet w a = record { sent = refl; arrived = refl; outgoing = refl }

  hops_then : map (λ (f : Forwarding). f.hop) (set old.forwarders k is) ≡ lines_of plan
  hops_then = map_set (λ (f : Forwarding). f.hop) old.forwarders k was is before same ∙ work.forwarders

  module _ (moves : Moves plan.routes was old.board is board) where
    moved_takes : standing (site_books old) (Line was.hop) ≡ moves.item ∷ standing (site_books then) (Line was.hop)
    moved_takes =
        let e1 = kept_was in
        let e2 = kept_is in
        let e3 = ap (λ (f : Forwarding). option_to_list f.held) moves.emptied in
        let e4 = moves.first in
        cc

    moved_else : (s : Station) → s ≢ Line was.hop → s ≢ moves.to → standing (site_books then) s ≡ standing (site_books old) s
    moved_else s e f = ap (λ (xs : List Item). xs ++ waiting board s) (kept_else s e) ∙ ap (λ (xs : List Item). (site_books old).kept (taker s) ++ xs) (moves.others s e f)

    moved_puts : standing (site_books then) moves.to ≡ standing (site_books old) moves.to ++ moves.item ∷ []
    moved_puts =
        let e1 = kept_else moves.to moves.further in
        let e2 = moves.back in
        let e3 = append_assoc ((site_books old).kept (taker moves.to)) (waiting old.board moves.to) (moves.item ∷ []) in
        cc

    pub forwards : BringsOn (ways_of plan) was.hop (site_books old) (site_books then)
    forwards =
        record {
          item = moves.item;
          to = moves.to;
          goes = next_is plan was.hop moves.item ∙ moves.next;
          takes = moved_takes;
          puts = moved_puts;
          others = moved_else;
          agents = quiet;
        }

    -- the item that moved, and those behind it, may travel
    moved_from : MayTravel plan moves.item × AllByRecursion (MayTravel plan) (standing (site_books then) (Line was.hop))
    moved_from = subst (AllByRecursion (MayTravel plan)) moved_takes (work.waiting_legal (Line was.hop))

    moved_legal : (s : Station) → AllByRecursion (MayTravel plan) (standing (site_books then) s)
    moved_legal s = elim (cases_station s (Line was.hop)) [
      | inl e ↦ subst (λ (u : Station). AllByRecursion (MayTravel plan) (standing (site_books then) u)) (sym e) moved_from.1
      | inr e ↦ elim (cases_station s moves.to) [
        | inl f ↦ subst (λ (u : Station). AllByRecursion (MayTravel plan) (standing (site_books then) u)) (sym f)
            (subst (AllByRecursion (MayTravel plan)) (sym moved_puts) (all_append (MayTravel plan) (standing (site_books old) moves.to) (moves.item ∷ []) (work.waiting_legal moves.to) (moved_from.0, tt)))
        | inr f ↦ subst (AllByRecursion (MayTravel plan)) (sym (moved_else s e f)) (work.waiting_legal s)
      ]
    ]

    pub moves_keep : IsAtWork may plan then
    moves_keep =
        record {
          blocks = work.blocks;
          cores = work.cores;
          environment = work.environment;
          counted = work.counted;
          coming = work.coming;
          forwarders = hops_then;
          board = complete;
          order = forwards_keeps (ways_of plan) was.hop (site_books old) (site_books then) (ways_are plan ok) work.order forwards;
          waiting_legal = moved_legal;
          outgoing_legal = work.outgoing_legal;
        }

  module _ (holds : Holds was old.board is board) where
    stands : (s : Station) → standing (site_books then) s ≡ standing (site_books old) s
    stands s = elim (cases_station s (Line was.hop)) [
      | inl e ↦ subst (λ (u : Station). standing (site_books then) u ≡ standing (site_books old) u) (sym e)
          (let e1 = kept_was in let e2 = kept_is in let e3 = ap (λ (f : Forwarding). option_to_list f.held) holds.held in let e4 = holds.first in cc)
      | inr e ↦ ap (λ (xs : List Item). xs ++ waiting board s) (kept_else s e) ∙ ap (λ (xs : List Item). (site_books old).kept (taker s) ++ xs) (holds.others.others s e)
    ]

    pub still : IsStill (site_books old) (site_books then)
    still = record { stations = stands; agents = quiet }

    pub holds_keep : IsAtWork may plan then
    holds_keep =
        record {
          blocks = work.blocks;
          cores = work.cores;
          environment = work.environment;
          counted = work.counted;
          coming = work.coming;
          forwarders = hops_then;
          board = complete;
          order = still_keeps (ways_of plan) (site_books old) (site_books then) (ways_are plan ok) work.order still;
          waiting_legal = λ s. subst (AllByRecursion (MayTravel plan)) (sym (stands s)) (work.waiting_legal s);
          outgoing_legal = work.outgoing_legal;
        }
