-- A board as the queues of a worker. (This project's own.)
use Rattle.std.proofs.Common.{◌≡◌, ◌≢◌, List, [], ◌++◌, Contains, refl, ap, sym, ◌∙◌, subst, append_assoc, append-nil}
use Rattle.sdl_signal.specs.declared.values.Item.{Item}
use Rattle.sdl_routes.specs.declared.route.Station.{Station}
use Rattle.sdl_forward.specs.Boards.{stations_of, waiting}
use Rattle.sdl_forward.specs.Queues.{Relations, nothing, with_more}

abbrev pub Entries : Type 0
Entries = List (Station × List Item)

-- each item put is at the back of its station
pub record PutsOnBoard (put : Station → List Item) (old new : Entries) : Type 0 where
  pub each : (s : Station) → waiting new s ≡ waiting old s ++ put s
  pub stations : stations_of new ≡ stations_of old

-- and those taken are from the front of the worker's own
pub record MovesOnBoard (own : Station) (put : Station → List Item) (taken : List Item) (old new : Entries) : Type 0 where
  pub here : waiting old own ++ put own ≡ taken ++ waiting new own
  pub others : (s : Station) → s ≢ own → waiting new s ≡ waiting old s ++ put s
  pub stations : stations_of new ≡ stations_of old

pub still_moves : (own : Station) (a b : Entries) → b ≡ a → MovesOnBoard own nothing [] a b
still_moves own a b same =
    record {
      here = append-nil (waiting a own) ∙ ap (λ (x : Entries). waiting x own) (sym same);
      others = λ s other. ap (λ (x : Entries). waiting x s) same ∙ sym (append-nil (waiting a s));
      stations = ap (λ (x : Entries). stations_of x) same;
    }

-- what was, with what came, is what went, with what is: of two parts, one after the other
through : (was in1 out1 mid in2 out2 is : List Item) → was ++ in1 ≡ out1 ++ mid → mid ++ in2 ≡ out2 ++ is → was ++ (in1 ++ in2) ≡ (out1 ++ out2) ++ is
through was in1 out1 mid in2 out2 is h k =
    sym (append_assoc was in1 in2) ∙ ap (λ l. l ++ in2) h ∙ append_assoc out1 mid in2 ∙ ap (λ l. out1 ++ l) k ∙ sym (append_assoc out1 out2 is)

pub more_put : (put more : Station → List Item) (a b c : Entries) (s : Station) → waiting b s ≡ waiting a s ++ put s → waiting c s ≡ waiting b s ++ more s → waiting c s ≡ waiting a s ++ with_more put more s
more_put put more a b c s h k = k ∙ ap (λ l. l ++ more s) h ∙ append_assoc (waiting a s) (put s) (more s)

pub moves_then : (own : Station) (put : Station → List Item) (taken : List Item) (more : Station → List Item) (further : List Item) (a b c : Entries)
    → MovesOnBoard own put taken a b → MovesOnBoard own more further b c → MovesOnBoard own (with_more put more) (taken ++ further) a c
moves_then own put taken more further a b c h k =
    record {
      here = through (waiting a own) (put own) taken (waiting b own) (more own) further (waiting c own) h.here k.here;
      others = λ s other. more_put put more a b c s (h.others s other) (k.others s other);
      stations = k.stations ∙ h.stations;
    }

-- an item can be put at each station of the board
abbrev pub on_board : Relations Entries
on_board =
    record {
      CanPut = λ b s. Contains (stations_of b) s;
      Empty = λ b s. waiting b s ≡ [];
      Puts = PutsOnBoard;
      Moves = MovesOnBoard;
      Still = λ old new. new ≡ old;
      puts_none = λ b. record { each = λ s. sym (append-nil (waiting b s)); stations = refl };
      puts_then = λ put more a b c h k. record { each = λ s. more_put put more a b c s (h.each s) (k.each s); stations = k.stations ∙ h.stations };
      puts_move = λ own put a b h. record { here = sym (h.each own); others = λ s other. h.each s; stations = h.stations };
      moves_then = moves_then;
      still_same = λ b. refl;
      still_then = λ a b c h k. k ∙ h;
      still_moves = still_moves;
      empty_before = λ a b s same none. subst (λ (x : Entries). waiting x s ≡ []) same none;
      can_still = λ own put taken a b s h can. subst (λ (ss : List Station). Contains ss s) (sym h.stations) can;
    }
