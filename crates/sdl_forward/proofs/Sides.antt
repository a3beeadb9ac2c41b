-- A step over any queues, told of a board and of a worker's own ends.
use Rattle.std.proofs.Common.{◌≡◌, ◌≢◌, cond, Bool, List, [], ◌∷◌, ◌++◌, ◌⊎◌, inl, inr, Option, Some, None, refl, ap, sym, ◌∙◌, subst, append-nil}
use Rattle.std.specs.Option.{option_to_list}
use Rattle.std.specs.Prelude.{MatchOption}
use Rattle.sdl_signal.specs.declared.values.Item.{Item}
use Rattle.sdl_routes.specs.declared.route.TableRow.{TableRow}
use Rattle.sdl_routes.specs.declared.route.Station.{Station}
use Rattle.sdl_routes.specs.declared.route.Station.TheVariants.{Line}
use Rattle.sdl_forward_ends.specs.Ends.{WorkerEnds, IsSameEnds, put_at, taken_by}
use Rattle.sdl_forward.specs.declared.forwarder.Forwarded.{Forwarded}
use Rattle.sdl_forward.specs.declared.forwarder.Forwarded.TheVariants.{Moved, Idle, Held}
use Rattle.sdl_forward.specs.Boards.{stations_of, waiting, IsBoardOf, AreAllStations}
use Rattle.sdl_forward.specs.Queues.{Relations, Fills, nothing, one_at}
use Rattle.sdl_forward.specs.OnBoard.{Entries, on_board}
use Rattle.sdl_forward.specs.ByEnds.{by_ends}
use Rattle.sdl_forward.specs.Forwards.{Forwarding, Forwards, standing}
use Rattle.sdl_forward.specs.Carries.{Carries, Takes}
use Rattle.sdl_forward.specs.StepsBy.{StepsBy}
use Rattle.sdl_forward.proofs.Onward.{next_other}
use Rattle.sdl_forward.proofs.Same.{same_station_itself, other_station}

-- one item is put at its station, and none elsewhere

at_it : (s : Station) (item : Item) → one_at s item s ≡ item ∷ []
at_it s item = ap (λ (b : Bool). cond b (item ∷ []) []) (same_station_itself s)

elsewhere : (s t : Station) (item : Item) → t ≢ s → one_at s item t ≡ []
elsewhere s t item other = ap (λ (b : Bool). cond b (item ∷ []) []) (other_station s t (λ e. other (sym e)))

-- what was held, or else was taken, and then something was put
abbrev pub Went : {B : Type 0} → Relations B → Station → Option Item → (Station → List Item) → B → Item → B → Type 0
Went q own held put old item new = ((held ≡ Some item) × q.Moves own put [] old new) ⊎ ((held ≡ None) × q.Moves own put (item ∷ []) old new)

module _ {B : Type 0} (q : Relations B) (own : Station) (held : Option Item) (old : B) (item : Item) (mid : B) where
  went : (new : B) (put : Station → List Item) → Fills q own held old item mid → q.Puts put mid new → Went q own held put old item new
  went new put (inl (is, same)) puts = inl (is, subst (λ (b : B). q.Moves own put [] b new) same (q.puts_move own put mid new puts))
  went new put (inr (none, took)) puts = inr (none, q.moves_then own nothing (item ∷ []) put [] old mid new took (q.puts_move own put mid new puts))

  -- where it could put before, it can
  pub can_filled : Fills q own held old item mid → (s : Station) → q.CanPut old s → q.CanPut mid s
  can_filled (inl (is, same)) s can = subst (λ (b : B). q.CanPut b s) (sym same) can
  can_filled (inr (none, took)) s can = q.can_still own nothing (item ∷ []) old mid s took can

  went_still : (new : B) → Fills q own held old item mid → (new ≡ mid) ⊎ q.Puts nothing mid new → Went q own held nothing old item new
  went_still new fills (inl same) = went new nothing fills (subst (q.Puts nothing mid) (sym same) (q.puts_none mid))
  went_still new fills (inr puts) = went new nothing fills puts

-- what a forwarder has to put
pub filled_so : {B : Type 0} (q : Relations B) (was : Forwarding) (slot : Option Item) (N : Type 0) (old : B) (item : Item) (mid : B)
    → MatchOption slot N (λ i. Fills q (Line was.hop) was.held old i mid) → slot ≡ Some item → Fills q (Line was.hop) was.held old item mid
filled_so q was slot N old item mid filled is = subst (λ (o : Option Item). MatchOption o N (λ i. Fills q (Line was.hop) was.held old i mid)) is filled

-- a step on a board

-- what it held, or took, stood first
stood : (was : Forwarding) (put : Station → List Item) (old : Entries) (item : Item) (new : Entries) → Went on_board (Line was.hop) was.held put old item new → put (Line was.hop) ≡ [] → standing was old ≡ item ∷ waiting new (Line was.hop)
stood was put old item new (inl (held, moves)) none =
    ap (λ (o : Option Item). option_to_list o ++ waiting old (Line was.hop)) held
    ∙ ap (λ l. item ∷ l) (sym (append-nil (waiting old (Line was.hop))) ∙ ap (λ l. waiting old (Line was.hop) ++ l) (sym none) ∙ moves.here)
stood was put old item new (inr (held, moves)) none =
    ap (λ (o : Option Item). option_to_list o ++ waiting old (Line was.hop)) held
    ∙ sym (append-nil (waiting old (Line was.hop))) ∙ ap (λ l. waiting old (Line was.hop) ++ l) (sym none) ∙ moves.here

others_then : (own : Station) (held : Option Item) (put : Station → List Item) (old : Entries) (item : Item) (new : Entries) → Went on_board own held put old item new
    → (stations_of new ≡ stations_of old) × ((s : Station) → s ≢ own → waiting new s ≡ waiting old s ++ put s)
others_then own held put old item new (inl (is, moves)) = (moves.stations, moves.others)
others_then own held put old item new (inr (is, moves)) = (moves.stations, moves.others)

pub forwards_so : (rows : List TableRow) (was : Forwarding) (old : Entries) (answer : Forwarded) (is : Forwarding) (new : Entries) → StepsBy on_board rows was old answer is new → Forwards rows was old answer is new
forwards_so rows was old Moved is new (item, to, mid, fills, next, table, puts, emptied) =
    let so = went on_board (Line was.hop) was.held old item mid new (one_at to item) fills puts in
    let further = next_other rows (Line was.hop) item to table next in
    let others = (others_then (Line was.hop) was.held (one_at to item) old item new so).1 in
    record {
      item = item;
      to = to;
      first = stood was (one_at to item) old item new so (elsewhere to (Line was.hop) item (λ e. further (sym e)));
      next = next;
      further = further;
      back = others to further ∙ ap (λ l. waiting old to ++ l) (at_it to item);
      others = λ s not_line not_to. others s not_line ∙ ap (λ l. waiting old s ++ l) (elsewhere to s item not_to) ∙ append-nil (waiting old s);
      emptied = emptied;
    }
forwards_so rows was old Held is new (item, mid, fills, still, held) =
    let so = went_still on_board (Line was.hop) was.held old item mid new fills still in
    let others = others_then (Line was.hop) was.held nothing old item new so in
    record {
      item = item;
      first = stood was nothing old item new so refl;
      held = held;
      others = record { stations = others.0; others = λ s not_line. others.1 s not_line ∙ append-nil (waiting old s) };
    }
forwards_so rows was old Idle is new (none, same, empty, emptied) =
    record { held = none; empty = empty; forwarder = emptied ∙ ap (λ (o : Option Item). record { hop = was.hop; held = o }) (sym none); board = same }

same_stations : (rows : List TableRow) (was : Forwarding) (old : Entries) (answer : Forwarded) (is : Forwarding) (new : Entries) → StepsBy on_board rows was old answer is new → stations_of new ≡ stations_of old
same_stations rows was old Moved is new (item, to, mid, fills, next, table, puts, emptied) =
    (others_then (Line was.hop) was.held (one_at to item) old item new (went on_board (Line was.hop) was.held old item mid new (one_at to item) fills puts)).0
same_stations rows was old Held is new (item, mid, fills, still, held) =
    (others_then (Line was.hop) was.held nothing old item new (went_still on_board (Line was.hop) was.held old item mid new fills still)).0
same_stations rows was old Idle is new (none, same, empty, emptied) = ap (λ (b : Entries). stations_of b) same

pub board_still : (rows : List TableRow) (was : Forwarding) (old : Entries) (answer : Forwarded) (is : Forwarding) (new : Entries) → StepsBy on_board rows was old answer is new → IsBoardOf rows old → IsBoardOf rows new
board_still rows was old answer is new steps board = subst (AreAllStations rows) (sym (same_stations rows was old answer is new steps)) board

-- a step by ends

takes_so : (was : Forwarding) (put : Station → List Item) (old : WorkerEnds) (item : Item) (new : WorkerEnds) → Went by_ends (Line was.hop) was.held put old item new → Takes was old item new
takes_so was put old item new (inl (is, moves)) = inl (is, moves.takes ∙ append-nil (taken_by old))
takes_so was put old item new (inr (is, moves)) = inr (is, moves.takes)

puts_so : (own : Station) (held : Option Item) (put : Station → List Item) (old : WorkerEnds) (item : Item) (new : WorkerEnds) → Went by_ends own held put old item new
    → IsSameEnds old new × ((s : Station) → put_at new s ≡ put_at old s ++ put s)
puts_so own held put old item new (inl (is, moves)) = (moves.same, moves.each)
puts_so own held put old item new (inr (is, moves)) = (moves.same, moves.each)

pub carries_so : (rows : List TableRow) (was : Forwarding) (old : WorkerEnds) (answer : Forwarded) (is : Forwarding) (new : WorkerEnds) → StepsBy by_ends rows was old answer is new
    → Carries rows was old answer is new × IsSameEnds old new
carries_so rows was old Moved is new (item, to, mid, fills, next, table, puts, emptied) =
    let so = went by_ends (Line was.hop) was.held old item mid new (one_at to item) fills puts in
    let (same, each) = puts_so (Line was.hop) was.held (one_at to item) old item new so in (
      record {
        item = item;
        to = to;
        takes = takes_so was (one_at to item) old item new so;
        next = next;
        puts = each to ∙ ap (λ l. put_at old to ++ l) (at_it to item);
        others = λ s other. each s ∙ ap (λ l. put_at old s ++ l) (elsewhere to s item other) ∙ append-nil (put_at old s);
        emptied = emptied;
      },
      same,
    )
carries_so rows was old Held is new (item, mid, fills, still, held) =
    let so = went_still by_ends (Line was.hop) was.held old item mid new fills still in
    let (same, each) = puts_so (Line was.hop) was.held nothing old item new so in
    (record { item = item; takes = takes_so was nothing old item new so; held = held; puts = λ s. each s ∙ append-nil (put_at old s) }, same)
carries_so rows was old Idle is new (none, still, empty, emptied) = (
  record {
    held = none;
    forwarder = emptied ∙ ap (λ (o : Option Item). record { hop = was.hop; held = o }) (sym none);
    taken = still.takes ∙ append-nil (taken_by old);
    puts = λ s. still.each s ∙ append-nil (put_at old s);
  },
  still.same,
)
