-- A step of the environment on a board: what it sends, and then what it receives.
use Rattle.std.proofs.Common.{◌≡◌, ◌≢◌, ℕ, ◌≤◌, Bool, true, false, ◌||◌, Result, Ok, Err, List, [], ◌∷◌, ◌++◌, Option, All, length, refl, ap, sym, ◌∙◌, subst, append-nil, true≢false, arith}
use Rattle.std.specs.Result.{IsErr}
use Rattle.std.proofs.lemmas.List.Elements.{All-append, All-from_recursion, recursion_from_All}
use Rattle.sdl_signal.specs.declared.values.Item.{Item}
use Rattle.sdl_signal.specs.declared.ends.OutputEnd.{OutputEnd}
use Rattle.sdl_signal.specs.Names.{Lexicon}
use Rattle.sdl_structure_parts.specs.Structure.{Structure, lexicon_of}
use Rattle.sdl_routes.specs.Routes.{AreRoutesOf}
use Rattle.sdl_routes.specs.declared.route.TableRow.{TableRow}
use Rattle.sdl_routes.specs.declared.route.Station.{Station}
use Rattle.sdl_routes.specs.declared.route.Station.TheVariants.{Outlet}
use Rattle.sdl_forward.specs.Boards.{stations_of, waiting, IsBoardOf, AreAllStations}
use Rattle.sdl_forward.specs.Queues.{Relations}
use Rattle.sdl_forward.specs.OnBoard.{Entries, on_board}
use Rattle.sdl_forward.proofs.Onward.{first_passed}
use Rattle.sdl_block_hand.specs.declared.hand.Refused.{Refused}
use Rattle.sdl_block_hand.specs.Work.{beginning_at}
use Rattle.sdl_run_outcome.specs.EnvironmentWork.{EnvWorking, IsEnvSound, IsLegalItem, GoesOut, ReadsOn, EnvWorks, HasWritten, env_sent, received_text}
use Rattle.sdl_run_outcome.proofs.Lists.{all_front}
use Rattle.sdl_run_environment.specs.EnvPhases.{Receives, HasReadBy, HasWrittenBy, EnvStepsTo}
use Rattle.sdl_run_environment.specs.EnvSends.{HasWaysIn, Sends, SendsTo}
use Rattle.sdl_run_environment.proofs.EnvReading.{read_same}
use Rattle.sdl_run_environment.proofs.EnvLegal.{begins_out}
use Rattle.sdl_run_environment.proofs.EnvPieces.{holding, noted, same_noted}
use Rattle.sdl_run_environment.proofs.EnvSending.{sends_any}

-- a board has each station where a route begins
pub board_ways : (rows : List TableRow) (board : Entries) → IsBoardOf rows board → HasWaysIn on_board rows board
board_ways rows board h = λ r row s gate there from first. h.every s (first_passed rows r row s there first)

module _ (s : Structure) (rows : List TableRow) (worker : ℕ) where
  abbrev Leaves : Item → Type 0
  Leaves i = IsLegalItem s rows worker i × GoesOut rows i

  -- the outlet holds what may leave there, also once something was sent
  pub outlet_after : (old : EnvWorking) (before : Entries) (new : EnvWorking) (after : Entries) → Sends on_board s rows worker old before new after → AreRoutesOf s rows → IsEnvSound s rows worker old
      → All Leaves (waiting before Outlet) → All Leaves (waiting after Outlet)
  outlet_after old before new after w routes sound h =
      let all = subst (All (IsLegalItem s rows worker)) (sym w.went) (All-append (IsLegalItem s rows worker) old.outgoing (env_sent w.outs) sound.legal w.legal) in
      let each = all_front (IsLegalItem s rows worker) w.put new.outgoing (recursion_from_All (IsLegalItem s rows worker) (w.put ++ new.outgoing) all) in
      let put = All-from_recursion Leaves (beginning_at rows Outlet w.put) (begins_out s rows worker routes w.put each) in
      subst (All Leaves) (sym (w.puts.each Outlet)) (All-append Leaves (waiting before Outlet) (beginning_at rows Outlet w.put) h put)

  -- What is received, by the answer.
  record Receipt (result : Result Bool Refused) (old : EnvWorking) (before : Entries) (new : EnvWorking) (after : Entries) : Type 0 where
    taken : List Item
    one : length taken ≤ 1
    outlet : waiting before Outlet ≡ taken ++ waiting after Outlet
    others : (t : Station) → t ≢ Outlet → waiting after t ≡ waiting before t
    stations : stations_of after ≡ stations_of before
    received : new.received ≡ old.received ++ taken
    same : new ≡ record old { received = new.received; output = new.output }
    did : result ≡ Ok true → taken ≡ [] → ⊥

  no_receipt : (result : Result Bool Refused) → (result ≡ Ok true → ⊥) → (old : EnvWorking) (before : Entries) (new : EnvWorking) (after : Entries) → new ≡ old → after ≡ before → Receipt result old before new after
  no_receipt result not old before new after same board =
      record {
        taken = [];
        one = omega arith;
        outlet = ap (λ (b : Entries). waiting b Outlet) (sym board);
        others = λ t other. ap (λ (b : Entries). waiting b t) board;
        stations = ap (λ (b : Entries). stations_of b) board;
        received = ap (λ (w : EnvWorking). w.received) same ∙ sym (append-nil old.received);
        same = same_noted old new same;
        did = λ said. absurd (not said);
      }

  receipt : (result : Result Bool Refused) (old : EnvWorking) (before : Entries) (new : EnvWorking) (after : Entries) → Receives old before result new after → Receipt result old before new after
  receipt (Ok true) old before new after (i, front, changes, same) =
      let received : new.received ≡ old.received ++ i ∷ [] = ap (λ (w : EnvWorking). w.received) same in
      record {
        taken = i ∷ [];
        one = omega arith;
        outlet = front;
        others = changes.others;
        stations = changes.stations;
        received = received;
        same = same ∙ ap (λ (l : List Item). record old { received = l; output = new.output }) (sym received);
        did = λ said none. cc;
      }
  receipt (Ok false) old before new after (same, board, none) = no_receipt (Ok false) (λ said. cc) old before new after same board
  receipt (Err r) old before new after (same, board) = no_receipt (Err r) (λ said. cc) old before new after same board

  -- what was sent and then what was received are a step
  abbrev works_of : (result : Result Bool Refused) (old : EnvWorking) (before : Entries) (mid : EnvWorking) (between : Entries) (new : EnvWorking) (after : Entries)
      → Sends on_board s rows worker old before mid between → Receipt result mid between new after → EnvWorks s rows worker old before new after
  works_of result old before mid between new after w r =
      record {
        outs = w.outs;
        put = w.put;
        taken = r.taken;
        one = r.one;
        outlet = sym (w.puts.each Outlet) ∙ r.outlet;
        others = λ t other. r.others t other ∙ w.puts.each t;
        stations = r.stations ∙ w.puts.stations;
        came = r.received ∙ ap (λ l. l ++ r.taken) w.received;
        went = ap (λ (x : EnvWorking). w.put ++ x.outgoing) r.same ∙ w.went;
        outputs = ap (λ (x : EnvWorking). x.put) r.same ∙ w.outputs;
        numbered = w.numbered;
        reads = subst (ReadsOn s rows worker old w.outs) (sym r.same) w.reads;
        legal = w.legal;
        coming = w.coming;
        sound = noted s rows worker mid new.received new r.same w.sound;
      }

  -- what holds of each refusal holds of an answer that is one
  refused_so : (result : Result Bool Refused) → IsErr result → (old : EnvWorking) (before : Entries) (new : EnvWorking) (after : Entries) → EnvWorks s rows worker old before new after → EnvStepsTo s rows worker old before result new after
  refused_so (Err r) h old before new after w = w
  refused_so (Ok did) h old before new after w = absurd (true≢false (sym h))

  module _ (old : EnvWorking) (b0 : Entries) (mid : EnvWorking) (b1 : Entries) where
    -- a refusal as the hand is put out or a line is read
    pub steps_at_sending : (result : Result Bool Refused) → IsErr result → (r : Refused) → SendsTo on_board s rows worker old b0 (Err r) mid b1 → EnvStepsTo s rows worker old b0 result mid b1
    steps_at_sending result err r sends = refused_so result err old b0 mid b1 (works_of (Err r) old b0 mid b1 mid b1 sends (no_receipt (Err r) (λ said. cc) mid b1 mid b1 refl refl))

    module _ (d : Bool) (sends : SendsTo on_board s rows worker old b0 (Ok d) mid b1) (sound : IsEnvSound s rows worker old) (new : EnvWorking) (b2 : Entries) where
      works : (result : Result Bool Refused) → Receives mid b1 result new b2 → EnvWorks s rows worker old b0 new b2
      works result receives = works_of result old b0 mid b1 new b2 (sends_any on_board s rows worker (Ok d) old b0 mid b1 sends sound) (receipt result mid b1 new b2 receives)

      -- a refusal as an item is received
      pub steps_at_receiving : (result : Result Bool Refused) → IsErr result → (r : Refused) → Receives mid b1 (Err r) new b2 → EnvStepsTo s rows worker old b0 result new b2
      steps_at_receiving result err r receives = refused_so result err old b0 new b2 (works (Err r) receives)

      pub board_after : (result : Result Bool Refused) → Receives mid b1 result new b2 → IsBoardOf rows b0 → IsBoardOf rows b2
      board_after result receives h = subst (AreAllStations rows) (sym (works result receives).stations) h

      pub steps : (t : Bool) → Receives mid b1 (Ok t) new b2 → EnvStepsTo s rows worker old b0 (Ok (d || t)) new b2
      steps t receives = by d t sends receives
        where
          by : (c e : Bool) → SendsTo on_board s rows worker old b0 (Ok c) mid b1 → Receives mid b1 (Ok e) new b2 → EnvStepsTo s rows worker old b0 (Ok (c || e)) new b2
          by true e a r =
              let got = receipt (Ok e) mid b1 new b2 r in
              (works_of (Ok e) old b0 mid b1 new b2 a.0 got, λ (same, outs, put, taken). a.1 (sym (ap (λ (w : EnvWorking). w.ended) got.same) ∙ same, outs, put))
          by false true a r =
              let got = receipt (Ok true) mid b1 new b2 r in
              (works_of (Ok true) old b0 mid b1 new b2 (sends_any on_board s rows worker (Ok false) old b0 mid b1 a sound) got, λ (same, outs, put, taken). got.did refl taken)
          by false false a (same, board, none) =
              (same ∙ a.same, board ∙ a.queues, record { ended = a.ended; outgoing = a.outgoing; outlet = ap (λ (b : Entries). waiting b Outlet) (sym a.queues) ∙ none })

  -- a sending leaves the board's stations
  pub board_sent : (result : Result Bool Refused) (old : EnvWorking) (before : Entries) (new : EnvWorking) (after : Entries) → SendsTo on_board s rows worker old before result new after → IsEnvSound s rows worker old
      → IsBoardOf rows before → IsBoardOf rows after
  board_sent result old before new after sends sound h = subst (AreAllStations rows) (sym (sends_any on_board s rows worker result old before new after sends sound).puts.stations) h

module _ (names : Lexicon) (rows : List TableRow) where
  -- what was read so far is not changed by a put and a receiving
  pub read_after_put : (worker : ℕ) (start now : Option (List ℕ)) (old new : EnvWorking) → new ≡ holding old new.outgoing → HasReadBy names rows worker start now old → HasReadBy names rows worker start now new
  read_after_put worker start now old new same =
      read_same names rows worker start now old new (ap (λ (w : EnvWorking). w.ended) same) (ap (λ (w : EnvWorking). w.put) same) (ap (λ (w : EnvWorking). w.reading) same)

  pub read_after_receive : (worker : ℕ) (start now : Option (List ℕ)) (result : Result Bool Refused) (old : EnvWorking) (before : List (Station × List Item)) (new : EnvWorking) (after : List (Station × List Item))
      → Receives old before result new after → HasReadBy names rows worker start now old → HasReadBy names rows worker start now new
  read_after_receive worker start now (Ok true) old before new after (i, front, changes, same) =
      read_same names rows worker start now old new (ap (λ (w : EnvWorking). w.ended) same) (ap (λ (w : EnvWorking). w.put) same) (ap (λ (w : EnvWorking). w.reading) same)
  read_after_receive worker start now (Ok false) old before new after (same, board, none) = subst (HasReadBy names rows worker start now) (sym same)
  read_after_receive worker start now (Err r) old before new after (same, board) = subst (HasReadBy names rows worker start now) (sym same)

  -- what was written so far is not changed where nothing is received or written
  pub written_same : (start now : Option (List ℕ)) (old new : EnvWorking) → new.received ≡ old.received → new.output ≡ old.output → HasWrittenBy names rows start now old → HasWrittenBy names rows start now new
  written_same start now old new received output h =
      subst (λ (e : OutputEnd). HasWritten start now (received_text names rows new.received) e) (sym output)
      (subst (λ (items : List Item). HasWritten start now (received_text names rows items) old.output) (sym received) h)

-- the same, by the names of the structure
pub read_then : (names known : Lexicon) (rows : List TableRow) (own worker : ℕ) (start before after : Option (List ℕ)) (old new : EnvWorking) → names ≡ known → own ≡ worker
    → (HasReadBy names rows own start before old → HasReadBy names rows own start after new) → HasReadBy known rows worker start before old → HasReadBy known rows worker start after new
read_then names known rows own worker start before after old new is same goes =
    subst (λ (x : Lexicon). HasReadBy x rows worker start before old → HasReadBy x rows worker start after new) is
    (subst (λ (k : ℕ). HasReadBy names rows k start before old → HasReadBy names rows k start after new) same goes)

pub written_then : (names known : Lexicon) (rows : List TableRow) (start before after : Option (List ℕ)) (old new : EnvWorking) → names ≡ known
    → (HasWrittenBy names rows start before old → HasWrittenBy names rows start after new) → HasWrittenBy known rows start before old → HasWrittenBy known rows start after new
written_then names known rows start before after old new is goes =
    subst (λ (x : Lexicon). HasWrittenBy x rows start before old → HasWrittenBy x rows start after new) is goes

-- what was written so far is not changed by a sending
pub written_after_sending : {B : Type 0} (q : Relations B) (s : Structure) (rows : List TableRow) (worker : ℕ) (start now : Option (List ℕ)) (result : Result Bool Refused) (old : EnvWorking) (before : B) (new : EnvWorking) (after : B)
    → SendsTo q s rows worker old before result new after → IsEnvSound s rows worker old → HasWrittenBy (lexicon_of s) rows start now old → HasWrittenBy (lexicon_of s) rows start now new
written_after_sending q s rows worker start now result old before new after sends sound =
    let a = sends_any q s rows worker result old before new after sends sound in
    written_same (lexicon_of s) rows start now old new a.received a.output
