-- A list of empty queues.
use Rattle.std.proofs.Common.{◌≡◌, zero, suc, Bool, true, false, cond, List, [], ◌∷◌, map, Option, Some, None, refl, ap, sym}
use Rattle.std.proofs.lemmas.Option.{same_Some}
use Rattle.sdl_signal.specs.declared.values.Item.{Item}
use Rattle.sdl_routes.specs.declared.route.Station.{Station}
use Rattle.sdl_queue.specs.declared.rest.Rest.{Rest}
use Rattle.sdl_queue.specs.declared.rest.Rest.TheVariants.{Serial}
use Rattle.sdl_forward.specs.Boards.{same_station, stations_of, waiting, lists_of}
use Rattle.sdl_forward.specs.Serials.{AreSerial}

abbrev pub empty_queue : Station → Station × Rest
empty_queue s = (s, Serial [])

pub stations_fresh : (ss : List Station) → stations_of (map empty_queue ss) ≡ ss
stations_fresh [] = refl
stations_fresh (s ∷ ss) = ap (λ ts. s ∷ ts) (stations_fresh ss)

pub serial_fresh : (ss : List Station) → AreSerial (map empty_queue ss)
serial_fresh [] k e at = let f : ◌≡◌ {A = Option (Station × Rest)} None (Some e) = at in absurd (none_some e f)
  where
    none_some : (e : Station × Rest) → ◌≡◌ {A = Option (Station × Rest)} None (Some e) → ⊥
    none_some e f = cc
serial_fresh (s ∷ ss) zero e at = ([], ap (λ (x : Station × Rest). x.1) (sym (same_Some (empty_queue s) e at)))
serial_fresh (s ∷ ss) (suc k) e at = serial_fresh ss k e at

if_same : (b : Bool) (xs ys : List Item) → xs ≡ [] → ys ≡ [] → cond b xs ys ≡ []
if_same true xs ys p q = p
if_same false xs ys p q = q

pub waiting_fresh : (ss : List Station) (s : Station) → waiting (lists_of (map empty_queue ss)) s ≡ []
waiting_fresh [] s = refl
waiting_fresh (t ∷ ss) s = if_same (same_station t s) [] (waiting (lists_of (map empty_queue ss)) s) refl (waiting_fresh ss s)
