-- The events of logs as they are shown.
use Rattle.std.proofs.Common.{◌≡◌, ℕ, ◌<◌, ◌≤◌, List, [], map, length, get_or, slice_get, Option, None, Some, IfSome, IfNone, option_map, ap, sym, ◌∙◌, subst, arith}
use Rattle.std.proofs.lemmas.List.{length-map, get_or-map, get_or_past}
use Rattle.std.proofs.lemmas.Option.{slice_get_past}
use Rattle.sdl_instances_log.specs.declared.event.Event.{Event}
use Rattle.sdl_instances_packed_log.specs.Packed.{event_shown}
use Rattle.sdl_instances_packed_log.specs.declared.shown.Shown.{Shown}

pub shown_is : (es : List Event) (n : ℕ) (r : Option Shown) → IfSome r (λ e. slice_get es n ≡ Some (event_shown e)) → IfNone r (length es ≤ n) → option_map event_shown r ≡ slice_get es n
shown_is es n None some none = sym (slice_get_past es n none)
shown_is es n (Some e) some none = sym some

module _ {K : Type 0} (events : K → List Event) (logs : List K) (l n : ℕ) where
  -- the events of a log that is there
  pub log_at : (log : K) → l < length logs → log ≡ get_or logs l log → get_or (map events logs) l [] ≡ events log
  log_at log less at = get_or-map events logs l log [] less ∙ ap events (sym at)

  -- there is no log of this number
  pub none_at : length logs ≤ l → slice_get (get_or (map events logs) l []) n ≡ None
  none_at past =
      ap (λ (es : List Event). slice_get es n) (get_or_past (map events logs) l [] (subst (λ (m : ℕ). m ≤ l) (sym (length-map logs events)) past))
      ∙ slice_get_past [] n (omega arith)
