-- The messages and the text of a whole page.
use Rattle.std.proofs.Common.{◌≡◌, ℕ, ◌+◌, List, Option, replicate, refl, ap, ◌∙◌, subst}
use Rattle.std.specs.Io.KnownBytes.{Appends}
use Rattle.sdl_signal.specs.declared.values.Item.{Item}
use Rattle.sdl_signal.specs.declared.values.Origin.{Origin}
use Rattle.sdl_structure_parts.specs.Structure.{Structure}
use Rattle.sdl_routes.specs.declared.route.TableRow.{TableRow}
use Rattle.sdl_instances_log.specs.declared.event.Event.{Event}
use Rattle.sdl_run_outcome.specs.declared.environment_output.EnvOut.{EnvOut}
use Rattle.sdl_chart_page.specs.declared.page.Row.{Row}
use Rattle.sdl_chart_page.specs.Entries.{Entry, entries}
use Rattle.sdl_chart_page.specs.Pages.{Sheet}
use Rattle.sdl_chart_msc.specs.declared.messages.Fate.{Fate}
use Rattle.sdl_chart_msc.specs.declared.messages.Fate.TheVariants as fate
use Rattle.sdl_chart_msc.specs.declared.places.Place.{Place}
use Rattle.sdl_chart_msc.specs.Messages.{row_sends, sent_after, number_by, fates_after, above_in, fates_in}
use Rattle.sdl_chart_msc.specs.Places.{ArePlacesOf}
use Rattle.sdl_chart_msc.specs.Lines.{script_by, script_with, msc_text, IsMscOf}

-- what became of each message, by the numbers that the whole page gives
pub fates_are : (tells : Row → Option (Origin × Fate)) (lists : List (List Entry)) (page : Sheet) (fates : List Fate) (above : List ℕ) (sent : ℕ)
    → above ≡ above_in lists page → sent ≡ sent_after (row_sends lists) 0 page.rows → fates ≡ fates_after tells (number_by page above) (replicate (sent + 1) fate.Astray) page.rows
    → fates ≡ fates_after tells (number_by page (above_in lists page)) (replicate (sent_after (row_sends lists) 0 page.rows + 1) fate.Astray) page.rows
fates_are tells lists page fates above sent p q e =
    e ∙ (ap (λ (a : List ℕ). fates_after tells (number_by page a) (replicate (sent + 1) fate.Astray) page.rows) p
    ∙ ap (λ (n : ℕ). fates_after tells (number_by page (above_in lists page)) (replicate (n + 1) fate.Astray) page.rows) q)

-- the text of the whole page
module _ (s : Structure) (routes : List TableRow) (states : List (List (List ℕ))) (logs : List (List Event)) (received : List Item) (put : List EnvOut) (page : Sheet) where
  text_is : (above : List ℕ) (fates : List Fate) (places : List Place) → above ≡ above_in (entries logs received put) page → fates ≡ fates_in logs received (entries logs received put) page
      → msc_text (script_by s routes states page above fates) logs put page.rows places ≡ msc_text (script_with s routes states logs received put page) logs put page.rows places
  text_is above fates places p q =
      ap (λ (a : List ℕ). msc_text (script_by s routes states page a fates) logs put page.rows places) p
      ∙ ap (λ (f : List Fate). msc_text (script_by s routes states page (above_in (entries logs received put) page) f) logs put page.rows places) q

  pub is_msc : (above : List ℕ) (fates : List Fate) (rows : List Row) (places kept : List Place) (old new : Option (List ℕ))
      → above ≡ above_in (entries logs received put) page → fates ≡ fates_in logs received (entries logs received put) page → rows ≡ page.rows → kept ≡ places → ArePlacesOf logs rows places
      → Appends old new (msc_text (script_by s routes states page above fates) logs put page.rows kept)
      → (text : List ℕ) × IsMscOf s routes states logs received put page text × Appends old new text
  is_msc above fates rows places kept old new p q r e are h = (
    _,
    record { places = places; are = subst (λ (rs : List Row). ArePlacesOf logs rs places) r are; is = refl },
    subst (Appends old new)
        (ap (λ (ps : List Place). msc_text (script_by s routes states page above fates) logs put page.rows ps) e ∙ text_is above fates places p q) h,
  )
