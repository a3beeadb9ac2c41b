use Rattle.std.proofs.Common.{List, length, slice_set, refl, ap, ◌∙◌}
use Rattle.std.specs.List.{insert}
use Rattle.std.proofs.lemmas.Option.{slice_get_read}
use Rattle.sdl_signal.specs.declared.values.Item.{Item}
use Rattle.sdl_routes.specs.declared.route.Station.{Station}
use Rattle.sdl_queue.specs.declared.rest.Rest.{Rest}
use Rattle.sdl_queue.specs.declared.rest.Rest.TheVariants.{Serial}
use Rattle.sdl_forward.proofs.Entries.{set_same}
use Rattle.sdl_forward.proofs.Adopted.{put_in}
use Rattle.sdl_forward.proofs.adopting.make_serial.Goals as goal

pub returns-in-Ok : goal.returns-in-Ok
returns-in-Ok g c =
    let items = c.args.rests.now.items in
    let place = c.args.place in
    let entry = c.remove-station.result in (
      entry,
      slice_get_read items (length items) place entry refl c.requires c.remove-station.ensures.value,
      c.put_back.ensures
          ∙ (ap (λ (xs : List (Station × Rest)). insert xs place (entry.0, Serial c.in-Ok.queue)) c.remove-station.ensures.items
          ∙ (put_in items place (entry.0, Serial c.in-Ok.queue) c.requires ∙ ap (λ (queue : List Item). slice_set items place (entry.0, Serial queue)) c.in-Ok.ensures)),
    )

pub returns-in-Err : goal.returns-in-Err
returns-in-Err g c =
    let items = c.args.rests.now.items in
    let place = c.args.place in
    let entry = c.remove-station.result in
    let at = slice_get_read items (length items) place entry refl c.requires c.remove-station.ensures.value in (
      entry.1,
      c.in-Err.ensures.1,
      at,
      c.put_back-in-Err.ensures
          ∙ (ap (λ (xs : List (Station × Rest)). insert xs place (entry.0, c.in-Err.apart)) c.remove-station.ensures.items
          ∙ (put_in items place (entry.0, c.in-Err.apart) c.requires ∙ (ap (λ (rest : Rest). slice_set items place (entry.0, rest)) c.in-Err.ensures.0 ∙ set_same items place entry at))),
    )
