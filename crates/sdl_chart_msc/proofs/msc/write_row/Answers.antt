use Rattle.std.proofs.KnownBytes.{Appends-nil}
use Rattle.sdl_chart_msc.specs.Lines.{script_of, event_text}
use Rattle.sdl_chart_msc.proofs.Written.{on_ok, appends_through}
use Rattle.sdl_chart_msc.proofs.msc.write_row.Goals as goal

pub returns-in-Some : goal.returns-in-Some
returns-in-Some g c = on_ok c.write_event.result _ _ (λ h. appends_through (event_text (script_of c.args.scene.now)) _ _ _ _ c.in-Some.ensures h) c.write_event.ensures

pub returns-in-None : goal.returns-in-None
returns-in-None g c = appends_through (event_text (script_of c.args.scene.now)) _ _ _ _ c.in-None.ensures (Appends-nil _)
