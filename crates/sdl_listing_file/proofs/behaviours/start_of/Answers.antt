use Rattle.std.proofs.Common.{subst}
use Rattle.sdl_listing_body_text.specs.Rows.{IsText, IsStart, IsWithin}
use Rattle.sdl_listing_file.specs.declared.place.AgentsKey.TheVariants as key
use Rattle.sdl_listing_file.proofs.FaultLemmas.{placed_here}
use Rattle.sdl_listing_file.proofs.behaviours.start_of.Goals as goal

pub returns-in-Ok-clause-start : goal.returns-in-Ok-clause-start
returns-in-Ok-clause-start c = rw c.in_ok-text.ensures.held (record { sound = c.in-Ok.ensures.sound; own = c.in-Ok.ensures.row; spelled = subst (λ t. IsText (IsStart c.args.setting.now c.in-Ok.start.body) t) c.as_bytes.ensures.value c.in-Ok.ensures.spelled })

pub returns-in-Err-clause-fault : goal.returns-in-Err-clause-fault
returns-in-Err-clause-fault c = placed_here c.args.walk.now c.at.result key.Start 0 c.in_ok-text.text.now _ c.requires c.at.ensures.value c.at.ensures.place c.in_ok-text.ensures.held (c.text_fault.ensures.within c.in_ok-text.text.now (subst (λ t. IsWithin t c.in-Err.refusal) c.as_bytes.ensures.value c.in-Err.ensures.place))
