use Rattle.std.proofs.Common.{IfSome, subst}
use Rattle.sdl_listing_body_text.specs.Rows.{IsText, IsInput, IsWithin}
use Rattle.sdl_listing_file.proofs.groups.row_of.Goals as goal

pub returns-in-Ok-clause-row : goal.returns-in-Ok-clause-row
returns-in-Ok-clause-row c = record { sound = c.in-Ok.ensures.sound; own = c.in-Ok.ensures.row; spelled = subst (λ t. IfSome c.in-Ok.row.signal (λ signal. IsText (IsInput c.args.setting.now c.args.state signal.id c.in-Ok.row.body) t)) c.as_bytes.ensures.value c.in-Ok.ensures.spelled }

pub returns-in-Err-clause-fault : goal.returns-in-Err-clause-fault
returns-in-Err-clause-fault c = c.text_fault.ensures.within c.args.source.now.text.now (subst (λ t. IsWithin t c.in-Err.refusal) c.as_bytes.ensures.value c.in-Err.ensures.place)
