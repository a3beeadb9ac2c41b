use Rattle.std.proofs.Common.{rules, ◌≡◌, false, refl, Option, IfSome, subst}
use Rattle.sdl_transition_behaviour.specs.declared.offer.SignalSorts.{SignalSorts}
use Rattle.sdl_listing_file.specs.Heads.{is_taken}
use Rattle.sdl_listing_file.specs.File.{IsInputOf}
use Rattle.sdl_listing_file.proofs.ListLemmas.{appends_one}
use Rattle.sdl_listing_file.proofs.HeadLemmas.{row_once}
use Rattle.sdl_listing_file.proofs.groups.add_row.Goals as goal

pub returns-clause-once : goal.returns-clause-once
returns-clause-once c = row_once c.args.all.now.saves.items _ c.args.all.now.rows.items _ c.in_ok-row.row c.args.state c.in_ok-row.ensures.row.own.0 c.in_ok-row.ensures.row.own.2.state c.in_ok-row.ensures.row.own.2.signal c.requires (subst (λ (o : Option SignalSorts). IfSome o (λ x. is_taken c.args.state x.id c.args.all.now.saves.items c.args.all.now.rows.items ≡ false)) c.in_ok-row.ensures.row.own.2.signal (c.is_second.ensures (search rules))) c.in_ok-push.ensures.items refl

pub returns-clause-rows : goal.returns-clause-rows
returns-clause-rows c = appends_one (IsInputOf c.args.setting.now) (c.args.state, c.args.source.now.text.now) c.args.all.now.rows.items _ c.in_ok-row.row c.in_ok-push.ensures.items c.in_ok-row.ensures.row
