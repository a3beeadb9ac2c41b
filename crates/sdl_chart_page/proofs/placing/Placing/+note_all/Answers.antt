use Rattle.std.proofs.Common.{◌-◌, List, length, flat_map, take, drop, sym, subst}
use Rattle.sdl_signal.specs.declared.values.Item.{Item}
use Rattle.sdl_instances_log.specs.Log.{sent_by}
use Rattle.sdl_chart_page.specs.Pages.{IsNoted, AreNoted}
use Rattle.sdl_chart_page.proofs.Noting.{one_noted, sent_first}
use Rattle.sdl_chart_page.proofs.Texts.{on_ok}
use Rattle.sdl_chart_page.proofs.placing.Placing.+note_all.Goals as goal

pub returns-in_ok-note_all-in-Sent-clause-noted : goal.returns-in_ok-note_all-in-Sent-clause-noted
returns-in_ok-note_all-in-Sent-clause-noted t c =
    let item = c.in-Sent.item in
    let all = c.args.done.now in
    let old = c.args.self.now.places in
    let new = c.note.new.self.places in
    on_ok c.note.result (IsNoted item.origin (record { row = c.args.row; among = c.args.among }) c.note_all.new.self.places new) (AreNoted c.args.row c.args.among (flat_map sent_by all) old new)
    (λ noted.
    subst (λ (items : List Item). AreNoted c.args.row c.args.among items old new) (sym (sent_first all c.first-item.result item c.in-len1-up.len_at_least c.first-item.is c.in-Sent.is))
    (one_noted c.args.row c.args.among (flat_map sent_by (take (length all - 1) (drop 1 all))) item old c.note_all.new.self.places new c.in_ok-note_all-in-Sent.ensures.noted noted))
    c.note.ensures.noted
