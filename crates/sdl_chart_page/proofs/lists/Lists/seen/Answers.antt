use Rattle.std.proofs.Common.{◌≡◌, ◌<◌, ◌≤◌, ◌+◌, suc, Some, map, length, slice_get, arith}
use Rattle.sdl_chart_page.specs.declared.lists.Seen.{Seen}
use Rattle.sdl_chart_page.specs.Entries.{entry_at, entry_of_event, entry_of_receipt, entry_of_output, entry_seen, entries_of, IsPast}
use Rattle.sdl_chart_page.proofs.Listed.{seen_in_log, seen_in_receipts, seen_in_outputs, stored_at, past_in_log, past_in_receipts, past_in_outputs, past_all}
use Rattle.sdl_chart_page.proofs.Texts.{some_then, none_then}
use Rattle.sdl_chart_page.proofs.lists.Lists.seen.Goals as goal

pub returns-then-list-blocks-clause-some : goal.returns-then-list-blocks-clause-some
returns-then-list-blocks-clause-some g c =
    let l = c.args.self.now in
    let log = c.index-logs-list.result in
    let less : c.args.list < length l.logs.now = omega (arith, c.if-list-blocks.true) in
    some_then c.event_in.result (λ (s : Seen). slice_get (map entry_of_event (g.K.LogStore.events log)) c.args.number ≡ Some (entry_seen s))
    (λ (s : Seen). entry_at (entries_of g.K.LogStore.events l) c.args.list c.args.number ≡ Some (entry_seen s))
    (λ s at. seen_in_log l.received.now l.put.now g.K.LogStore.events l.logs.now c.args.list c.args.number log (entry_seen s) less c.index-logs-list.is at)
    c.event_in.ensures.some

pub returns-then-list-blocks-clause-none : goal.returns-then-list-blocks-clause-none
returns-then-list-blocks-clause-none g c = λ stored.
    let l = c.args.self.now in
    let log = c.index-logs-list.result in
    let less : c.args.list < length l.logs.now = omega (arith, c.if-list-blocks.true) in
    none_then c.event_in.result (length (g.K.LogStore.events log) ≤ c.args.number) (IsPast (entries_of g.K.LogStore.events l) c.args.list c.args.number)
    (λ past. past_in_log l.received.now l.put.now g.K.LogStore.events l.logs.now c.args.list c.args.number log less c.index-logs-list.is past)
    (c.event_in.ensures.none (stored_at g.K.Shows.stores l.logs.now c.args.list log less c.index-logs-list.is stored))

pub returns-then-list-blocks-2-clause-some : goal.returns-then-list-blocks-2-clause-some
returns-then-list-blocks-2-clause-some g c =
    let l = c.args.self.now in
    let same : c.args.list ≡ length l.logs.now = omega (arith, c.if-list-blocks-2.true) in
    some_then c.receipt_in.result (λ (s : Seen). slice_get (map entry_of_receipt l.received.now) c.args.number ≡ Some (entry_seen s))
    (λ (s : Seen). entry_at (entries_of g.K.LogStore.events l) c.args.list c.args.number ≡ Some (entry_seen s))
    (λ s at. seen_in_receipts l.received.now l.put.now g.K.LogStore.events l.logs.now c.args.list c.args.number (entry_seen s) same at)
    c.receipt_in.ensures.some

pub returns-then-list-blocks-2-clause-none : goal.returns-then-list-blocks-2-clause-none
returns-then-list-blocks-2-clause-none g c = λ stored.
    let l = c.args.self.now in
    let same : c.args.list ≡ length l.logs.now = omega (arith, c.if-list-blocks-2.true) in
    none_then c.receipt_in.result (length l.received.now ≤ c.args.number) (IsPast (entries_of g.K.LogStore.events l) c.args.list c.args.number)
    (λ past. past_in_receipts l.received.now l.put.now g.K.LogStore.events l.logs.now c.args.list c.args.number same past)
    c.receipt_in.ensures.none

pub returns-then-list-blocks-eq1-clause-some : goal.returns-then-list-blocks-eq1-clause-some
returns-then-list-blocks-eq1-clause-some g c =
    let l = c.args.self.now in
    let same : c.args.list ≡ suc (length l.logs.now) = omega (arith, c.if-list-blocks.false, c.if-list-blocks-eq1.true) in
    some_then c.output_in.result (λ (s : Seen). slice_get (map entry_of_output l.put.now) c.args.number ≡ Some (entry_seen s))
    (λ (s : Seen). entry_at (entries_of g.K.LogStore.events l) c.args.list c.args.number ≡ Some (entry_seen s))
    (λ s at. seen_in_outputs l.received.now l.put.now g.K.LogStore.events l.logs.now c.args.list c.args.number (entry_seen s) same at)
    c.output_in.ensures.some

pub returns-then-list-blocks-eq1-clause-none : goal.returns-then-list-blocks-eq1-clause-none
returns-then-list-blocks-eq1-clause-none g c = λ stored.
    let l = c.args.self.now in
    let same : c.args.list ≡ suc (length l.logs.now) = omega (arith, c.if-list-blocks.false, c.if-list-blocks-eq1.true) in
    none_then c.output_in.result (length l.put.now ≤ c.args.number) (IsPast (entries_of g.K.LogStore.events l) c.args.list c.args.number)
    (λ past. past_in_outputs l.received.now l.put.now g.K.LogStore.events l.logs.now c.args.list c.args.number same past)
    c.output_in.ensures.none

pub returns-else-list-blocks-eq1-clause-none : goal.returns-else-list-blocks-eq1-clause-none
returns-else-list-blocks-eq1-clause-none g c = λ stored.
    let l = c.args.self.now in
    let beyond : length l.logs.now + 2 ≤ c.args.list = omega (arith, c.if-list-blocks.false, c.if-list-blocks-2.false, c.if-list-blocks-eq1.false) in
    past_all l.received.now l.put.now g.K.LogStore.events l.logs.now c.args.list c.args.number beyond
