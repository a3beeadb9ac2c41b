use Rattle.std.proofs.Common.{arith, ap, map, refl, ◌∙◌}
use Rattle.std.proofs.lemmas.Bool.Decides.{nat_tests}
use Rattle.sdl_structure_tables.specs.declared.place.Key.TheVariants as key
use Rattle.sdl_structure.specs.declared.reading.draft.Draft.{Draft}
use Rattle.sdl_structure_tables.specs.Tables.{table_in, tables_at, channel_names}
use Rattle.sdl_structure.specs.File.{IsChannelTable}
use Rattle.sdl_structure_tables.specs.Walks.{file_of, own}
use Rattle.sdl_structure.specs.Drafts.{blocks_before}
use Rattle.sdl_structure_tables.proofs.ListLemmas.{element, read_more, all_read, zip_map}
use Rattle.sdl_structure.proofs.ChannelLemmas.{serves_in, scope_lists, names_before_channel, other_names, channel_joins, few_names}
use Rattle.sdl_structure.proofs.reading.draft.Draft.read_channels.Goals as goal

pub inner-requires : goal.inner-requires
inner-requires c =
    let vs = c.in_ok-tables.tables.now in
    let e = element key.Channel (own c.args.walk.now) vs c.loop-index.index c.index-tables-index.result c.in_ok-tables.ensures.tables c.in_ok-tables.ensures.each c.loop-index-test.true c.index-tables-index.is in
    record { here = c.requires.here; listed = scope_lists c.args.walk.now.version c.args.scope c.args.walk.now.place c.requires.scope; kind = refl; table = e.table; there = e.there; within = e.within; few = omega arith; no_block = λ e. cc }

pub read_channel-requires-clause-before : goal.read_channel-requires-clause-before
read_channel-requires-clause-before c =
    c.loop-index.invariant.read.names
    ∙ names_before_channel c.args.walk.now c.inner.result c.args.scope c.loop-index.index (map table_in c.in_ok-tables.tables.now) c.requires.here c.requires.scope c.inner.ensures.file c.inner.ensures.place c.in_ok-tables.ensures.tables

pub read_channel-requires-clause-scope : goal.read_channel-requires-clause-scope
read_channel-requires-clause-scope c = other_names _ c.args.scope _ c.args.self.now c.loop-index.self c.loop-index.invariant.frame (serves_in c.args.walk.now c.inner.result c.args.scope c.loop-index.index c.args.self.now c.requires.here c.requires.scope c.inner.ensures.file c.inner.ensures.place c.requires.serves)

pub loop-index-preserved : goal.loop-index-preserved
loop-index-preserved c =
    let x = c.in_ok-channel.channel in
    let r = channel_joins c.args.self.now c.loop-index.self c.args.scope _ _ x c.loop-index.invariant.frame c.inner.ensures.table c.in_ok-channel.ensures.read in
    record {
      read = rw (c.in_ok-push.ensures.items, c.in_ok-channel.ensures.joined) (read_more (λ m ch. IsChannelTable c.args.self.now.signals.items c.args.self.now.blocks.items c.args.self.now.sets.items c.args.self.now.gates.items (c.args.scope, m) ch) (channel_names (blocks_before (file_of c.args.walk.now) c.args.scope)) c.in_ok-tables.tables.now c.loop-index.index c.index-tables-index.result c.loop-index.channels.items c.loop-index.self.channel_names.items x x.name c.loop-index-test.true c.index-tables-index.is c.loop-index.invariant.read r r.name.0 c.in_ok-channel.ensures.apart);
      frame = c.in_ok-channel.ensures.frame ∙ ap (λ (d : Draft). record d { channel_names = c.read_channel.new.self.channel_names }) c.loop-index.invariant.frame;
    }

pub returns-clause-read : goal.returns-clause-read
returns-clause-read c =
    let all = all_read (λ m ch. IsChannelTable c.args.self.now.signals.items c.args.self.now.blocks.items c.args.self.now.sets.items c.args.self.now.gates.items (c.args.scope, m) ch) (channel_names (blocks_before (file_of c.args.walk.now) c.args.scope)) (tables_at key.Channel (own c.args.walk.now)) c.in_ok-tables.tables.now c.loop-index.index c.loop-index.channels.items c.loop-index.self.channel_names.items c.in_ok-tables.ensures.tables c.loop-index-test.false c.loop-index.invariant.read in
    zip_map (λ m. (c.args.scope, m)) (IsChannelTable c.args.self.now.signals.items c.args.self.now.blocks.items c.args.self.now.sets.items c.args.self.now.gates.items) (tables_at key.Channel (own c.args.walk.now)) c.loop-index.channels.items all.named

pub returns-clause-names : goal.returns-clause-names
returns-clause-names c =
    let all = all_read (λ m ch. IsChannelTable c.args.self.now.signals.items c.args.self.now.blocks.items c.args.self.now.sets.items c.args.self.now.gates.items (c.args.scope, m) ch) (channel_names (blocks_before (file_of c.args.walk.now) c.args.scope)) (tables_at key.Channel (own c.args.walk.now)) c.in_ok-tables.tables.now c.loop-index.index c.loop-index.channels.items c.loop-index.self.channel_names.items c.in_ok-tables.ensures.tables c.loop-index-test.false c.loop-index.invariant.read in
    all.names

pub returns-clause-apart : goal.returns-clause-apart
returns-clause-apart c = c.loop-index.invariant.read.apart

pub returns-clause-few : goal.returns-clause-few
returns-clause-few c =
    let all = all_read (λ m ch. IsChannelTable c.args.self.now.signals.items c.args.self.now.blocks.items c.args.self.now.sets.items c.args.self.now.gates.items (c.args.scope, m) ch) (channel_names (blocks_before (file_of c.args.walk.now) c.args.scope)) (tables_at key.Channel (own c.args.walk.now)) c.in_ok-tables.tables.now c.loop-index.index c.loop-index.channels.items c.loop-index.self.channel_names.items c.in_ok-tables.ensures.tables c.loop-index-test.false c.loop-index.invariant.read in
    few_names c.args.self.now.channel_names.items c.loop-index.self.channel_names.items (channel_names (blocks_before (file_of c.args.walk.now) c.args.scope)) (tables_at key.Channel (own c.args.walk.now)) c.in_ok-tables.tables.now c.requires.names all.names c.in_ok-tables.ensures.tables (grind (arith, nat_tests))
