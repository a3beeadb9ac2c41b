use Rattle.std.proofs.Common.{arith, ◌≡◌, ◌<◌, ◌≤◌, length, refl}
use Rattle.std.proofs.lemmas.Option.{slice_get_read, slice_get_past}
use Rattle.sdl_structure.proofs.ChannelLemmas.{some_iff, none_iff}
use Rattle.sdl_structure.proofs.reading.draft.Draft.is_block.Goals as goal

pub returns-then-number-len : goal.returns-then-number-len
returns-then-number-len c =
    let inside : c.args.number < length c.args.self.now.blocks.items = omega arith in
    some_iff _ c.index.result.now (λ x. (x.scope ≡ c.args.scope) × (x.name.bytes ≡ c.args.agent.now)) c.is_block_of.result (slice_get_read c.args.self.now.blocks.items (length c.args.self.now.blocks.items) c.args.number c.index.result.now refl inside c.index.ensures) c.is_block_of.ensures

pub returns-else-number-len : goal.returns-else-number-len
returns-else-number-len c =
    let past : length c.args.self.now.blocks.items ≤ c.args.number = omega arith in
    none_iff _ (λ x. (x.scope ≡ c.args.scope) × (x.name.bytes ≡ c.args.agent.now)) (slice_get_past c.args.self.now.blocks.items c.args.number past)
