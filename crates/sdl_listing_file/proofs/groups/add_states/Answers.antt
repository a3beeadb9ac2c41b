use Rattle.sdl_listing_file.specs.File.{bytes_of}
use Rattle.sdl_listing_file.proofs.NameLemmas.{seen_name, seen_names}
use Rattle.sdl_listing_file.proofs.groups.add_states.Goals as goal

pub loop-value-preserved : goal.loop-value-preserved
loop-value-preserved c = seen_name (bytes_of c.args.states.now.items) c.in_ok-texts.texts.now c.loop-value.value-index c.value-item.result (bytes_of c.loop-value.states.items) _ c.text_of.result.now c.loop-value-test.true c.value-item.is c.text_of.ensures c.loop-value.invariant c.in_ok-add_state.ensures.names

pub returns-clause-names : goal.returns-clause-names
returns-clause-names c = seen_names (bytes_of c.args.states.now.items) c.in_ok-texts.texts.now c.loop-value.value-index _ _ c.in_ok-texts.ensures.texts c.loop-value-test.false c.loop-value.invariant
