use Rattle.std.proofs.Common.{◌+◌, map, length, refl, sym, ◌∙◌, arith}
use Rattle.sdl_transition.specs.Rules.{block_rules}
use Rattle.sdl_instances.specs.Core.{IsBoundIn, signals_of, sets_of}
use Rattle.sdl_block.specs.Workers.{behaviours_of}
use Rattle.sdl_run_driver.proofs.Closes.{system_kept}
use Rattle.sdl_run_serial.proofs.Begins.{room_for}
use Rattle.sdl_run_serial.proofs.Fresh.{all_same, can_fire, parts_count}
use Rattle.sdl_run_serial.proofs.blocks.start_system.Goals as goal

pub parts_are_bound-requires : goal.parts_are_bound-requires
parts_are_bound-requires g c = system_kept g.S.Agents.may c.args.system.checked c.args.system.routes c.args.system.blocks.items c.as_slice.result.now c.as_slice.ensures.value c.requires.system

pub start_blocks-requires-clause-bound : goal.start_blocks-requires-clause-bound
start_blocks-requires-clause-bound g c =
    all_same (λ p. IsBoundIn (signals_of c.args.system.checked) (sets_of c.args.system.checked) (block_rules p) p.block) c.as_slice.result.now c.args.system.blocks.items c.as_slice.ensures.value c.parts_are_bound.ensures.bound

pub start_blocks-requires-clause-empty : goal.start_blocks-requires-clause-empty
start_blocks-requires-clause-empty g c = c.requires.empty.0

pub gather-parts-requires-clause-empty : goal.gather-parts-requires-clause-empty
gather-parts-requires-clause-empty g c = c.requires.empty.1

pub gather-parts-requires-clause-room : goal.gather-parts-requires-clause-room
gather-parts-requires-clause-room g c =
    let count = parts_count behaviours_of c.in-Err.workers.items c.in-Err.refused c.in-Err.rest.items c.args.system.blocks.items c.in-Err.ensures.back in
    room_for c.args.room.parts (length c.in-Err.workers.items + (length c.in-Err.rest.items + 1)) (length c.args.system.blocks.items) (omega (arith, count)) c.requires.parts

pub of_blocks-requires : goal.of_blocks-requires
of_blocks-requires g c = system_kept g.S.Agents.may c.args.system.checked c.args.system.routes c.args.system.blocks.items c.gather-parts.result.items (c.gather-parts.ensures ∙ c.in-Err.ensures.back) c.requires.system

pub returns-in-Ok-clause-started : goal.returns-in-Ok-clause-started
returns-in-Ok-clause-started g c =
    record {
      structure = c.structure.ensures.is_structure;
      table = c.len.ensures.table;
      system = system_kept g.S.Agents.may c.args.system.checked c.args.system.routes c.args.system.blocks.items (map behaviours_of c.in-Ok.blocks.items) c.in-Ok.ensures.parts c.requires.system;
      new = c.in-Ok.ensures.new;
      fire = can_fire g.S.Agents.may c.in-Ok.blocks.items c.as_slice.result.now (c.as_slice.ensures.value ∙ sym c.in-Ok.ensures.parts) c.parts_are_bound.ensures.allowed c.parts_are_bound.ensures.indexed;
    }

pub returns-in-Ok-clause-same : goal.returns-in-Ok-clause-same
returns-in-Ok-clause-same g c = record { checked = refl; routes = refl; budget = refl; behaviours = c.in-Ok.ensures.parts }
