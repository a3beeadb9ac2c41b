use Rattle.std.proofs.Common.{◌≡◌, ◌≤◌, ℕ, ◌+◌, List, ap, subst, sym, ◌∙◌, map, length, arith}
use Rattle.sdl_structure_parts.specs.declared.parts.Channel.{Channel}
use Rattle.sdl_structure_parts.specs.Structure.{Structure}
use Rattle.sdl_forward_opening.specs.Opens.{AreOpen}
use Rattle.sdl_run_outcome.specs.EnvironmentWork.{IsEnvFresh}
use Rattle.sdl_run_outcome.specs.Plan.{delaying_from}
use Rattle.sdl_run_serial.specs.Starting.{idle_at}
use Rattle.sdl_run_serial.proofs.Fresh.{env_fresh}
use Rattle.sdl_run_settling.proofs.Rooms.{room_of}
use Rattle.sdl_run.proofs.room.open_all.Goals as goal

as_many : (room blocks lines k fs : ℕ) → blocks + lines ≤ room → blocks ≡ k → lines ≡ fs → k + fs ≤ room
as_many room blocks lines k fs h e f = omega (arith, h, e, f)

behind_none : (room held blocks lines k fs : ℕ) → held ≡ 0 → blocks + lines ≤ room → blocks ≡ k → lines ≡ fs → held + (k + fs) ≤ room
behind_none room held blocks lines k fs none h e f = omega (arith, none, h, e, f)

pub returns : goal.returns
returns g c =
    let count = c.requires.blocks in
    let lines = c.len-lines.ensures in
    let all : c.len-lines.result ≡ length c.in_ok-forwarders.forwarders.items = omega (arith, lines, c.in_ok-forwarders.forwarders.ok.0) in
    record {
      environment = subst (IsEnvFresh (length c.args.checked.now.blocks)) (sym c.environment.view_is) (env_fresh c.args.blocks (length c.args.checked.now.blocks) c.in_ok-environment.environment count c.in_ok-environment.ensures);
      forwarders = c.in_ok-forwarders.ensures ∙ ap (λ (cs : List Channel). map idle_at (delaying_from 0 cs)) (c.channels.ensures ∙ ap (λ (s : Structure). s.channels) c.structure.ensures.structure);
      opening = subst (AreOpen c.args.checked.now c.args.routes.now c.in_ok-ends.ends.items) (sym c.shelf.view_is) c.in_ok-ends.ensures;
      workers_empty = c.in_ok-with_capacity.ensures.items;
      workers = behind_none _ _ _ _ _ _ c.in_ok-with_capacity.ensures.len c.in_ok-with_capacity.ensures.capacity count all;
      done_empty = c.in_ok-with_capacity-2.ensures.items;
      done = as_many _ _ _ _ _ c.in_ok-with_capacity-2.ensures.capacity count all;
      apart = room_of c.in_ok-apart.apart c.args.blocks c.len-lines.result (length c.args.checked.now.blocks) (length c.in_ok-forwarders.forwarders.items) count all c.in_ok-apart.ensures;
    }
