use Rattle.std.proofs.Common.{ap, length, map, ◌++◌, ◌∙◌, List}
use Rattle.sdl_routes.specs.declared.route.Hop.{Hop}
use Rattle.sdl_forward_opening.specs.declared.worker.Worker.TheVariants.{Forwarder}
use Rattle.sdl_forward_opening.proofs.Counted.{workers_few, workers_are}
use Rattle.sdl_forward_opening.proofs.order.workers_of.Goals as goal

pub returns-clause-few : goal.returns-clause-few
returns-clause-few c =
    workers_few c.args.structure.now c.add_forwarders.new.workers.items c.parts_agree.ensures
    (workers_are c.args.structure.now _ c.channels.result.now c.in_ok-workers.workers.items _ c.add_forwarders.new.workers.items (ap length c.blocks-2.ensures) c.channels.ensures c.in_ok-workers.ensures c.in_ok-push.ensures.items
    (c.in_ok-add_forwarders.ensures ∙ ap (λ (hs : List Hop). c.push.new.self.items ++ map Forwarder hs) (c.as_slice.ensures.value ∙ c.in_ok-paths.ensures)))
