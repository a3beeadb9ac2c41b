use Rattle.std.proofs.Common.{map}
use Rattle.sdl_forward_opening.proofs.Opened.{order_once}
use Rattle.sdl_forward_opening.proofs.Using.{stay_whole, stay_room}
use Rattle.sdl_forward_opening.proofs.laws.used_ends_come_back.Goals as goal

pub returns-clause-once : goal.returns-clause-once
returns-clause-once c = λ s rows all shelf o. order_once (map (λ x. x.0) shelf) o.stations.order

pub returns-clause-whole : goal.returns-clause-whole
returns-clause-whole c = λ s rows all now shelf o u. stay_whole (map (λ x. x.0) shelf) all now u o.whole

pub returns-clause-room : goal.returns-clause-room
returns-clause-room c = λ s rows all now shelf o u. stay_room shelf all now u o.room
