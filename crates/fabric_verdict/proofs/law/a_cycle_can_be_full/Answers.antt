use Rattle.fabric_routes.specs.Routes.{DependsOn}
use Rattle.fabric_verdict.proofs.CycleLemmas.{contained, is_in, next_of, stays_in, steps}
use Rattle.fabric_verdict.proofs.RingLemmas as ring
use Rattle.fabric_verdict.proofs.law.a_cycle_can_be_full.Goals as goal

pub returns : goal.returns
returns c fabric tables traffic start rest room cycle some =
    let is = is_in (DependsOn fabric tables traffic) start rest cycle in
    let next = next_of (DependsOn fabric tables traffic) start rest cycle in
    let depends = steps (DependsOn fabric tables traffic) start rest cycle in
    let stays = stays_in (DependsOn fabric tables traffic) start rest cycle in (
      ring.queue fabric tables traffic room is next some depends stays,
      ring.all_stand fabric tables traffic room is next some depends stays,
      ring.all_fit fabric tables traffic room is next some depends stays,
      λ channel has. ring.size fabric tables traffic room is next some depends stays channel (contained start rest channel has),
      λ channel has. ring.stuck fabric tables traffic room is next some depends stays channel (contained start rest channel has),
    )
