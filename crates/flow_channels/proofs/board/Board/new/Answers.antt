use Rattle.std.proofs.Common.{◌≡◌, subst, arith, ℕ}
use Rattle.std.specs.Prelude.{min}
use Rattle.flow_channels.specs.Board.{AreEmptyQueues}
use Rattle.flow_channels.proofs.BoardLemmas.{empty_is, kept_empty}
use Rattle.flow_channels.proofs.board.Board.new.Goals as goal

pub returns-clause-kept : goal.returns-clause-kept
returns-clause-kept c =
    let t = c.args.tables.now in
    let packets = c.in_ok-with_capacity.ensures.exact in
    let entries = c.in_ok-with_capacity-2.ensures.exact in
    let places : c.min-places.result ≡ min t.room t.limit = omega (arith, c.min-places.ensures) in
    kept_empty t c.in_ok-with_capacity.field-0 c.in_ok-with_capacity-2.field-0 c.in_ok-empty_queues.field-0 c.in_ok-idle_routers.field-0 c.requires.within c.in_ok-with_capacity.ensures.items c.in_ok-with_capacity-2.ensures.items (omega arith) (omega arith) (subst (λ (n : ℕ). AreEmptyQueues t.wires.items n 1651 c.in_ok-empty_queues.field-0.items) places c.in_ok-empty_queues.ensures) c.in_ok-idle_routers.ensures

pub returns-clause-flow : goal.returns-clause-flow
returns-clause-flow c = empty_is c.in_ok-with_capacity.field-0 c.in_ok-with_capacity-2.field-0 c.in_ok-empty_queues.field-0 c.in_ok-idle_routers.field-0 c.in_ok-empty_queues.ensures.count c.in_ok-empty_queues.ensures.empty c.in_ok-idle_routers.ensures.count c.in_ok-idle_routers.ensures.idle
