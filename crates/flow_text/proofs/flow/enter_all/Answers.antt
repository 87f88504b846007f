use Rattle.std.proofs.Common.{◌<◌, arith, length}
use Rattle.flow_text.proofs.FlowTurns.{may_as, next_enters, one_more_entered}
use Rattle.flow_text.proofs.flow.enter_all.Goals as goal

pub enter-requires : goal.enter-requires
enter-requires c =
    let sends = c.args.sends.now in
    let i = c.sends.sent-index in
    let sent = c.sent-item.result in
    let low : i < length sends = omega arith in
    let (layout, ready, may) = c.requires in
    next_enters layout c.args.home.now sends i c.number.result c.number-in-sends.result sent c.args.flow.now c.sends.flow (c.sends.invariant.1 layout ready.over may) may ready.room c.sends.invariant.0 low c.sent-item.is c.number.ensures c.number-in-sends.ensures

pub sends-preserved : goal.sends-preserved
sends-preserved c =
    let sends = c.args.sends.now in
    let i = c.sends.sent-index in
    let sent = c.sent-item.result in
    let low : i < length sends = omega arith in
    let so_far = c.sends.invariant.0 in
    let (any, ready, able) = c.requires in (
      one_more_entered c.args.home.now sends i c.number.result c.number-in-sends.result sent c.args.flow.now c.sends.flow c.enter.new.self so_far low c.sent-item.is c.number.ensures c.number-in-sends.ensures c.enter.ensures.flow,
      λ layout over may. c.enter.ensures.over layout (c.sends.invariant.1 layout over may) (may_as layout c.args.home.now sends i c.number.result c.number-in-sends.result sent c.args.flow.now c.sends.flow may ready.room so_far low c.sent-item.is c.number.ensures c.number-in-sends.ensures),
    )
