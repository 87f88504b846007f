use Rattle.std.proofs.Common.{arith, rules, Fits, w32, ◌+◌}
use Rattle.flow_text.proofs.FlowSends.{packet_fits}
use Rattle.flow_text.proofs.sent.sends_of.Goals as goal

pub overflow_cast-len : goal.overflow_cast-len
overflow_cast-len c =
    let next : Fits w32 (c.len.result + 1) = packet_fits c.args.script.now c.commands.command-index c.len.result c.commands.sends.items c.commands-command-items.ensures.kept.command_count c.commands.invariant (omega (arith, c.len.ensures, c.commands.sends.ok)) in
    search (rules, next)

pub overflow_add-len : goal.overflow_add-len
overflow_add-len c = packet_fits c.args.script.now c.commands.command-index c.len.result c.commands.sends.items c.commands-command-items.ensures.kept.command_count c.commands.invariant (omega (arith, c.len.ensures, c.commands.sends.ok))
