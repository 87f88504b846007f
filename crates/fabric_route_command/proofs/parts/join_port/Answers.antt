use Rattle.std.proofs.Common.{sym}
use Rattle.fabric_route_command.proofs.JoinLemmas.{port_joined}
use Rattle.fabric_route_command.proofs.parts.join_port.Goals as goal

pub returns-in-To : goal.returns-in-To
returns-in-To c = port_joined c.args.fabric.now c.args.switch c.in-To.next c.in-To.field-1 c.args.port c.args.labels.now c.rename.new.labels c.requires.switch c.in-To.ensures.within (sym c.in-To.ensures.side) c.rename.ensures c.requires.labels
