use Rattle.std.proofs.Common.{arith}
use Rattle.an_base.proofs.PortSetLemmas.{all_listed, listed_below, listed_room, none_listed, one_listed}
use Rattle.an_base.proofs.row.ports_in.Goals as goal

pub ports-init : goal.ports-init
ports-init c = rw c.new-ports.ensures (none_listed c.args.set)

pub ports-preserved : goal.ports-preserved
ports-preserved c = rw c.push.ensures (one_listed c.args.set c.ports.left c.lowest-port.result c.without-left.result c.ports.ports c.ports.invariant c.lowest-port.ensures.has c.lowest-port.ensures.lowest c.without-left.ensures.ports)

pub returns : goal.returns
returns c = all_listed c.args.set c.ports.left c.ports.ports c.requires c.ports.invariant (omega arith)

pub push-requires-clause-room : goal.push-requires-clause-room
push-requires-clause-room c = listed_room c.args.set c.ports.left c.lowest-port.result c.ports.ports c.requires c.ports.invariant c.lowest-port.ensures.has

pub push-requires-clause-rising : goal.push-requires-clause-rising
push-requires-clause-rising c = listed_below c.args.set c.ports.left c.lowest-port.result c.ports.ports c.ports.invariant c.lowest-port.ensures.has
