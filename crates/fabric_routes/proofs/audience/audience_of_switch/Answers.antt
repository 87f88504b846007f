use Rattle.std.proofs.Common.{ap}
use Rattle.fabric_routes.specs.declared.audience.Audience.TheVariants.{Nobody, Hosts, Everyone}
use Rattle.fabric_routes.proofs.AudienceLemmas.{switch_audience, to_switch}
use Rattle.fabric_routes.proofs.audience.audience_of_switch.Goals as goal

pub returns-in-Hosts : goal.returns-in-Hosts
returns-in-Hosts c = λ fabric tables lid switch owns. to_switch fabric tables c.args.traffic lid switch Nobody owns (ap switch_audience c.in-Hosts.is)

pub returns-in-Lids : goal.returns-in-Lids
returns-in-Lids c = λ fabric tables lid switch owns. to_switch fabric tables c.args.traffic lid switch Hosts owns (ap switch_audience c.in-Lids.is)

pub returns-in-Managed : goal.returns-in-Managed
returns-in-Managed c = λ fabric tables lid switch owns. to_switch fabric tables c.args.traffic lid switch Hosts owns (ap switch_audience c.in-Managed.is)

pub returns-in-All : goal.returns-in-All
returns-in-All c = λ fabric tables lid switch owns. to_switch fabric tables c.args.traffic lid switch Everyone owns (ap switch_audience c.in-All.is)

pub returns-in-Rows : goal.returns-in-Rows
returns-in-Rows c = λ fabric tables lid switch owns. to_switch fabric tables c.args.traffic lid switch Everyone owns (ap switch_audience c.in-Rows.is)
