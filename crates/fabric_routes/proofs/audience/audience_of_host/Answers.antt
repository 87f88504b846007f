use Rattle.std.proofs.Common.{ap}
use Rattle.std.proofs.lemmas.Bool.{iff_false}
use Rattle.fabric_routes.specs.declared.audience.Audience.TheVariants.{Hosts, Everyone}
use Rattle.fabric_routes.proofs.AudienceLemmas.{host_audience, to_host, to_uncabled}
use Rattle.fabric_routes.proofs.audience.audience_of_host.Goals as goal

pub returns-then-not-is_cabled : goal.returns-then-not-is_cabled
returns-then-not-is_cabled c = λ tables lid owns. to_uncabled c.args.fabric.now tables c.args.traffic lid c.args.end owns (iff_false c.is_cabled.ensures c.if-not-is_cabled.true)

pub returns-in-Hosts : goal.returns-in-Hosts
returns-in-Hosts c = λ tables lid owns. to_host c.args.fabric.now tables c.args.traffic lid c.args.end Hosts owns (c.is_cabled.ensures.0 c.if-not-is_cabled.false) (ap host_audience c.in-Hosts.is)

pub returns-in-Lids : goal.returns-in-Lids
returns-in-Lids c = λ tables lid owns. to_host c.args.fabric.now tables c.args.traffic lid c.args.end Hosts owns (c.is_cabled.ensures.0 c.if-not-is_cabled.false) (ap host_audience c.in-Lids.is)

pub returns-in-Managed : goal.returns-in-Managed
returns-in-Managed c = λ tables lid owns. to_host c.args.fabric.now tables c.args.traffic lid c.args.end Everyone owns (c.is_cabled.ensures.0 c.if-not-is_cabled.false) (ap host_audience c.in-Managed.is)

pub returns-in-All : goal.returns-in-All
returns-in-All c = λ tables lid owns. to_host c.args.fabric.now tables c.args.traffic lid c.args.end Everyone owns (c.is_cabled.ensures.0 c.if-not-is_cabled.false) (ap host_audience c.in-All.is)

pub returns-in-Rows : goal.returns-in-Rows
returns-in-Rows c = λ tables lid owns. to_host c.args.fabric.now tables c.args.traffic lid c.args.end Everyone owns (c.is_cabled.ensures.0 c.if-not-is_cabled.false) (ap host_audience c.in-Rows.is)
