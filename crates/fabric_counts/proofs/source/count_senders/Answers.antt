use Rattle.std.proofs.Common.{sym, subst, arith}
use Rattle.fabric_counts.proofs.SendLemmas.{count_heard}
use Rattle.fabric_model.specs.declared.node.EndPort.{EndPort}
use Rattle.fabric_routes.specs.declared.audience.Audience.{Audience}
use Rattle.fabric_routes.specs.declared.audience.Audience.TheVariants.{Hosts, Everyone}
use Rattle.fabric_routes.specs.Audience.{IsHeard, IsHeardFrom}
use Rattle.fabric_routes.specs.Counting.{IsCountOf}
use Rattle.fabric_routes.proofs.CountLemmas.{count_none}
use Rattle.fabric_counts.proofs.source.count_senders.Goals as goal

pub returns-in-Nobody-clause-count : goal.returns-in-Nobody-clause-count
returns-in-Nobody-clause-count c = count_none EndPort (IsHeard c.args.fabric.now c.args.audience c.args.lid) (λ source heard. subst (λ (a : Audience). IsHeardFrom c.args.fabric.now a source) c.in-Nobody.is heard.is_from)

pub returns-in-Hosts-clause-count : goal.returns-in-Hosts-clause-count
returns-in-Hosts-clause-count c = subst (λ (a : Audience). IsCountOf (IsHeard c.args.fabric.now a c.args.lid) c.count_but_owner.result) (sym c.in-Hosts.is) (count_heard c.args.fabric.now c.args.lid Hosts c.count_but_owner.result c.count_but_owner.ensures.count)

pub returns-in-Everyone-clause-count : goal.returns-in-Everyone-clause-count
returns-in-Everyone-clause-count c = subst (λ (a : Audience). IsCountOf (IsHeard c.args.fabric.now a c.args.lid) c.count_but_owner-in-Everyone.result) (sym c.in-Everyone.is) (count_heard c.args.fabric.now c.args.lid Everyone c.count_but_owner-in-Everyone.result c.count_but_owner-in-Everyone.ensures.count)
