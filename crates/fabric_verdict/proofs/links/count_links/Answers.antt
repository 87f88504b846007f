use Rattle.std.proofs.Common.{arith}
use Rattle.fabric_routes.specs.Found.{IsChannel}
use Rattle.fabric_verdict.specs.Count.{IsLinkAt}
use Rattle.fabric_verdict.proofs.LinkLemmas.{switches_all, switches_more, switches_none}
use Rattle.fabric_verdict.proofs.links.count_links.Goals as goal

pub switches-init : goal.switches-init
switches-init c =
    let fits = c.switches-switch-end.ensures.fabric in
    record {
      links = switches_none c.args.fabric.now fits (IsLinkAt c.args.fabric.now) (λ channel link. link.leads);
      few_links = omega arith;
      channels = switches_none c.args.fabric.now fits (IsChannel c.args.fabric.now) (λ channel is. is);
      few_channels = omega arith;
    }

pub switches-preserved : goal.switches-preserved
switches-preserved c =
    let fits = c.switches-switch-end.ensures.fabric in
    let i = c.switches.invariant in
    let own = c.links_of-own.ensures in
    record {
      links = switches_more c.args.fabric.now fits (IsLinkAt c.args.fabric.now) (λ channel link. link.leads) c.switches.switch c.switches.links c.links_of-own.result.links i.links own.links;
      few_links = omega arith;
      channels = switches_more c.args.fabric.now fits (IsChannel c.args.fabric.now) (λ channel is. is) c.switches.switch c.switches.channels c.links_of-own.result.channels i.channels own.channels;
      few_channels = omega arith;
    }

pub returns-clause-links : goal.returns-clause-links
returns-clause-links c = switches_all c.args.fabric.now c.switches-switch-end.ensures.fabric (IsLinkAt c.args.fabric.now) (λ channel link. link.leads) c.switches.switch c.switches.links (omega arith) c.switches.invariant.links

pub returns-clause-channels : goal.returns-clause-channels
returns-clause-channels c = switches_all c.args.fabric.now c.switches-switch-end.ensures.fabric (IsChannel c.args.fabric.now) (λ channel is. is) c.switches.switch c.switches.channels (omega arith) c.switches.invariant.channels
