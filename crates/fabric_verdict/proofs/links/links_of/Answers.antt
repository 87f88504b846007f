use Rattle.std.proofs.Common.{ap, ℕ, ◌+◌, arith}
use Rattle.fabric_routes.specs.Found.{IsChannel}
use Rattle.fabric_verdict.specs.Count.{IsLinkAt}
use Rattle.fabric_verdict.proofs.LinkLemmas.{channel_at, few_more, link_at, ports_all, ports_more, ports_none}
use Rattle.fabric_verdict.proofs.links.links_of.Goals as goal

pub ports-init : goal.ports-init
ports-init c =
    let fits = c.most-number-end.ensures.fabric in
    record {
      links = ports_none c.args.fabric.now fits (IsLinkAt c.args.fabric.now) (λ channel link. link.leads) c.args.switch;
      few_links = omega arith;
      channels = ports_none c.args.fabric.now fits (IsChannel c.args.fabric.now) (λ channel is. is) c.args.switch;
      few_channels = omega arith;
    }

pub ports-preserved : goal.ports-preserved
ports-preserved c =
    let fits = c.most-number-end.ensures.fabric in
    let i = c.ports.invariant in
    let at = c.ports.number in
    let there = c.side-side.ensures.side in
    let link = link_at c.args.fabric.now c.args.switch (at + 1) c.side-side.result there c.is_first.result c.is_first.ensures in
    let channel = channel_at c.args.fabric.now c.args.switch (at + 1) c.side-side.result there c.leads_on.result c.leads_on.ensures in
    let links = ap (λ (n : ℕ). c.ports.links + n) c.from-links.ensures in
    let channels = ap (λ (n : ℕ). c.ports.channels + n) c.from-channels.ensures in
    record {
      links = ports_more c.args.fabric.now fits (IsLinkAt c.args.fabric.now) (λ one link. link.leads) c.args.switch at c.ports.links _ c.is_first.result links link i.links;
      few_links = few_more at c.ports.links _ c.is_first.result links i.few_links;
      channels = ports_more c.args.fabric.now fits (IsChannel c.args.fabric.now) (λ one is. is) c.args.switch at c.ports.channels _ c.leads_on.result channels channel i.channels;
      few_channels = few_more at c.ports.channels _ c.leads_on.result channels i.few_channels;
    }

pub returns-clause-links : goal.returns-clause-links
returns-clause-links c = ports_all c.args.fabric.now c.most-number-end.ensures.fabric (IsLinkAt c.args.fabric.now) (λ channel link. link.leads) c.args.switch c.ports.number c.ports.links (omega arith) c.ports.invariant.links

pub returns-clause-channels : goal.returns-clause-channels
returns-clause-channels c = ports_all c.args.fabric.now c.most-number-end.ensures.fabric (IsChannel c.args.fabric.now) (λ channel is. is) c.args.switch c.ports.number c.ports.channels (omega arith) c.ports.invariant.channels
