use Rattle.std.proofs.Common.{◌+◌, ◌&&◌, ◌∙◌, drop, sym, ap, subst}
use Rattle.std.specs.List.{list_all}
use Rattle.std.proofs.lemmas.List.{at_drop_more, at_drop_all}
use Rattle.std.proofs.lemmas.List.Folds.{list_all_at}
use Rattle.net_script.specs.Scripts.{IsScript}
use Rattle.net_graph.specs.Wires.{IsLink}
use Rattle.net_state.specs.Fabric.{FabricOf, count}
use Rattle.net_state.specs.Agree.{link_agrees}
use Rattle.net_state.proofs.AskLemmas.{link_fits}
use Rattle.net_state.proofs.fabric.Fabric.do_links_agree.Goals as goal

pub link_agrees-requires : goal.link_agrees-requires
link_agrees-requires c =
    let kept = subst (λ (f : FabricOf). IsScript f.script) c.self.view_is c.links-link-items.ensures.kept in
    let are = c.links-link-items.ensures.links ∙ ap (λ (f : FabricOf). f.script.wires.links) c.self.view_is in
    subst (IsLink (count c.args.self.now)) (sym c.link-item.is)
    (link_fits c.args.self.now.script c.links-link-items.result.now c.links.link-index c.link-item.result kept are c.links-test.true)

pub returns-then-not-link_agrees : goal.returns-then-not-link_agrees
returns-then-not-link_agrees c =
    let are = c.links-link-items.ensures.links ∙ ap (λ (f : FabricOf). f.script.wires.links) c.self.view_is in
    let agrees = link_agrees c.args.self.now in
    let no = ap agrees (sym c.link-item.is) ∙ sym c.link_agrees.ensures ∙ c.if-not-link_agrees.true in
    sym (ap (list_all agrees) (sym are) ∙ list_all_at agrees c.links-link-items.result.now c.links.link-index c.link-item.result c.links-test.true no)

pub links-preserved : goal.links-preserved
links-preserved c =
    let agrees = link_agrees c.args.self.now in
    let yes = ap agrees (sym c.link-item.is) ∙ sym c.link_agrees.ensures ∙ c.if-not-link_agrees.false in
    c.links.invariant ∙ at_drop_more (list_all agrees) c.links-link-items.result.now c.links.link-index c.link-item.result c.links-test.true
    ∙ ap (λ b. b && list_all agrees (drop (c.links.link-index + 1) c.links-link-items.result.now)) yes

pub returns : goal.returns
returns c =
    let are = c.links-link-items.ensures.links ∙ ap (λ (f : FabricOf). f.script.wires.links) c.self.view_is in
    sym (ap (list_all (link_agrees c.args.self.now)) (sym are) ∙ c.links.invariant ∙ at_drop_all (list_all (link_agrees c.args.self.now)) c.links-link-items.result.now c.links.link-index c.links-test.false)
