use Rattle.std.proofs.Common.{◌∙◌, subst}
use Rattle.switch_core.specs.Stands.{Done}
use Rattle.switch_core.specs.Steps.{all_resent}
use Rattle.switch_core.proofs.ResendLemmas.{all_links, one_link_more, windows_kept}
use Rattle.switch_core.proofs.control.Control.resend_all.Goals as goal

pub links-init : goal.links-init
links-init c = (λ s d v stands rest. rest s stands, c.requires)

pub resend-requires : goal.resend-requires
resend-requires c = c.links.invariant.1

pub links-preserved : goal.links-preserved
links-preserved c =
    let l = c.link-item.result in
    let old = c.links.self in (
      one_link_more c.as_slice-link-items.result.now c.links.link-index l c.args.self.now old c.resend.new.self c.args.out.now c.links.out c.resend.new.out c.links-test.true c.link-item.is c.links.invariant.0 c.in_ok-resend.ensures,
      windows_kept l old c.resend.new.self c.links.out c.resend.new.out c.links.invariant.1 c.in_ok-resend.ensures,
    )

pub returns : goal.returns
returns c s stands =
    subst (λ ls. Done c.links.self c.args.out.now c.links.out (all_resent ls s)) (c.as_slice-link-items.ensures.all ∙ c.copy-links.ensures ∙ stands.links)
    (all_links c.as_slice-link-items.result.now c.links.link-index c.args.self.now c.links.self c.args.out.now c.links.out s c.links-test.false c.links.invariant.0 stands)
