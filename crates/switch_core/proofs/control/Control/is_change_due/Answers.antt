use Rattle.std.proofs.Common.{◌≡◌, ◌∙◌, ap, not}
use Rattle.std.specs.Cmp.Lexicographic.{pointwise}
use Rattle.port_monitor.specs.Histories.{links_after}
use Rattle.switch_core.specs.Switch.{good_links}
use Rattle.switch_core.proofs.ChangeLemmas.{is_same_link, links_changed}
use Rattle.switch_core.proofs.control.Control.is_change_due.Goals as goal

pub returns : goal.returns
returns c s stands =
    let m = c.args.self.now.monitor in
    let links : c.as_slice-2.result.now ≡ good_links s = c.as_slice-2.ensures.all ∙ c.good_links.ensures s.ports stands.ports ∙ ap (λ l. links_after l s.ports) stands.monitor in
    c.ne.ensures ∙ ap (λ xs. not (pointwise is_same_link xs c.as_slice-2.result.now)) c.as_slice.ensures.all
    ∙ links_changed c.args.self.now.core s.joined s.card s.log c.args.before.now c.as_slice-2.result.now (good_links s) (c.is_none.ensures ∙ ap not c.if-is_none.false) stands.joined links
