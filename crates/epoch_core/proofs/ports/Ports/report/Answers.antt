use Rattle.std.proofs.Common.{◌≡◌, ◌∙◌, sym, ap, arith, ℕ, List}
use Rattle.an_base.specs.Values.{EntryOf}
use Rattle.topo_report.specs.Report.{ReportOf}
use Rattle.epoch_core.specs.declared.ports.Heard.{Heard}
use Rattle.epoch_core.specs.Log.{on_port, is_claimed, last_report}
use Rattle.epoch_core.specs.Epoch.{entries_in}
use Rattle.epoch_core.proofs.ReportLemmas.{report_of-one, report_merged, report_kept, nothing_claimed, nothing_reported}
use Rattle.epoch_core.proofs.ports.Ports.report.Goals as goal
use Rattle.epoch_core.proofs.ports.Ports.report.Goals.{then-heard_on+in-Some+in_ok-merge, then-heard_on+in_default, else-heard_on}

pub links-init : goal.links-init
links-init c = λ log h.
    let made : List EntryOf → ReportOf = λ es. record { me = c.args.own.life; entries = es } in
    c.in_ok-report.ensures ∙ ap made (sym (report_of-one c.args.own.life c.args.own))

pub links-preserved : goal.links-preserved
links-preserved c = λ log h.
    let links = c.as_slice-link-items.result.now in
    let link = c.link-item.result in
    let claims : c.heard_on.result.is_claimed ≡ is_claimed (on_port link.port log) = ap (λ (x : Heard). x.is_claimed) (c.heard_on.ensures log h) ∙ ap (λ (n : ℕ). is_claimed (on_port n log)) c.port.ensures.port in
    elim c.if-heard_on.branch [
      | then-heard_on+in-Some+in_ok-merge w ↦
          let says = ap entries_in (w.in-Some.ensures log h) ∙ ap (λ (n : ℕ). entries_in (last_report (on_port n log))) w.port-then-heard_on.ensures.port in
          w.report-is ∙ report_merged log links c.links.link-index link c.args.own c.links.report w.merge.new.self w.in-Some.entries.now (omega arith) c.link-item.is (sym w.if-heard_on.true ∙ claims) says (c.links.invariant log h) w.in_ok-merge.ensures.ok
      | then-heard_on+in_default w ↦
          let says = sym (ap (λ (n : ℕ). entries_in (last_report (on_port n log))) w.port-then-heard_on.ensures.port) ∙ ap entries_in (sym (w.in_default.ensures log h)) in
          w.report-is ∙ report_kept log links c.links.link-index link c.args.own c.links.report (omega arith) c.link-item.is (nothing_reported log link says) (c.links.invariant log h)
      | else-heard_on w ↦
          w.report-is ∙ report_kept log links c.links.link-index link c.args.own c.links.report (omega arith) c.link-item.is (nothing_claimed log link (sym claims ∙ w.if-heard_on.false)) (c.links.invariant log h)
    ]
