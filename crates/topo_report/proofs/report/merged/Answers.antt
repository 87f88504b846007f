use Rattle.std.proofs.Common.{ap}
use Rattle.an_base.specs.Values.{EntryOf}
use Rattle.topo_report.proofs.LifeLaws.{is_of-tested}
use Rattle.topo_report.proofs.MergeLemmas.{merging_begins, keeps_own}
use Rattle.topo_report.proofs.report.merged.Goals as goal

pub lives-init : goal.lives-init
lives-init c = rw c.in_ok-items.ensures.items (merging_begins _ _ _ c.requires.mine c.requires.heard)

pub lives-preserved-in_ok-push : goal.lives-preserved-in_ok-push
lives-preserved-in_ok-push c =
    let own = is_of-tested c.args.me c.in-Some.entry.now c.entry.inside.life _ (ap (λ (e : EntryOf). e.life) c.entry.view_is) c.if-eq.ensures in
    rw (c.in_ok-push.ensures.items, c.copy.ensures) (keeps_own _ _ _ _ _ _ _ _ _ own c.lives.invariant c.in-Some.ensures)
