use Rattle.std.proofs.Common.{◌+◌, sym, subst, refl, arith, max}
use Rattle.fabric_tables.specs.Cells.{tables_of}
use Rattle.fabric_counts.specs.Steps.{AreCountsUntil}
use Rattle.fabric_counts.specs.declared.counts.Counts.{Counts}
use Rattle.fabric_counts.proofs.SendLemmas.{count_sends}
use Rattle.fabric_counts.proofs.StepLemmas.{arrived_counts, unsent_counts}
use Rattle.fabric_routes.specs.declared.audience.Audience.{Audience}
use Rattle.fabric_routes.specs.Audience.{IsHeardFrom}
use Rattle.fabric_counts.proofs.count.count_lid.Goals as goal

pub returns-in-Nobody-clause-counts : goal.returns-in-Nobody-clause-counts
returns-in-Nobody-clause-counts c = unsent_counts c.args.fabric.now (tables_of c.args.cells.now) c.args.traffic c.args.lid c.args.counts
    (λ source sends. subst (λ (a : Audience). IsHeardFrom c.args.fabric.now a source) c.in-Nobody.is ((c.audience_of-audience.ensures source).0 sends).is_from) c.requires.counts

pub with_arrived-requires-clause-all : goal.with_arrived-requires-clause-all
with_arrived-requires-clause-all c = (let all = c.requires.counts.exact.all in omega arith)

pub with_arrived-requires-clause-unowned : goal.with_arrived-requires-clause-unowned
with_arrived-requires-clause-unowned c = c.requires.counts.few_unowned

pub with_arrived-requires-clause-fits : goal.with_arrived-requires-clause-fits
with_arrived-requires-clause-fits c = (let few = c.requires.counts.few in omega arith)

pub returns-in-Some-clause-counts : goal.returns-in-Some-clause-counts
returns-in-Some-clause-counts c =
    let fabric = c.args.fabric.now in
    let tables = tables_of c.args.cells.now in
    let senders = count_sends fabric tables c.args.traffic c.args.lid c.audience_of-audience.result c.count_senders-senders.result c.audience_of-audience.ensures c.count_senders-senders.ensures.count in
    subst (λ (n : Counts). AreCountsUntil fabric tables c.args.traffic (c.args.lid + 1) 0 n) (sym c.with_arrived.ensures)
    (arrived_counts fabric tables c.args.traffic c.args.lid c.args.counts c.count_senders-senders.result c.in-Some.hops (max c.args.counts.hops c.in-Some.hops) senders
    c.count_senders-senders.ensures.few (c.in-Some.ensures c.args.traffic c.requires.starts) refl c.requires.counts)
