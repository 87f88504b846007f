use Rattle.std.proofs.Common.{◌∙◌, sym}
use Rattle.fabric_counts.proofs.SendLemmas.{but_nobody, but_owner}
use Rattle.fabric_counts.proofs.source.count_but_owner.Goals as goal

pub returns-in-Some-clause-count : goal.returns-in-Some-clause-count
returns-in-Some-clause-count c = but_owner c.args.fabric.now c.args.lid c.args.traffic c.count_others.result c.in-Some.owner (sym c.owner.ensures ∙ c.in-Some.is) c.count_others.ensures.count

pub returns-in-None-clause-count : goal.returns-in-None-clause-count
returns-in-None-clause-count c = but_nobody c.args.fabric.now c.args.lid c.args.traffic c.args.sources (sym c.owner.ensures ∙ c.in-None.is) c.requires
