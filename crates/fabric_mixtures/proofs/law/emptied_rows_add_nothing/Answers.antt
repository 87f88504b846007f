use Rattle.fabric_mixtures.proofs.MixtureLemmas.{emptied_follows, no_loop_emptied}
use Rattle.fabric_mixtures.proofs.law.emptied_rows_add_nothing.Goals as goal

pub returns-clause-follows : goal.returns-clause-follows
returns-clause-follows c fabric old emptied channel next is may = emptied_follows fabric old emptied is channel next may

pub returns-clause-no_loop : goal.returns-clause-no_loop
returns-clause-no_loop c fabric old emptied none is = no_loop_emptied fabric old emptied is none
