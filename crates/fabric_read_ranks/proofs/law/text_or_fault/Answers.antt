use Rattle.fabric_read_ranks.proofs.RankLemmas as lemma
use Rattle.fabric_read_ranks.proofs.law.text_or_fault.Goals as goal

pub returns-clause-one_list : goal.returns-clause-one_list
returns-clause-one_list c fabric = lemma.one_list fabric

pub returns-clause-one_fault : goal.returns-clause-one_fault
returns-clause-one_fault c fabric = lemma.one_fault fabric

pub returns-clause-not_both : goal.returns-clause-not_both
returns-clause-not_both c fabric = lemma.text_or fabric

pub returns-clause-either : goal.returns-clause-either
returns-clause-either c fabric = lemma.either fabric
