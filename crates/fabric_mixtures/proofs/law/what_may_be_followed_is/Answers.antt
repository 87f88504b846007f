use Rattle.fabric_model.specs.declared.traffic.Traffic.TheVariants.{All, Rows}
use Rattle.fabric_mixtures.proofs.MixtureLemmas as lemma
use Rattle.fabric_mixtures.proofs.law.what_may_be_followed_is.Goals as goal

pub returns-clause-changing : goal.returns-clause-changing
returns-clause-changing c fabric old new lid channel next may sends = lemma.changing fabric old new All lid channel next may (lemma.to_owner fabric old new lid channel next sends)

pub returns-clause-at_once : goal.returns-clause-at_once
returns-clause-at_once c fabric old new lid channel next may sends apart = lemma.at_once fabric old new All lid channel next may (lemma.to_owner fabric old new lid channel next sends) apart

pub returns-clause-changing_unowned : goal.returns-clause-changing_unowned
returns-clause-changing_unowned c fabric old new lid channel next may unowned low = lemma.changing fabric old new Rows lid channel next may (lemma.to_nobody fabric old new lid channel next unowned low)

pub returns-clause-at_once_unowned : goal.returns-clause-at_once_unowned
returns-clause-at_once_unowned c fabric old new lid channel next may unowned low apart = lemma.at_once fabric old new Rows lid channel next may (lemma.to_nobody fabric old new lid channel next unowned low) apart
