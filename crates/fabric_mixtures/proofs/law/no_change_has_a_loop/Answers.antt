use Rattle.fabric_mixtures.proofs.MixtureLemmas.{depends_while, no_loop_while}
use Rattle.fabric_mixtures.proofs.law.no_change_has_a_loop.Goals as goal

pub returns-clause-depends : goal.returns-clause-depends
returns-clause-depends c fabric old new traffic channel next on = depends_while fabric old new traffic channel next on

pub returns-clause-no_loop : goal.returns-clause-no_loop
returns-clause-no_loop c fabric old new traffic none = no_loop_while fabric old new traffic none
