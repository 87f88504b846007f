use Rattle.std.proofs.Common.{inl, inr, refl}
use Rattle.fabric_mixtures.proofs.MixtureLemmas.{depends, no_loop}
use Rattle.fabric_mixtures.proofs.law.no_mixture_has_a_loop.Goals as goal

pub returns-clause-depends : goal.returns-clause-depends
returns-clause-depends c fabric old new mixed traffic channel next mix on = depends fabric old new mixed traffic channel next mix on

pub returns-clause-no_loop : goal.returns-clause-no_loop
returns-clause-no_loop c fabric old new mixed traffic none mix = no_loop fabric old new mixed traffic none mix

pub returns-clause-both : goal.returns-clause-both
returns-clause-both c old new = ((λ switch lid. inl refl), (λ switch lid. inr refl))
