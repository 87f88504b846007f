use Rattle.std.proofs.Common.{subst, arith, ℕ, List}
use Rattle.std.proofs.lemmas.List.{take_all}
use Rattle.fcfc_router.proofs.BitLemmas.{HasBits, no_bits_yet, one_more_bit, ports_of_is}
use Rattle.fcfc_router.proofs.router.set_of.Goals as goal

pub ports-init : goal.ports-init
ports-init c = no_bits_yet c.args.ports.now

pub ports-preserved : goal.ports-preserved
ports-preserved c =
    let low = c.ports-test.true in
    let port = c.requires.ports c.ports.port-index 0 low in
    one_more_bit c.args.ports.now c.ports.port-index c.ports.set low (omega arith) c.ports.invariant

pub returns : goal.returns
returns c =
    ports_of_is c.ports.set c.args.ports.now c.requires.ports c.requires.rising (subst (λ (xs : List ℕ). HasBits c.ports.set xs) (take_all c.ports.port-index c.args.ports.now c.ports-test.false) c.ports.invariant)
