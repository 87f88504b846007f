use Rattle.std.proofs.Common.{◌≡◌, ℕ, arith, subst}
use Rattle.fabric_tables.specs.Cells.{tables_of}
use Rattle.fabric_routes.proofs.AudienceLemmas.{AreTargetsBelow, all_targets, no_targets, targets_more}
use Rattle.fabric_routes.proofs.audience.targets_of.Goals as goal

pub bits-init : goal.bits-init
bits-init c = no_targets c.args.fabric.now (tables_of c.args.cells.now) c.args.traffic c.args.block

pub bits-preserved : goal.bits-preserved
bits-preserved c = targets_more c.args.fabric.now (tables_of c.args.cells.now) c.args.traffic c.args.block c.bits.bit c.bits.targets c.with-targets.result c.bits.invariant c.audience_of-audience.result c.audience_of-audience.ensures c.with-targets.ensures

pub returns : goal.returns
returns c =
    let last : c.bits.bit ≡ 64 = omega arith in
    all_targets c.args.fabric.now (tables_of c.args.cells.now) c.args.traffic c.args.block c.bits.targets
    (subst (λ (n : ℕ). AreTargetsBelow c.args.fabric.now (tables_of c.args.cells.now) c.args.traffic c.args.block n c.bits.targets) last c.bits.invariant)
