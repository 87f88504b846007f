use Rattle.std.proofs.Common.{sym, subst, arith}
use Rattle.fabric_model.specs.Fabric.{LeadsWithin, switch_count}
use Rattle.fabric_model.proofs.fabric.Fabric.side_at.Goals as goal

pub returns-clause-within : goal.returns-clause-within
returns-clause-within c =
    let fits = c.packed_side.ensures.fabric in
    let count = fits.count in
    subst (LeadsWithin (switch_count c.args.self.now)) (sym c.packed_side.ensures.side) (fits.within c.args.place (omega arith))
