use Rattle.std.proofs.Common.{arith}
use Rattle.fabric_model.specs.Fabric.{switch_count}
use Rattle.fabric_model.proofs.FabricLemmas.{cable_within}
use Rattle.fabric_model.proofs.fabric.Fabric.cable_of.Goals as goal

pub returns-clause-within : goal.returns-clause-within
returns-clause-within c = cable_within (switch_count c.args.self.now) c.args.self.now.cables c.args.end c.cable_at.result c.cable_at.ensures.fabric.cabled c.cable_at.ensures.cable

pub returns-clause-few : goal.returns-clause-few
returns-clause-few c =
    let fits = c.cable_at.ensures.fabric in
    let few = fits.few_ends in
    let count = fits.cables in
    omega arith
