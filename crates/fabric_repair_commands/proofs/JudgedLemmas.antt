-- The status of tables that pass.
use Rattle.std.proofs.Common.{◌≡◌, sym, subst, refl}
use Rattle.fabric_tables.specs.Cells.{TablesOf}
use Rattle.fabric_model.specs.Fabric.{FabricOf}
use Rattle.fabric_model.specs.declared.traffic.Traffic.{Traffic}
use Rattle.fabric_routes.specs.Found.{SomeIsStopped}
use Rattle.fabric_verdict.specs.Verdict.{AllArrive}
use Rattle.fabric_call.specs.declared.status.Status.{Status}
use Rattle.fabric_call.specs.declared.status.Status.TheVariants.{Ok, RoutesLost, Cycle}
use Rattle.fabric_judge_commands.specs.Judged.{IsEndOf}
use Rattle.fabric_repair_commands.specs.Repairs.{Pass}

module _ (fabric : FabricOf) (tables : TablesOf) (traffic : Traffic) (pass : Pass traffic fabric tables) (arrive : AllArrive fabric tables traffic → SomeIsStopped fabric tables traffic → ⊥) where
  ends_with_ok : (status : Status) → IsEndOf fabric tables traffic status → status ≡ Ok
  ends_with_ok Ok ends = refl
  ends_with_ok RoutesLost ends = absurd (arrive pass.1.arrived ends.2)
  ends_with_ok Cycle ends = absurd (pass.1.ranked.no_cycle ends.0 ends.1 ends.2)
  ends_with_ok status ends = absurd ends

  pub judged_ok : (other : FabricOf) (read : TablesOf) (status : Status) → fabric ≡ other → tables ≡ read → IsEndOf other read traffic status → status ≡ Ok
  judged_ok other read status same too ends =
      ends_with_ok status (subst (λ (t : TablesOf). IsEndOf fabric t traffic status) (sym too) (subst (λ (f : FabricOf). IsEndOf f read traffic status) (sym same) ends))
