-- The judgement of the tables of a fabric.
use Rattle.std.specs.Prelude.{◌≡◌, ◌↔◌, false, IsTrue}
use Rattle.fabric_tables.specs.Cells.{TablesOf}
use Rattle.fabric_model.specs.Fabric.{FabricOf}
use Rattle.fabric_model.specs.declared.traffic.Traffic.{Traffic}
use Rattle.fabric_routes.specs.Found.{SomeIsStopped}
use Rattle.fabric_verdict.specs.declared.judge.Judgement.{Judgement}
use Rattle.fabric_verdict.specs.Count.{IsDependencyCount}
use Rattle.fabric_verdict.specs.Verdict.{IsVerdict, PassesIfRanked}

-- `judged` has the verdict, whether a route is stopped, and the number of dependencies; if no route is
-- stopped and there is no credit loop, every route arrives
pub record IsJudgement (fabric : FabricOf) (tables : TablesOf) (traffic : Traffic) (judged : Judgement) : Type 0 where
  pub verdict : IsVerdict fabric tables traffic judged.verdict
  pub stops : IsTrue judged.stops ↔ SomeIsStopped fabric tables traffic
  pub passes : judged.stops ≡ false → PassesIfRanked fabric tables traffic judged.verdict
  pub dependencies : IsDependencyCount fabric tables traffic judged.dependencies
