-- Where there is no credit loop and no route stops, the tables pass.
use Rattle.std.proofs.Common.{◌≡◌, ◌↔◌, Bool, false}
use Rattle.std.specs.Prelude.{IsTrue}
use Rattle.fabric_tables.specs.Cells.{TablesOf}
use Rattle.fabric_model.specs.Fabric.{FabricOf}
use Rattle.fabric_model.specs.declared.traffic.Traffic.{Traffic}
use Rattle.fabric_routes.specs.Found.{SomeIsStopped}
use Rattle.fabric_verdict.specs.declared.verdict.Verdict.{Verdict}
use Rattle.fabric_verdict.specs.declared.verdict.Verdict.TheVariants.{Ranks, Cycle}
use Rattle.fabric_verdict.specs.Verdict.{IsVerdict, PassesIfRanked}
use Rattle.fabric_verdict.proofs.ArriveLemmas.{arrive}
use Rattle.fabric_verdict.proofs.RankLemmas.{rank_of, ranks_fall}

pub none_stops : (stops : Bool) (Some : Type 0) → (IsTrue stops ↔ Some) → stops ≡ false → Some → ⊥
none_stops stops Some tells none some = absurd (let told = tells.1 some in cc)

pub pass : (fabric : FabricOf) (tables : TablesOf) (traffic : Traffic) (stops : Bool) → (IsTrue stops ↔ SomeIsStopped fabric tables traffic) → (verdict : Verdict) → IsVerdict fabric tables traffic verdict → stops ≡ false → PassesIfRanked fabric tables traffic verdict
pass fabric tables traffic stops tells (Ranks ranks) is none = record {
  ranked = is;
  arrived = arrive fabric tables traffic (rank_of fabric ranks.items) (ranks_fall fabric tables traffic ranks.items is) (λ lid source stopped. none_stops stops (SomeIsStopped fabric tables traffic) tells none (lid, (source, stopped)));
}
pass fabric tables traffic stops tells (Cycle channels) is none = tt
