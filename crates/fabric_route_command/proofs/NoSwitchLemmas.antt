-- A fabric without switches.
use Rattle.std.proofs.Common.{◌≡◌, ℕ, [], ◌∷◌, inl, inr, arith}
use Rattle.common_graph.specs.Cycles.{HasNoCycle}
use Rattle.fabric_tables.specs.Cells.{TablesOf}
use Rattle.fabric_model.specs.declared.node.EndPort.{EndPort}
use Rattle.fabric_model.specs.Fabric.{FabricOf, IsFabric, switch_count}
use Rattle.fabric_model.specs.declared.traffic.Traffic.{Traffic}
use Rattle.fabric_routes.specs.Routes.{Channel, DependsOn, IsSource, Sends}
use Rattle.fabric_verdict.specs.Verdict.{AllArrive}
use Rattle.fabric_route_command.proofs.ApartLemmas.{source_at}

module _ (fabric : FabricOf) (tables : TablesOf) (traffic : Traffic) (fits : IsFabric fabric) (none : switch_count fabric ≡ 0) where
  -- no end port sends
  no_source : (source : EndPort) → IsSource fabric traffic source → ⊥
  no_source source is = absurd (let low = (source_at fabric traffic traffic fits source is).low in omega arith)

  no_sends : (lid : ℕ) (source : EndPort) → Sends fabric tables traffic lid source → ⊥
  no_sends lid source (inl sends) = no_source source sends.is_source
  no_sends lid source (inr sends) = no_source source sends.is_source

  no_depends : (channel next : Channel) → DependsOn fabric tables traffic channel next → ⊥
  no_depends channel next (lid, source, takes) = no_sends lid source takes.comes.sends

  pub no_cycle : HasNoCycle (DependsOn fabric tables traffic)
  no_cycle start [] step = no_depends start start step
  no_cycle start (next ∷ rest) (step, path) = no_depends start next step

  pub all_arrive : AllArrive fabric tables traffic
  all_arrive lid source sends = absurd (no_sends lid source sends)
