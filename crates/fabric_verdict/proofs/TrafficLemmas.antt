-- A traffic of fewer routes.
use Rattle.std.proofs.Common.{ℕ, arith, inl, inr}
use Rattle.common_graph.specs.Cycles.{HasNoCycle}
use Rattle.common_graph.proofs.PathLemmas.{more_steps}
use Rattle.fabric_tables.specs.Cells.{TablesOf}
use Rattle.fabric_model.specs.declared.node.EndPort.{EndPort}
use Rattle.fabric_model.specs.declared.node.EndPort.TheVariants as port
use Rattle.fabric_model.specs.Fabric.{FabricOf}
use Rattle.fabric_model.specs.declared.traffic.Traffic.{Traffic}
use Rattle.fabric_model.specs.declared.traffic.Traffic.TheVariants.{Hosts, Lids, Managed, All, Rows}
use Rattle.fabric_routes.specs.Routes.{Channel, DependsOn, IsSource, IsTarget, MayWrite, Sends}
use Rattle.fabric_verdict.specs.Traffics.{IsNoMore}
use Rattle.fabric_verdict.specs.Verdict.{AllArrive}

-- who sends by the one sends by the other
abbrev pub SendsToo : FabricOf → TablesOf → Traffic → Traffic → Type 0
SendsToo fabric tables one other =
    (lid : ℕ) (source : EndPort) → Sends fabric tables one lid source → Sends fabric tables other lid source

module _ (fabric : FabricOf) where
  -- one traffic and the next
  source_lids : (source : EndPort) → IsSource fabric Hosts source → IsSource fabric Lids source
  source_lids (port.Host end) is = is
  source_lids (port.Switch switch) is = absurd is

  target_lids : (owner : EndPort) → IsTarget fabric Hosts owner → IsTarget fabric Lids owner
  target_lids (port.Host end) is = is
  target_lids (port.Switch switch) is = absurd is

  source_managed : (source : EndPort) → IsSource fabric Lids source → IsSource fabric Managed source
  source_managed (port.Host end) is = is
  source_managed (port.Switch switch) is = absurd is

  target_managed : (owner : EndPort) → IsTarget fabric Lids owner → IsTarget fabric Managed owner
  target_managed (port.Host end) is = is
  target_managed (port.Switch switch) is = is

  may_managed : (source owner : EndPort) → IsSource fabric Lids source → MayWrite Managed source owner
  may_managed (port.Host end) owner is = tt
  may_managed (port.Switch switch) owner is = absurd is

  source_all : (source : EndPort) → IsSource fabric Managed source → IsSource fabric All source
  source_all (port.Host end) is = is
  source_all (port.Switch switch) is = is

  target_all : (owner : EndPort) → IsTarget fabric Managed owner → IsTarget fabric All owner
  target_all (port.Host end) is = is
  target_all (port.Switch switch) is = is

  source_rows : (source : EndPort) → IsSource fabric All source → IsSource fabric Rows source
  source_rows (port.Host end) is = is
  source_rows (port.Switch switch) is = is

  target_rows : (owner : EndPort) → IsTarget fabric All owner → IsTarget fabric Rows owner
  target_rows (port.Host end) is = is
  target_rows (port.Switch switch) is = is

  module _ (tables : TablesOf) where
    hosts_lids : SendsToo fabric tables Hosts Lids
    hosts_lids lid source (inl sends) = inl (record { is_source = source_lids source sends.is_source; owner = sends.owner; owns = sends.owns; is_target = target_lids sends.owner sends.is_target; may = tt; other = sends.other })
    hosts_lids lid source (inr sends) = absurd (let is = sends.by_rows in cc)

    lids_managed : SendsToo fabric tables Lids Managed
    lids_managed lid source (inl sends) = inl (record { is_source = source_managed source sends.is_source; owner = sends.owner; owns = sends.owns; is_target = target_managed sends.owner sends.is_target; may = may_managed source sends.owner sends.is_source; other = sends.other })
    lids_managed lid source (inr sends) = absurd (let is = sends.by_rows in cc)

    managed_all : SendsToo fabric tables Managed All
    managed_all lid source (inl sends) = inl (record { is_source = source_all source sends.is_source; owner = sends.owner; owns = sends.owns; is_target = target_all sends.owner sends.is_target; may = tt; other = sends.other })
    managed_all lid source (inr sends) = absurd (let is = sends.by_rows in cc)

    all_rows : SendsToo fabric tables All Rows
    all_rows lid source (inl sends) = inl (record { is_source = source_rows source sends.is_source; owner = sends.owner; owns = sends.owns; is_target = target_rows sends.owner sends.is_target; may = tt; other = sends.other })
    all_rows lid source (inr sends) = absurd (let is = sends.by_rows in cc)

    -- and so one after the other
    pub sends_too : (one other : Traffic) → IsNoMore one other → SendsToo fabric tables one other
    sends_too Hosts Hosts low lid source sends = sends
    sends_too Hosts Lids low lid source sends = hosts_lids lid source sends
    sends_too Hosts Managed low lid source sends = lids_managed lid source (hosts_lids lid source sends)
    sends_too Hosts All low lid source sends = managed_all lid source (lids_managed lid source (hosts_lids lid source sends))
    sends_too Hosts Rows low lid source sends = all_rows lid source (managed_all lid source (lids_managed lid source (hosts_lids lid source sends)))
    sends_too Lids Hosts low lid source sends = absurd (omega arith)
    sends_too Lids Lids low lid source sends = sends
    sends_too Lids Managed low lid source sends = lids_managed lid source sends
    sends_too Lids All low lid source sends = managed_all lid source (lids_managed lid source sends)
    sends_too Lids Rows low lid source sends = all_rows lid source (managed_all lid source (lids_managed lid source sends))
    sends_too Managed Hosts low lid source sends = absurd (omega arith)
    sends_too Managed Lids low lid source sends = absurd (omega arith)
    sends_too Managed Managed low lid source sends = sends
    sends_too Managed All low lid source sends = managed_all lid source sends
    sends_too Managed Rows low lid source sends = all_rows lid source (managed_all lid source sends)
    sends_too All Hosts low lid source sends = absurd (omega arith)
    sends_too All Lids low lid source sends = absurd (omega arith)
    sends_too All Managed low lid source sends = absurd (omega arith)
    sends_too All All low lid source sends = sends
    sends_too All Rows low lid source sends = all_rows lid source sends
    sends_too Rows Hosts low lid source sends = absurd (omega arith)
    sends_too Rows Lids low lid source sends = absurd (omega arith)
    sends_too Rows Managed low lid source sends = absurd (omega arith)
    sends_too Rows All low lid source sends = absurd (omega arith)
    sends_too Rows Rows low lid source sends = sends

module _ (fabric : FabricOf) (tables : TablesOf) (one other : Traffic) (low : IsNoMore one other) where
  too : SendsToo fabric tables one other
  too = sends_too fabric tables one other low

  pub depends_too : (channel next : Channel) → DependsOn fabric tables one channel next → DependsOn fabric tables other channel next
  depends_too channel next (lid, source, takes) =
      let comes = takes.comes in
      (lid, source, record { comes = record { sends = too lid source comes.sends; start = comes.start; begins = comes.begins; hops = comes.hops; comes = comes.comes }; first = takes.first; after = takes.after; second = takes.second })

  pub passes_too : HasNoCycle (DependsOn fabric tables other) → AllArrive fabric tables other → HasNoCycle (DependsOn fabric tables one) × AllArrive fabric tables one
  passes_too none arrive = (more_steps (DependsOn fabric tables one) (DependsOn fabric tables other) depends_too none, λ lid source sends. arrive lid source (too lid source sends))
