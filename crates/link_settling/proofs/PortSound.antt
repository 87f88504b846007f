use Rattle.std.proofs.Common.{◌≡◌, ◌⊎◌, ◌≤◌, ◌<◌}
use Rattle.an_base.specs.Values.{EndId}
use Rattle.skeptic.specs.Skeptics.{hold}
use Rattle.connectivity.specs.declared.conn.Conn.TheVariants.{Who}
use Rattle.connectivity.specs.Connections.{ConnectivityOf, met}
use Rattle.port_monitor.specs.declared.port.Phase.TheVariants.{Dead}
use Rattle.port_monitor.specs.declared.port.Port.{Port}

-- what is always so of what a port with this own end knows of the far end
pub record IsFarKnown (own : EndId) (far : ConnectivityOf) : Type 0 where
  pub me : far.me ≡ own
  pub skeptic : far.skeptic.level ≤ 7
  pub few : far.conn ≡ Who → far.streak < hold far.skeptic
  pub met : (far.conn ≡ Who) ⊎ ((q : EndId) × (far.conn ≡ met own q))

-- and of the port
pub record IsPort (own : EndId) (p : Port) : Type 0 where
  pub status : p.status.level ≤ 7
  pub holding : p.phase ≡ Dead → p.status.run < hold p.status
  pub far : IsFarKnown own p.far
