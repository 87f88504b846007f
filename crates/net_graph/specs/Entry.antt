use Rattle.std.specs.Prelude.{◌≡◌, ◌≢◌, ℕ, ◌<◌, List, Some, All, Contains, length}
use Rattle.an_base.specs.Values.{PeerAt}
use Rattle.an_base.specs.Order.{PortsRise}
use Rattle.an_base.specs.Tree.{Network}

-- The links of a node as they are in a topology.

-- `link` is at a port of `node` that leads to another node, and names the far side
abbrev pub LeadsOut : Network → ℕ → PeerAt → Type 0
LeadsOut network node link =
    (other : ℕ) × (other ≢ node) × (network.far node link.port ≡ Some (other, link.peer.port))
    × (link.peer.life ≡ network.life other)

-- `links` are the ports of `node` that lead to other nodes, in ascending order, each with the life and the port at the
-- far side
pub record AreLinks (network : Network) (node : ℕ) (links : List PeerAt) : Type 0 where
  pub rising : PortsRise links
  pub each : All (LeadsOut network node) links
  pub whole :
      (port other far_port : ℕ) → other ≢ node → network.far node port ≡ Some (other, far_port)
      → Contains links (record { port = port; peer = record { life = network.life other; port = far_port } })

-- `links` are the ports of `node` below `end` that lead to other nodes, as in `AreLinks`
pub record AreLinksBelow (network : Network) (node end : ℕ) (links : List PeerAt) : Type 0 where
  pub rising : PortsRise links
  pub each : All (LeadsOut network node) links
  pub below : All (λ link. link.port < end) links
  pub whole :
      (port other far_port : ℕ) → port < end → other ≢ node → network.far node port ≡ Some (other, far_port)
      → Contains links (record { port = port; peer = record { life = network.life other; port = far_port } })
  pub few : length links < end
