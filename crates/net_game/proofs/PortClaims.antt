-- What is claimed of the ports of a world.

use Rattle.std.specs.Prelude.{◌≡◌, ◌<◌, ◌⊎◌, ℕ, Some, true, false, Contains}
use Rattle.an_base.specs.Values.{EndId}
use Rattle.net_graph.specs.declared.wiring.LinkAt.{LinkAt}
use Rattle.net_graph.specs.Wires.{a_end, b_end}
use Rattle.net_script.specs.Scripts.{ScriptOf}
use Rattle.switch_core.specs.Switch.{good_peer}
use Rattle.net_state.specs.Fabric.{full_hands, is_some_clock_due}
use Rattle.net_world.specs.World.{WorldOf}
use Rattle.net_game.proofs.Firm.{places}

-- A good port has a link of the script; and where no hand is full, a switch that works and has not joined has a clock due
pub record HasLinkAt (script : ScriptOf) (s p : ℕ) : Type 0 where
  pub link : LinkAt
  pub within : Contains script.wires.links link
  pub at : (a_end link ≡ (s, p)) ⊎ (b_end link ≡ (s, p))

pub record HasPorts (script : ScriptOf) (w : WorldOf) : Type 0 where
  pub link : (s p : ℕ) (far : EndId) → s < places script → good_peer (w.switches s) p ≡ Some far → HasLinkAt script s p
  pub clock : (s : ℕ) → s < places script → (w.switches s).joined ≡ false → (w.switches s).spent ≡ false → full_hands w.fabric ≡ 0 → is_some_clock_due w.fabric ≡ true
