-- The fabric with which the world begins.

use Rattle.std.specs.Prelude.{◌≡◌, ℕ, map, length, refl}
use Rattle.std.specs.List.{range_with_len}
use Rattle.net_script.specs.Scripts.{ScriptOf}
use Rattle.net_state.specs.Starts.{begun_fabric, begun_station}
use Rattle.net_world.specs.World.{begun, first_station}

-- what stands at a place at first is what is known of it without the switch
first_is : (script : ScriptOf) (place : ℕ) → first_station script place ≡ begun_station script.wires script.epoch place
first_is script place = refl

-- the fabric of the world at first
pub begun_is : (script : ScriptOf) → (begun script).fabric ≡ begun_fabric script
begun_is script = λ i. record (begun_fabric script) { stations = map (λ place. first_is script place i) (range_with_len 0 (length script.wires.switches)) }
