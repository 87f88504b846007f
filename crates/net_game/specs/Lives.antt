-- All lives of a script, and how each is powered on.

use Rattle.std.specs.Prelude.{◌==◌, ◌++◌, ℕ, zero, suc, List, [], ◌∷◌, length, if◌then◌else◌}
use Rattle.an_base.specs.Values.{LifeId}
use Rattle.net_graph.specs.declared.wiring.SwitchAt.{SwitchAt}
use Rattle.net_script.specs.Scripts.{ScriptOf}
use Rattle.switch_game.specs.Network.{PowerOn}
use Rattle.net_world.specs.Sound.{restarts_at}
use Rattle.net_state.specs.Fabric.{life_of}

-- the lives of the switch at an index, up to a boot
abbrev pub lives_at : ScriptOf → ℕ → ℕ → List LifeId
lives_at script place zero = []
lives_at script place (suc boot) = lives_at script place boot ++ life_of script place (suc boot) ∷ []

-- the lives of the switches at the first indices: one each, and one for each of its restarts
abbrev pub lives_below : ScriptOf → ℕ → List LifeId
lives_below script zero = []
lives_below script (suc place) =
    lives_below script place ++ lives_at script place (suc (restarts_at place script.commands))

abbrev pub all_lives : ScriptOf → List LifeId
all_lives script = lives_below script (length script.wires.switches)

-- the short address that the switch with an identifier had last, 1 if there is none
abbrev pub had_by : List SwitchAt → ℕ → ℕ
had_by [] uid = 1
had_by (switch ∷ switches) uid = if switch.uid == uid then switch.had else had_by switches uid

-- how the lives of a script are powered on
abbrev pub powered : ScriptOf → PowerOn
powered script = record {
  epoch = λ life. script.epoch;
  had = λ life. had_by script.wires.switches life.uid;
  any = λ life. script.any_routes;
}
