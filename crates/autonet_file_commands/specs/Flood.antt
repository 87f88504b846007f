-- The command `flood`: how broadcasts spread in the network of a script.

use Rattle.flood_text.specs.Floods.{IsFloodOf}
use Rattle.autonet_call.specs.Answer.{Gives}
use Rattle.autonet_call.specs.Scripted.{gives_said}

-- `flood` gives the text that says how broadcasts spread, with status 0
abbrev pub gives_flooded : Gives
gives_flooded bytes status text = gives_said IsFloodOf bytes status text
