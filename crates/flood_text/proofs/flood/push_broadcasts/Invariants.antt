use Rattle.std.proofs.Common.{◌≡◌, ◌++◌, List, length, take}
use Rattle.broadcast_flood.specs.declared.hop.FloodHop.{FloodHop}
use Rattle.flood_text.specs.Floods.{AreFloods, lines_told, member_lines}
use Rattle.flood_text.proofs.flood.push_broadcasts.Given as goal

-- the broadcasts so far
abbrev pub invariant-members : goal.invariant-members
invariant-members l = (floods : List (List FloodHop)) × AreFloods l.component l.entry-index floods × (l.text.items ≡ l.fn.text.items ++ lines_told l.lives.script.now (member_lines (length l.component) (take l.entry-index l.component) floods))
