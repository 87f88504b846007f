use Rattle.std.proofs.Common.{◌≡◌, List, take, map, length, All}
use Rattle.std.specs.List.{flat_map}
use Rattle.flood_text.specs.Floods.{AreFloods, FloodPart, lines_told, part_lines}
use Rattle.flood_text.proofs.flood.text_of.Given as goal

-- the components so far
abbrev pub invariant-components : goal.invariant-components
invariant-components l = (parts : List FloodPart) × (map (λ p. p.entries) parts ≡ take l.component-index l.forest) × All (λ p. AreFloods p.entries (length p.entries) p.floods) parts × (l.text.items ≡ lines_told l.lives.script.now (flat_map part_lines parts))
