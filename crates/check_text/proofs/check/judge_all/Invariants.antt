use Rattle.std.proofs.Common.{◌≡◌, List, take, map, All}
use Rattle.std.specs.List.{flat_map}
use Rattle.check_text.specs.Check.{IsRanked, Ranked, ranked_text}
use Rattle.check_text.proofs.check.judge_all.Given as goal

-- the components so far
abbrev pub invariant-components : goal.invariant-components
invariant-components l = (parts : List Ranked) × (map (λ p. p.entries) parts ≡ take l.component-index l.forest) × All (IsRanked l.script.wires.switches l.tables) parts × (l.text.items ≡ flat_map (ranked_text l.script l.tables) parts)
