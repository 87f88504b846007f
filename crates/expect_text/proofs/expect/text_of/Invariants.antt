use Rattle.std.proofs.Common.{◌≡◌, List, take, map, length, All}
use Rattle.expect_text.specs.Expect.{AreTables, Part, expect_forms}
use Rattle.row_text.specs.TableForms.{table_text}
use Rattle.expect_text.proofs.expect.text_of.Given as goal

-- the components so far
abbrev pub invariant-components : goal.invariant-components
invariant-components l = (parts : List Part) × (map (λ p. p.entries) parts ≡ take l.component-index l.forest) × All (λ p. AreTables p.entries l.any (length p.entries) p.tables) parts × (l.text.items ≡ table_text (expect_forms l.lives.script.now parts))
