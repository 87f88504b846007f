use Rattle.std.proofs.Common.{◌≡◌}
use Rattle.common_lines.proofs.line.parts.Given as goal

-- the parts so far
abbrev pub invariant-parts : goal.invariant-parts
invariant-parts l = l.parts.items ≡ l.yielded
