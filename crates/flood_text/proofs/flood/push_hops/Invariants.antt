use Rattle.std.proofs.Common.{◌≡◌, ◌++◌, map, take}
use Rattle.flood_text.specs.Floods.{Goes, lines_told}
use Rattle.flood_text.proofs.flood.push_hops.Given as goal

-- the hops so far
abbrev pub invariant-hops : goal.invariant-hops
invariant-hops l = l.text.items ≡ l.fn.text.items ++ lines_told l.lives.script.now (map Goes (take l.hop-index l.hops))
