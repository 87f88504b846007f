use Rattle.std.proofs.Common.{◌≡◌, map, take}
use Rattle.flow_text.specs.Sends.{numbers_in}
use Rattle.flow_text.proofs.sent.homes_of.Given as goal

-- the components so far
abbrev pub invariant-components : goal.invariant-components
invariant-components l = l.homes.items ≡ map (numbers_in l.switches) (take l.component-index l.forest)
