use Rattle.std.proofs.Common.{◌≡◌, []}
use Rattle.net_gen.specs.Generated.{made_of}
use Rattle.net_gen.proofs.script.add_switches.Given as goal

-- the switches so far
abbrev pub invariant-places : goal.invariant-places
invariant-places l = l.script ≡ made_of l.place [] 0 []
