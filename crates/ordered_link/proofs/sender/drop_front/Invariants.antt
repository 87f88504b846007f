use Rattle.std.proofs.Common.{◌≡◌, drop}
use Rattle.ordered_link.proofs.sender.drop_front.Given as goal

abbrev pub invariant-dropped : goal.invariant-dropped
invariant-dropped l = l.bodies.items ≡ drop l.counter l.fn.bodies.items
