-- With what those before are started.

use Rattle.std.proofs.Common.{◌≡◌, map}
use Rattle.std.specs.List.{range_with_len}
use Rattle.fabric_book.specs.Nets.{power_of}
use Rattle.fabric_book.proofs.net.powers.Given as goal

abbrev pub invariant-switches : goal.invariant-switches
invariant-switches l = l.powers.items ≡ map (power_of l.script) (range_with_len 0 l.s)
