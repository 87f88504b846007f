-- Sets of ports, as bits of a number.
use Rattle.std.specs.Prelude.{◌≡◌, ◌<◌, ℕ}
use Rattle.std.specs.Int.{bit_at}

-- `set` has only ports from 0 to 12
abbrev pub HasOnlyPorts : ℕ → Type 0
HasOnlyPorts set = (port : ℕ) → bit_at set port ≡ 1 → port < 13
