-- Numbers drawn from a seed: each draw makes the next seed, and uses its upper 31 bits.

use Rattle.std.specs.Prelude.{◌+◌, ◌*◌, ◌/◌, ◌%◌, ◌^◌, ℕ}

abbrev pub next_seed : ℕ → ℕ
next_seed seed = (seed * 6364136223846793005 + 1442695040888963407) % 2 ^ 64

-- the number below a bound that is drawn from a seed
abbrev pub drawn : ℕ → ℕ → ℕ
drawn seed bound = seed / 2 ^ 33 % bound
