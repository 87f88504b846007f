-- The number of blocks that bytes need.
use Rattle.std.specs.Prelude.{ℕ, ◌+◌, ◌/◌, List, length}

-- the number of blocks of 64 bytes that `len` bytes need
abbrev pub needed : ℕ → ℕ
needed len = (len + 63) / 64

-- the number of blocks that `bytes` need
abbrev pub blocks_of : List ℕ → ℕ
blocks_of bytes = needed (length bytes)
