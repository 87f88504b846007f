-- Chains of blocks of 64 bytes: the order of the blocks, and the bytes in them.
use Rattle.std.specs.Prelude.{ℕ, zero, suc, ◌+◌, ◌*◌, ◌/◌, ◌%◌, List, map, slice_index_or}
use Rattle.std.specs.List.{range_with_len}

-- the block that follows `before`: the one that it names, or that with the next number as long as it names none
abbrev pub after : List ℕ → ℕ → ℕ
after next before = slice_index_or next before (before + 1)

-- the block at index `place` of the chain that starts with block `first`
abbrev pub block : List ℕ → ℕ → ℕ → ℕ
block next first zero = first
block next first (suc place) = block next (after next first) place

-- the position in memory of byte `byte` of the chain that starts with block `first`
abbrev pub place : List ℕ → ℕ → ℕ → ℕ
place next first byte = 64 * block next first (byte / 64) + byte % 64

-- the first `len` bytes of the chain that starts with block `first`
abbrev pub chain_bytes : List ℕ → List ℕ → ℕ → ℕ → List ℕ
chain_bytes bytes next first len =
    map (λ byte. slice_index_or bytes (place next first byte) 0) (range_with_len 0 len)
