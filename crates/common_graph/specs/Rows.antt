-- Positions in the rows of a graph.
use Rattle.std.specs.Prelude.{◌≡◌, ◌≢◌, ◌<◌, ◌≤◌, ◌+◌, ◌*◌, ◌^◌, ◌⊎◌, ◌↔◌, ℕ, Bool, true, false, length, slice_index}
use Rattle.std.specs.Int.{bit_at}
use Rattle.common_graph.specs.declared.graph.Cursor.{Cursor}
use Rattle.common_graph.specs.Graph.{AreWithin, GraphOf, LeadsTo, HasNoNext}

-- The nodes that `node` leads to, from `cursor.from` on, are still to come: the bits left of a word, and later words.
pub record StandsAt (graph : GraphOf) (node : ℕ) (cursor : Cursor) : Type 0 where
  pub within : AreWithin graph
  pub count : length graph.bases < 2 ^ 31
  pub few : graph.wide ≤ 64
  pub part : cursor.part ≤ graph.wide
  pub first : cursor.part < graph.wide → cursor.first ≡ slice_index graph.bases node + 64 * cursor.part
  pub low : cursor.first < 2 ^ 32 + 64 * cursor.part
  pub near : cursor.part < graph.wide → cursor.from ≤ cursor.first + 64
  pub rest :
      (bit : ℕ) → bit_at cursor.rest bit ≡ 1
      → (bit < 64) × LeadsTo graph node (cursor.first + bit) × (cursor.from ≤ cursor.first + bit)
  pub left :
      (next : ℕ) → cursor.from ≤ next → LeadsTo graph node next
      → ((bit : ℕ) × (bit_at cursor.rest bit ≡ 1) × (next ≡ cursor.first + bit))
      ⊎ ((cursor.part < graph.wide) × (cursor.first + 64 ≤ next))

-- the cursor has moved to a word with bits left (`found`), or nothing is still to come
pub record FindsBits (graph : GraphOf) (node : ℕ) (old new : Cursor) (found : Bool) : Type 0 where
  pub stands : StandsAt graph node new
  pub from : new.from ≡ old.from
  pub some : found ≡ true → new.rest ≢ 0
  pub none : found ≡ false → HasNoNext graph node old.from

-- `result` has the bits of `word` from bit `from` on
abbrev pub IsMasked : ℕ → ℕ → ℕ → Type 0
IsMasked word from result =
    (bit : ℕ) → ((bit_at result bit ≡ 1) ↔ ((bit_at word bit ≡ 1) × (from ≤ bit)))
