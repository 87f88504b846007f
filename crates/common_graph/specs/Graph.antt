-- Nodes, the steps between them as bits, and their ranks.
use Rattle.std.specs.Prelude.{◌≡◌, ◌<◌, ◌≤◌, ◌+◌, ◌*◌, ℕ, List, length, slice_index, slice_index_or}
use Rattle.std.specs.Int.{bit_at}

-- the number of words of a row, the base of each node, and the words of all rows, one row after another
pub record GraphOf : Type 0 where
  pub wide : ℕ
  pub bases : List ℕ
  pub words : List ℕ

abbrev pub word_at : GraphOf → ℕ → ℕ → ℕ
word_at graph node part = slice_index graph.words (node * graph.wide + part)

abbrev pub IsNode : GraphOf → ℕ → Type 0
IsNode graph node = node < length graph.bases

-- `node` leads to `next`: some bit of the row of `node` represents `next`
pub record LeadsTo (graph : GraphOf) (node next : ℕ) : Type 0 where
  pub low : node < length graph.bases
  pub part : ℕ
  pub within : part < graph.wide
  pub bit : ℕ
  pub fits : bit < 64
  pub has : bit_at (word_at graph node part) bit ≡ 1
  pub is : next ≡ slice_index graph.bases node + 64 * part + bit

-- nodes lead only to nodes
abbrev pub AreWithin : GraphOf → Type 0
AreWithin graph = (node next : ℕ) → LeadsTo graph node next → next < length graph.bases

-- `next` is the lowest node, from the number `from` on, that `node` leads to
pub record IsNext (graph : GraphOf) (node from next : ℕ) : Type 0 where
  pub step : LeadsTo graph node next
  pub after : from ≤ next
  pub least : (other : ℕ) → from ≤ other → LeadsTo graph node other → next ≤ other

abbrev pub HasNoNext : GraphOf → ℕ → ℕ → Type 0
HasNoNext graph node from = (other : ℕ) → from ≤ other → LeadsTo graph node other → ⊥

-- the value of a list for `node`, or 0 if it has none
abbrev pub value_at : List ℕ → ℕ → ℕ
value_at values node = slice_index_or values node 0

-- `node` leads only to nodes of lower ranks
abbrev pub FallFrom : GraphOf → List ℕ → ℕ → Type 0
FallFrom graph ranks node = (next : ℕ) → LeadsTo graph node next → value_at ranks next < value_at ranks node

abbrev pub Fall : GraphOf → List ℕ → Type 0
Fall graph ranks = (node : ℕ) → FallFrom graph ranks node

-- the step from `node` to `next` is the first along which `ranks` do not fall, ordered by `node`, then by `next`
pub record IsFirstRise (graph : GraphOf) (ranks : List ℕ) (node next : ℕ) : Type 0 where
  pub step : LeadsTo graph node next
  pub rises : value_at ranks node ≤ value_at ranks next
  pub before : (other : ℕ) → other < node → FallFrom graph ranks other
  pub lower : (other : ℕ) → other < next → LeadsTo graph node other → value_at ranks other < value_at ranks node
