-- Channels that lead to one another, by rows or by broadcasts. A channel is the index of a member and a port.
use Rattle.std.specs.Prelude.{◌≡◌, ◌⊎◌, ℕ, zero, suc, List, Some, None, Bool}
use Rattle.an_base.specs.Values.{EntryOf}
use Rattle.topo_graph.specs.Topology.{far_of}
use Rattle.table_build.specs.Laws.{LeadsOn}
use Rattle.broadcast_flood.specs.Tree.{parent_port, parent_of, IsDown}

-- `channel` is the parent link of its member, upward to `parent`
abbrev pub IsUp : List EntryOf → (ℕ × ℕ) → ℕ → Type 0
IsUp entries channel parent =
    (far_port : ℕ) × (channel.1 ≡ parent_port entries channel.0)
    × (parent_of entries channel.0 ≡ Some (parent, far_port))

-- A broadcast leads from the parent link `channel` upward to `next`, the parent link of its far end.
pub record LeadsUp (entries : List EntryOf) (channel next : ℕ × ℕ) : Type 0 where
  pub first : IsUp entries channel next.0
  pub parent : ℕ
  pub second : IsUp entries next parent

-- A broadcast leads from the parent link `channel` into the root to `next`, a tree link downward from the root.
pub record TurnsDown (entries : List EntryOf) (channel next : ℕ × ℕ) : Type 0 where
  pub first : IsUp entries channel next.0
  pub root : parent_of entries next.0 ≡ None
  pub second : IsDown entries next.0 next.1

-- A broadcast leads from the tree link `channel` downward to `next`, a tree link downward from its far end.
pub record LeadsDown (entries : List EntryOf) (channel next : ℕ × ℕ) : Type 0 where
  pub first : IsDown entries channel.0 channel.1
  pub entry : ℕ
  pub arrives : far_of entries channel.0 channel.1 ≡ Some (next.0, entry)
  pub second : IsDown entries next.0 next.1

-- a broadcast leads from `channel` to `next`: upward, from up to down at the root, or downward
abbrev pub LeadsByBroadcast : List EntryOf → (ℕ × ℕ) → (ℕ × ℕ) → Type 0
LeadsByBroadcast entries channel next =
    LeadsUp entries channel next ⊎ (TurnsDown entries channel next ⊎ LeadsDown entries channel next)

-- `channel` leads to `next` by a row of some member or by a broadcast
abbrev pub Leads : List EntryOf → Bool → (ℕ × ℕ) → (ℕ × ℕ) → Type 0
Leads entries any channel next = LeadsOn entries any channel next ⊎ LeadsByBroadcast entries channel next

-- a walk of n steps from `from` to `to`
abbrev pub Walk : ((ℕ × ℕ) → (ℕ × ℕ) → Type 0) → ℕ → (ℕ × ℕ) → (ℕ × ℕ) → Type 0
Walk Step zero from to = from ≡ to
Walk Step (suc steps) from to = (next : ℕ × ℕ) × Step from next × Walk Step steps next to
