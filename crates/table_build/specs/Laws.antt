-- Shortest paths, packets that follow exits, and walks over channels, as the theorems use them.
use Rattle.std.specs.Prelude.{◌≡◌, ℕ, zero, suc, ◌≤◌, List, [], ◌∷◌, Some, Bool, length}
use Rattle.an_base.specs.Values.{EntryOf}
use Rattle.topo_graph.specs.Topology.{far_of}
use Rattle.table_build.specs.Exits.{LeadsTo, Begins, may_go_up}

-- a shortest path from `place` to `target` has `links` links
pub record IsShortest (entries : List EntryOf) (up : Bool) (place target links : ℕ) : Type 0 where
  pub ports : List ℕ
  pub count : length ports ≡ links
  pub way : LeadsTo entries up place ports target
  pub least : (others : List ℕ) → LeadsTo entries up place others target → links ≤ length others

-- A packet to `target` that arrives at the port `entry` of `place` follows a list of exits, and arrives at the port
-- `out` of `end`.
abbrev pub Follows : List EntryOf → Bool → ℕ → ℕ → ℕ → List ℕ → ℕ → ℕ → Type 0
Follows entries any target place entry [] end out = (place ≡ end) × (entry ≡ out)
Follows entries any target place entry (port ∷ ports) end out =
    Begins entries any (may_go_up entries place entry) place target port
    × ((next came : ℕ) × (far_of entries place port ≡ Some (next, came))
    × Follows entries any target next came ports end out)

-- A channel is a member and a port with a link. `one` leads to `other` if packets that arrive over `one` leave by the
-- port of `other`, towards some member.
abbrev pub LeadsOn : List EntryOf → Bool → (ℕ × ℕ) → (ℕ × ℕ) → Type 0
LeadsOn entries any one other =
    (entry target : ℕ) × (far_of entries one.0 one.1 ≡ Some (other.0, entry))
    × Begins entries any (may_go_up entries other.0 entry) other.0 target other.1

-- a walk of n steps over channels, from `one` to `other`; each channel leads to the next
abbrev pub ChannelWalk : List EntryOf → Bool → ℕ → (ℕ × ℕ) → (ℕ × ℕ) → Type 0
ChannelWalk entries any zero one other = one ≡ other
ChannelWalk entries any (suc count) one other =
    (next : ℕ × ℕ) × LeadsOn entries any one next × ChannelWalk entries any count next other
