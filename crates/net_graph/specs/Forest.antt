use Rattle.std.specs.Prelude.{◌≡◌, ℕ, ◌<◌, List, All, AllPairs, Any, IsTrue}
use Rattle.std.specs.Ordering.{is_le}
use Rattle.an_base.specs.Values.{EntryOf}
use Rattle.an_base.specs.Order.{IsBelow, LivesRise, life_cmp}
use Rattle.an_base.specs.Tree.{Walk, IsPlace}
use Rattle.net_graph.specs.Wires.{Wires, had_of, network}
use Rattle.net_graph.specs.Entry.{AreLinks}

-- The components of a wiring, each with its tree.

-- `entry` is the entry of the switch `node` in the tree of the root `top`; the switch proposes the number that it had
-- last
pub record IsEntry (wires : Wires) (top node : ℕ) (entry : EntryOf) : Type 0 where
  pub life : entry.life ≡ (network wires).life node
  pub place : IsPlace (network wires) top node entry.position
  pub proposed : entry.proposed ≡ had_of wires node
  pub links : AreLinks (network wires) node entry.links

-- `entry` is the entry of some switch in the tree of the root `top`
abbrev pub IsMember : Wires → ℕ → EntryOf → Type 0
IsMember wires top entry = (node : ℕ) × (node < (network wires).count) × IsEntry wires top node entry

-- `entries` are the component of the root `top`, with its tree of shortest walks: every switch that has a walk to the
-- root has an entry, every entry belongs to such a switch, and the root has the lowest life. The entries are in
-- ascending order of life.
pub record IsComponent (wires : Wires) (top : ℕ) (entries : List EntryOf) : Type 0 where
  pub root : top < (network wires).count
  pub whole :
      (node steps : ℕ) → node < (network wires).count → Walk (network wires) steps node top
      → Any (IsEntry wires top node) entries
  pub only : All (IsMember wires top) entries
  pub rising : LivesRise entries
  pub least : All (λ entry. IsTrue (is_le (life_cmp ((network wires).life top) entry.life))) entries

-- the roots of the entries `before` are below the roots of the entries `after`
abbrev pub RootsBelow : List EntryOf → List EntryOf → Type 0
RootsBelow before after =
    All (λ first. All (λ second. IsBelow first.position.root second.position.root) after) before

-- `forest` is the list of components in ascending order of root, and every switch is in one of them
pub record IsForest (wires : Wires) (forest : List (List EntryOf)) : Type 0 where
  pub components : All (λ entries. (top : ℕ) × IsComponent wires top entries) forest
  pub whole :
      (node : ℕ) → node < (network wires).count
      → Any (Any (λ entry. entry.life ≡ (network wires).life node)) forest
  pub rising : AllPairs RootsBelow forest
