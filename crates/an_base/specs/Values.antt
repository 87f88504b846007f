-- How contracts see lives, ends of links, positions, entries and the bodies that lives exchange, and the ranges of
-- their numbers.
use Rattle.std.specs.Prelude.{ℕ, ◌<◌, ◌≤◌, ◌^◌, Bool, List}

-- `number` is from `least` to `most`
abbrev pub IsWithin : ℕ → ℕ → ℕ → Type 0
IsWithin least most number = (least ≤ number) × (number ≤ most)

-- `number` is at least 1 and fits into four bytes
abbrev pub IsCounted : ℕ → Type 0
IsCounted number = (1 ≤ number) × (number < 2 ^ 32)

-- a life: a switch's identifier and its boot number
pub record LifeId : Type 0 where
  pub uid : ℕ
  pub boot : ℕ

-- one end of a link
pub record EndId : Type 0 where
  pub life : LifeId
  pub port : ℕ

-- the position of a life in its tree: the root, the number of links to it, the parent, and the own port to the parent;
-- a root is its own parent, by port 0
pub record Place : Type 0 where
  pub root : LifeId
  pub level : ℕ
  pub parent : LifeId
  pub port : ℕ

-- a port and the other end of its link
pub record PeerAt : Type 0 where
  pub port : ℕ
  pub peer : EndId

-- what is known about one life: its position, the number that it proposes, and its links in ascending order of port
pub record EntryOf : Type 0 where
  pub life : LifeId
  pub position : Place
  pub proposed : ℕ
  pub links : List PeerAt

-- a position that is sent: its version, root and level, and whether the link is the sender's link to its parent
pub record PosOf : Type 0 where
  pub version : ℕ
  pub root : LifeId
  pub level : ℕ
  pub to_parent : Bool

-- an answer to a position: the version received, and whether the link is the link to the parent of the sender
pub record AnswerOf : Type 0 where
  pub version : ℕ
  pub to_parent : Bool

-- a topology: its entries in ascending order of life, and the number of each
pub record TopoOf : Type 0 where
  pub entries : List EntryOf
  pub numbers : List ℕ
