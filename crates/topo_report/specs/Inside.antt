-- Definitions used only by functions inside this crate.
use Rattle.std.specs.Prelude.{◌≡◌, ◌+◌, ◌<◌, List, ◌∷◌, ◌++◌, length}
use Rattle.an_base.specs.Values.{EntryOf}
use Rattle.an_base.specs.Order.{LivesRise}
use Rattle.topo_report.specs.Report.{least_entries}

-- the first of all lives is taken from two lists: `entry` is its least entry, and the other lists are the rest
pub record TakesFirst (mine heard : List EntryOf) (entry : EntryOf) (mine_left heard_left : List EntryOf)
    : Type 0 where
  pub least : least_entries (mine ++ heard) ≡ entry ∷ least_entries (mine_left ++ heard_left)
  pub rising : LivesRise mine_left × LivesRise heard_left
  pub fewer : length mine_left + length heard_left < length mine + length heard
