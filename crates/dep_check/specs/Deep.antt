-- Depth-first walks. Only private functions cite this.
use Rattle.std.specs.Prelude.{◌≡◌, ◌+◌, ◌*◌, ◌≤◌, ℕ, List, length, Bool, All}
use Rattle.dep_check.specs.declared.channel.Channel.{Channel}
use Rattle.dep_check.specs.declared.deep.Visit.{Visit}
use Rattle.dep_check.specs.Tables.{IsSpot}
use Rattle.dep_check.specs.Walks.{unseen}

-- every visit is of a valid spot
abbrev pub AreVisits : List Visit → Type 0
AreVisits path = All (λ visit. IsSpot visit.spot) path

-- `new` has only visits of valid spots, and at most `most` more than `old`
pub record IsLonger (most : ℕ) (old new : List Visit) : Type 0 where
  pub visits : AreVisits new
  pub few : length new ≤ length old + most

-- A visit was made: the work left is less than before it was removed from the path. Each of the 1,651 spots that is not
-- seen counts 15: once it is seen, it adds at most 14 visits to the path, one to leave it and one for each of 13 spots.
pub record HasVisited (old : List Bool) (before : List Visit) (seen : List Bool) (path : List Visit)
    (left : List Channel) : Type 0 where
  pub count : length seen ≡ 1651
  pub visits : AreVisits path
  pub spots : All IsSpot left
  pub less : 15 * unseen seen + length path ≤ 15 * unseen old + length before
