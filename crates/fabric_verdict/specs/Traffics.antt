-- Traffics, ordered by their routes.
use Rattle.std.specs.Prelude.{◌≤◌, ℕ}
use Rattle.fabric_model.specs.declared.traffic.Traffic.{Traffic}
use Rattle.fabric_model.specs.declared.traffic.Traffic.TheVariants.{Hosts, Lids, Managed, All, Rows}

-- the index of the traffic, in the order from the fewest routes on
abbrev pub place_of : Traffic → ℕ
place_of Hosts = 0
place_of Lids = 1
place_of Managed = 2
place_of All = 3
place_of Rows = 4

-- `one` is `other`, or comes before it
abbrev pub IsNoMore : Traffic → Traffic → Type 0
IsNoMore one other = place_of one ≤ place_of other
