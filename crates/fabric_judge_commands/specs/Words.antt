-- The words for traffics.

use Rattle.std.specs.Prelude.{ℕ, List, codes}
use Rattle.fabric_model.specs.declared.traffic.Traffic.{Traffic}
use Rattle.fabric_model.specs.declared.traffic.Traffic.TheVariants.{Hosts, Lids, Managed, All, Rows}

-- the word for a traffic
abbrev pub traffic_word : Traffic → List ℕ
traffic_word Hosts = codes "hosts"
traffic_word Lids = codes "lids"
traffic_word Managed = codes "managed"
traffic_word All = codes "all"
traffic_word Rows = codes "rows"
