-- What a reader holds. Only private functions cite this.
use Rattle.std.specs.Prelude.{◌≡◌, ◌*◌, length}
use Rattle.fabric_model.specs.Fabric.{FabricOf, switch_count}
use Rattle.fabric_read_ranks.specs.declared.reading.Reading.{Reading}
use Rattle.fabric_read_ranks.specs.Ranks.{Told}

abbrev pub told_of : Reading → Told
told_of reading = record { begun = reading.begun; ranks = reading.ranks.items }

-- `reading` has a place for the rank of each channel
abbrev pub HasPlaces : FabricOf → Reading → Type 0
HasPlaces fabric reading = length reading.ranks.items ≡ switch_count fabric * fabric.most
