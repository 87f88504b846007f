use Rattle.std.proofs.Common.{◌≡◌, ◌*◌, length}
use Rattle.fabric_routes.specs.Finding.{AreBases}
use Rattle.fabric_model.specs.Fabric.{switch_count}
use Rattle.fabric_routes.proofs.find.find_bases.Given as goal

abbrev pub invariant-places : goal.invariant-places
invariant-places l = record {
  count : length l.bases.items ≡ switch_count l.fabric * l.fabric.most;
  bases : AreBases l.fabric l.place l.bases.items;
}
