use Rattle.std.proofs.Common.{◌≡◌, ◌<◌, ◌*◌, ℕ, length, get_or}
use Rattle.fabric_routes.specs.Links.{IsLinksWord}
use Rattle.fabric_model.specs.Fabric.{switch_count}
use Rattle.fabric_routes.proofs.link.find_links.Given as goal

abbrev pub invariant-places : goal.invariant-places
invariant-places l = record {
  count : length l.links.items ≡ switch_count l.fabric * 4;
  each : (place : ℕ) → place < l.place → IsLinksWord l.fabric place (get_or l.links.items place 0);
}
