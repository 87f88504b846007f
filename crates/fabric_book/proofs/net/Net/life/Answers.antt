-- There is a station at the place of each switch.

use Rattle.std.proofs.Common.{◌<◌, subst, sym}
use Rattle.net_state.specs.Fabric.{FabricOf, count}
use Rattle.fabric_book.specs.Nets.{history_of}
use Rattle.fabric_book.proofs.NetLemmas.{within_count}
use Rattle.fabric_book.proofs.net.Net.life.Goals as goal

pub station-requires : goal.station-requires
station-requires c = subst (λ (f : FabricOf). c.args.s < count f) (sym c.fabric.ensures) (within_count (history_of c.args.self.now) c.args.s c.requires)
