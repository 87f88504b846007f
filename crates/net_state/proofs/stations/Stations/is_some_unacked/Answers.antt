use Rattle.std.proofs.Common.{nat_lt, ap, ◌∙◌}
use Rattle.net_state.specs.Fabric.{StationOf}
use Rattle.net_state.proofs.TallyLemmas.{some_counted}
use Rattle.net_state.proofs.stations.Stations.is_some_unacked.Goals as goal

pub returns : goal.returns
returns c = rw (← c.self.view_is) (ap (nat_lt 0) c.self.invariant.unacked ∙ some_counted (λ (at : StationOf). at.note.unacked) c.self.inside.items.items)
