use Rattle.std.proofs.Common.{nat_lt, ap, ◌∙◌}
use Rattle.net_state.specs.Fabric.{StationOf}
use Rattle.net_state.proofs.TallyLemmas.{some_counted}
use Rattle.net_state.proofs.stations.Stations.is_some_spent.Goals as goal

pub returns : goal.returns
returns c = rw (← c.self.view_is) (ap (nat_lt 0) c.self.invariant.spent ∙ some_counted (λ (at : StationOf). at.spent) c.self.inside.items.items)
