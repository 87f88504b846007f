use Rattle.std.proofs.Common.{nat_lt, ap, ◌∙◌}
use Rattle.net_state.specs.Fabric.{is_due_at}
use Rattle.net_state.proofs.TallyLemmas.{some_counted}
use Rattle.net_state.proofs.stations.Stations.is_some_clock_due.Goals as goal

pub returns : goal.returns
returns c = rw (← c.self.view_is) (ap (nat_lt 0) c.self.invariant.clocks ∙ some_counted (is_due_at c.self.inside.tick) c.self.inside.items.items)
