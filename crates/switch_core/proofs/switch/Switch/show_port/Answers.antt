use Rattle.std.proofs.Common.{subst, sym}
use Rattle.switch_core.specs.Kept.{KeptOf, StandsFor}
use Rattle.switch_core.proofs.switch.Switch.show_port.Goals as goal

pub returns : goal.returns
returns c before s stands = c.show_port.ensures before s (subst (λ (kept : KeptOf). StandsFor kept s) (sym c.self.view_is) stands)
