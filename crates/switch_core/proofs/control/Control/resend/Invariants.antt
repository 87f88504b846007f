use Rattle.std.proofs.Common.{◌-◌}
use Rattle.switch_core.specs.Switch.{SwitchOf}
use Rattle.switch_core.specs.Stands.{Stands}
use Rattle.switch_core.proofs.ResendLemmas.{IsOnTheWay}
use Rattle.switch_core.proofs.control.Control.resend.Given as goal

-- whatever was stood for at the start, so many may be due still
abbrev pub invariant-window : goal.invariant-window
invariant-window l = (s : SwitchOf) → Stands l.initial.self s → IsOnTheWay l.link (8 - l.counter) s l.initial.out l.self l.out
