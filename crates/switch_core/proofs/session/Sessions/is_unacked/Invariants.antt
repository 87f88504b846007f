use Rattle.std.proofs.Common.{◌≡◌, Bool, take, false}
use Rattle.std.specs.List.{list_any}
use Rattle.switch_core.proofs.session.Sessions.is_unacked.Given as goal

-- all that was pushed at the ports before is acknowledged
abbrev pub invariant-ports : goal.invariant-ports
invariant-ports l = list_any (λ (b : Bool). b) (take l.unacked-index l.self.unacked) ≡ false
