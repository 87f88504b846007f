use Rattle.std.proofs.Common.{drop}
use Rattle.switch_core.specs.Stands.{HasWindows}
use Rattle.switch_core.proofs.ResendLemmas.{DoesTheOthers}
use Rattle.switch_core.proofs.control.Control.resend_all.Given as goal

-- the links before were served, and the windows are kept
abbrev pub invariant-links : goal.invariant-links
invariant-links l = DoesTheOthers l.link-items (drop l.link-index l.link-items) l.initial.self l.self l.initial.out l.out × HasWindows l.self
