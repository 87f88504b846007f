use Rattle.std.proofs.Common.{◌≡◌, ◌++◌}
use Rattle.switch_core.specs.Steps.{all_pushed}
use Rattle.switch_core.specs.Stands.{Does, HasNumbers}
use Rattle.switch_core.proofs.control.Control.push_all.Given as goal

-- those before were pushed, and there are numbers for the others
abbrev pub invariant-sends : goal.invariant-sends
invariant-sends l = (l.fn.sends ≡ l.yielded ++ l.outgoing-iterator.rest.items) × Does (all_pushed l.yielded) l.initial.self l.self l.initial.out l.out × HasNumbers l.self l.outgoing-iterator.rest.items
