use Rattle.std.proofs.Common.{◌≡◌, drop, take}
use Rattle.report.specs.Retellings.{IsRetelling}
use Rattle.report.proofs.retelling.Retelling.tell.Given as goal

-- the events so far are told
abbrev pub invariant-events : goal.invariant-events
invariant-events l = record {
  same : l.self.telling.script.now ≡ l.fn.self.telling.script.now;
  so_far : IsRetelling l.fn.self.telling.script.now (take l.event-index l.events) (drop l.event-index l.events) l.self.telling.course l.self.left.items l.self.text.items;
}
