use Rattle.std.proofs.Common.{◌≡◌, ◌++◌, take}
use Rattle.journal.specs.Events.{events_text}
use Rattle.journal.proofs.printer.push_events.Given as goal

-- the lines so far were appended
abbrev pub invariant-events : goal.invariant-events
invariant-events l = l.text.items ≡ l.fn.text.items ++ events_text l.script (take l.event-index l.events)
