use Rattle.std.proofs.Common.{◌≡◌, length}
use Rattle.replay.specs.Replays.{HasMade}
use Rattle.report.specs.Moments.{told_so_far}
use Rattle.report.proofs.ReadingLemmas.{HasReadFrom}
use Rattle.report.proofs.listener.hear_read.Given as goal

-- the events that were read were made and told
abbrev pub invariant-events : goal.invariant-events
invariant-events g l = record {
  made : HasMade l.fn.net.script l.net.events l.net;
  stands : g.L.Listener.stands l.listener l.fn.net.script l.net.events;
  says : l.text.items ≡ told_so_far g.L.Listener.first (g.L.Listener.told l.fn.net.script) l.net.events;
  read : HasReadFrom l.fn.net.script l.fn.reader l.net.events l.reader;
}

abbrev pub decreases-events : goal.decreases-events
decreases-events g l = length l.reader.rest
