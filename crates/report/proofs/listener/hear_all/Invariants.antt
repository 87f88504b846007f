use Rattle.std.proofs.Common.{◌≡◌, take}
use Rattle.replay.specs.Replays.{HasMade}
use Rattle.report.specs.Moments.{told_so_far}
use Rattle.report.proofs.listener.hear_all.Given as goal

-- the events so far were made and told
abbrev pub invariant-events : goal.invariant-events
invariant-events g l = record {
  made : HasMade l.fn.net.script (take l.event-index l.events) l.net;
  stands : g.L.Listener.stands l.listener l.fn.net.script (take l.event-index l.events);
  says : l.text.items ≡ told_so_far g.L.Listener.first (g.L.Listener.told l.fn.net.script) (take l.event-index l.events);
}
