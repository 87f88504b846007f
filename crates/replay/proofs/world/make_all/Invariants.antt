use Rattle.std.proofs.Common.{take}
use Rattle.replay.specs.Replays.{HasMade}
use Rattle.replay.proofs.world.make_all.Given as goal

-- the events so far were made
abbrev pub invariant-events : goal.invariant-events
invariant-events l = HasMade l.fn.net.script (take l.event-index l.events) l.net
