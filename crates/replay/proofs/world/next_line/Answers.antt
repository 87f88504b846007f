use Rattle.replay.proofs.ReplayLemmas.{kept_there, line_is}
use Rattle.replay.proofs.world.next_line.Goals as goal

pub returns-clause-line : goal.returns-clause-line
returns-clause-line c = line_is c.args.net.now.script c.args.net.now.events c.fabric.result.now c.events.result c.requires c.fabric.ensures c.events.ensures.kept c.events.ensures.events

pub returns-clause-kept : goal.returns-clause-kept
returns-clause-kept c = kept_there c.args.net.now.script c.args.net.now.events c.fabric.result.now c.fabric.ensures c.events.ensures.kept
