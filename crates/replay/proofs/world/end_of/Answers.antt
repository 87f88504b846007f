use Rattle.net_settling.proofs.Whole.{holds_and_settles}
use Rattle.replay.proofs.world.end_of.Goals as goal

pub returns-in-Some-clause-claims : goal.returns-in-Some-clause-claims
returns-in-Some-clause-claims c = holds_and_settles c.args.net.now.script c.next_line-line.ensures.kept c.args.net.now.events c.requires.lawful

pub returns-in-None-clause-claims : goal.returns-in-None-clause-claims
returns-in-None-clause-claims c = holds_and_settles c.args.net.now.script c.next_line-line.ensures.kept c.args.net.now.events c.requires.lawful
