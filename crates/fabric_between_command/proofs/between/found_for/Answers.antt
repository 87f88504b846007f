use Rattle.fabric_between_command.proofs.between.found_for.Goals as goal

pub returns-in-Ok-clause-given : goal.returns-in-Ok-clause-given
returns-in-Ok-clause-given g c was is gave = c.found_with.ensures.given was is (g.S.Source.seen c.args.old.now) (g.S.Source.seen c.read_tables.new.source) gave c.in-Ok.ensures.text
