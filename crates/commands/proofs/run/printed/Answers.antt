use Rattle.std.proofs.Common.{rules}
use Rattle.commands.proofs.RunLemmas.{all_spelled, run_printed}
use Rattle.commands.proofs.run.printed.Goals as goal

pub join-text-requires-after_bounds : goal.join-text-requires-after_bounds
join-text-requires-after_bounds g c κs within =
    (all_spelled c.args.script.now c.requires.kept c.args.told.now.run.journal c.args.told.now.run.end c.requires.told.legal, c.requires.told)

pub returns-clause-run : goal.returns-clause-run
returns-clause-run g c = run_printed
    c.args.script.now c.args.told.now c.in_ok-report.report.status c.in_ok-text.text.items c.in_ok-report.report.text.items c.extend_from_slice.new.self.items
    c.requires.kept c.requires.told (search rules) (search rules) (search rules)
