use Rattle.replay.proofs.ReplayLemmas.{legal_is_not_refused}
use Rattle.report.specs.Events.{report_text}
use Rattle.report.proofs.ReporterLemmas.{front_none}
use Rattle.report.proofs.reporter.write.Goals as goal

-- a legal journal is not refused
pub stop_of-requires : goal.stop_of-requires
stop_of-requires g c = legal_is_not_refused c.args.script.now c.args.journal.now c.requires.legal.0 c.in-Err.why c.requires.legal.1 c.in-Err.ensures.refused

pub returns-in-Err-clause-front : goal.returns-in-Err-clause-front
returns-in-Err-clause-front g c = front_none (g.K.Sink.seen c.args.sink.now) (report_text c.args.script.now c.args.journal.now)
