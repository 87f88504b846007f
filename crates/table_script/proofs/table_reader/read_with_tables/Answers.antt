use Rattle.table_script.specs.TableSteps.{told_of}
use Rattle.table_script.proofs.ReadyLemmas.{text_read}
use Rattle.table_script.proofs.table_reader.read_with_tables.Goals as goal

pub returns-clause-text : goal.returns-clause-text
returns-clause-text c = text_read c.args.bytes.now (told_of c.read_all.new.reading) c.finished.result.0 c.finished.result.1 c.in_ok-read_all.ensures.good c.in_ok-read_all.ensures.ended c.finished.ensures.script c.finished.ensures.tables
