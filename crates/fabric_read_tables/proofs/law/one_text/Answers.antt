use Rattle.fabric_read_tables.proofs.TableLaws.{one_text}
use Rattle.fabric_read_tables.proofs.law.one_text.Goals as goal

pub returns : goal.returns
returns c = one_text
