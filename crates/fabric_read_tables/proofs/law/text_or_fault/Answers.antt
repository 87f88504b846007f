use Rattle.fabric_read_tables.proofs.TableLaws.{text_or_fault}
use Rattle.fabric_read_tables.proofs.law.text_or_fault.Goals as goal

pub returns : goal.returns
returns c = text_or_fault
