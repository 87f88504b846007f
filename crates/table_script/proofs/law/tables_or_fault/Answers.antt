use Rattle.table_script.proofs.TableLaws.{text_or_fault_with}
use Rattle.table_script.proofs.law.tables_or_fault.Goals as goal

pub returns : goal.returns
returns c = text_or_fault_with
