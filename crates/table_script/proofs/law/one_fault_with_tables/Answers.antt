use Rattle.table_script.proofs.TableLaws.{one_fault_with}
use Rattle.table_script.proofs.law.one_fault_with_tables.Goals as goal

pub returns : goal.returns
returns c = one_fault_with
