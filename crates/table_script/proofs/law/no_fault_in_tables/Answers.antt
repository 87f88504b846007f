use Rattle.table_script.proofs.TableLaws.{no_fault_with}
use Rattle.table_script.proofs.law.no_fault_in_tables.Goals as goal

pub returns : goal.returns
returns c = no_fault_with
