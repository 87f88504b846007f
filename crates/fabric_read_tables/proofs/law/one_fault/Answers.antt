use Rattle.fabric_read_tables.proofs.TableLaws.{one_fault}
use Rattle.fabric_read_tables.proofs.law.one_fault.Goals as goal

pub returns : goal.returns
returns c = one_fault
