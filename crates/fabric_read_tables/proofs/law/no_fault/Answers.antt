use Rattle.fabric_read_tables.proofs.TableLaws.{no_fault}
use Rattle.fabric_read_tables.proofs.law.no_fault.Goals as goal

pub returns : goal.returns
returns c = no_fault
