use Rattle.table_script.proofs.TableLaws.{one_text_with}
use Rattle.table_script.proofs.law.one_script_with_tables.Goals as goal

pub returns : goal.returns
returns c = one_text_with
