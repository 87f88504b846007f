use Rattle.table_build.proofs.MadeTables.{made_table, only_table}
use Rattle.table_build.proofs.law.what_is_made_is_the_table.Goals as goal

pub returns-clause-made : goal.returns-clause-made
returns-clause-made c = made_table

pub returns-clause-only : goal.returns-clause-only
returns-clause-only c = only_table
