use Rattle.table_build.proofs.TableLaws.{table_exits}
use Rattle.table_build.proofs.law.exits_begin_ways.Goals as goal

pub returns : goal.returns
returns c = λ es numbers any x entry y t are count table is low other. table_exits es numbers any x entry y t are count table is low other
