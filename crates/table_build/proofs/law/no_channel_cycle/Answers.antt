use Rattle.table_build.proofs.CycleLaws.{no_cycle}
use Rattle.table_build.proofs.law.no_channel_cycle.Goals as goal

pub returns : goal.returns
returns c = λ es any n a graph walk. no_cycle es any n a graph walk
