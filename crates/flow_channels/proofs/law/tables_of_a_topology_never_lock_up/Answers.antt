use Rattle.dep_check.proofs.TableLaws.{tables_joined, tables_no_cycle}
use Rattle.flow_channels.specs.Layout.{layout_of}
use Rattle.flow_channels.specs.Runs.{entered}
use Rattle.flow_channels.proofs.MoveLaws.{some_move}
use Rattle.flow_channels.proofs.RankedLaws.{has_ranks, ranks_in}
use Rattle.flow_channels.proofs.SoundLaws.{comes_sound}
use Rattle.flow_channels.proofs.WiredLaws.{wired}
use Rattle.flow_channels.proofs.law.tables_of_a_topology_never_lock_up.Goals as goal

pub returns : goal.returns
returns c = λ es numbers any rows most limit acts flow graph tree named count tables some comes left.
    let layout = layout_of es numbers rows most in
    let is = wired es numbers graph named count rows most some in
    some_move layout (ranks_in layout) (entered acts) flow is (tables_joined es numbers any rows graph named count tables tree) (has_ranks layout is (tables_no_cycle es numbers any rows graph named count tables)) (comes_sound layout limit acts flow is comes) left
