use Rattle.flow_channels.specs.Layout.{layout_of}
use Rattle.flow_channels.specs.Runs.{entered}
use Rattle.flow_channels.proofs.MoveLaws.{some_move}
use Rattle.flow_channels.proofs.SoundLaws.{comes_sound}
use Rattle.flow_channels.proofs.WiredLaws.{wired}
use Rattle.flow_channels.proofs.law.no_order_of_moves_locks_up.Goals as goal

pub returns : goal.returns
returns c = λ es numbers rows ranks most limit acts flow graph named count passes some comes left.
    let is = wired es numbers graph named count rows most some in
    some_move (layout_of es numbers rows most) ranks (entered acts) flow is passes.joined passes.ranked (comes_sound (layout_of es numbers rows most) limit acts flow is comes) left
