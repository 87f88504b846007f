use Rattle.updown.proofs.StepLemmas.{all_lengths}
use Rattle.updown.proofs.length.Lengths.to.Goals as goal

pub returns : goal.returns
returns c =
    let order = c.as_slice-order.ensures in
    all_lengths c.args.graph.now c.args.to c.args.descent.now c.in_ok-up.up.items c.in_ok-down.down.items c.requires (rw order at c.in_ok-down.ensures) (rw order at c.in_ok-up.ensures)
