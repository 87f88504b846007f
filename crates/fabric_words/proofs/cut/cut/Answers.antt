use Rattle.fabric_words.proofs.CutLemmas.{cut_none, cut_some}
use Rattle.fabric_words.proofs.cut.cut.Goals as goal

pub returns-in_err-place : goal.returns-in_err-place
returns-in_err-place c = rw c.from_residual.ensures (cut_none c.args.byte c.args.text.now c.in_err-place.ensures)

pub returns : goal.returns
returns c = cut_some c.args.byte c.args.text.now c.in_ok-place.place c.in_ok-place.ensures
