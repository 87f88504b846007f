use Rattle.fabric_words.proofs.CutLemmas.{first_place_is, cut_first_none, cut_first_some}
use Rattle.fabric_words.proofs.cut.cut_first.Goals as goal

pub returns-in_err-place : goal.returns-in_err-place
returns-in_err-place c = rw (c.from_residual.ensures, ← c.as_bytes.ensures.value) (cut_first_none c.as_bytes.result.now c.args.text.now (first_place_is c.args.text.now c.as_bytes.result.now _ c.in_err-place.ensures))

pub returns : goal.returns
returns c = rw (← c.as_bytes.ensures.value) (cut_first_some c.as_bytes.result.now c.args.text.now c.in_ok-place.place (first_place_is c.args.text.now c.as_bytes.result.now _ c.in_ok-place.ensures))
