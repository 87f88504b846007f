use Rattle.fabric_words.proofs.CutLemmas.{after_is}
use Rattle.fabric_words.proofs.cut.after.Goals as goal

pub returns : goal.returns
returns c = rw (← c.as_bytes.ensures.value) (after_is c.as_bytes.result.now c.args.text.now c.strip_prefix.result c.strip_prefix.ensures.cases)
