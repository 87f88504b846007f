use Rattle.net_script.proofs.ScriptLemmas.{empty_kept}
use Rattle.net_script.proofs.script.Script.new.Goals as goal

pub invariant_of-result : goal.invariant_of-result
invariant_of-result c = rw (c.new.ensures, c.new-2.ensures, c.new-3.ensures, c.new-4.ensures.items) empty_kept
