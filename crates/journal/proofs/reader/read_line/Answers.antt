use Rattle.std.proofs.Common.{ap, ◌∙◌, map, ℕ, List, Bor}
use Rattle.journal.proofs.ReadLemmas.{line_joined, wrong_by}
use Rattle.journal.proofs.reader.read_line.Goals as goal

pub returns-in-Ok : goal.returns-in-Ok
returns-in-Ok c = (c.in-Ok.ensures.0, line_joined c.args.line.now _ _ (ap (map (λ (w : Bor (List ℕ)). w.now)) c.deref.ensures.value ∙ c.in_ok-set_words.ensures) c.in-Ok.ensures.1)

pub returns-in-Err : goal.returns-in-Err
returns-in-Err c = wrong_by c.args.script.now c.args.line.now _ c.in-Err.cause c.wrong_line.result c.in-Err.ensures (ap (map (λ (w : Bor (List ℕ)). w.now)) c.deref.ensures.value ∙ c.in_ok-set_words.ensures) c.wrong_line.ensures
