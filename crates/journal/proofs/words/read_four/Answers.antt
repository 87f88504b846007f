use Rattle.std.proofs.Common.{ap, ℕ, List, [], ◌∷◌}
use Rattle.journal.specs.Lines.{OnWire}
use Rattle.journal.proofs.ReadLemmas.{form_step}
use Rattle.journal.proofs.words.read_four.Goals as goal

pub returns-in-Some : goal.returns-in-Some
returns-in-Some c = form_step c.read_on_wire.result c.args.script.now (OnWire c.in-Some.change c.args.b.now c.args.c.now c.args.d.now) _ (ap (λ (w : List ℕ). w ∷ c.args.b.now ∷ c.args.c.now ∷ c.args.d.now ∷ []) c.in-Some.ensures.some) c.read_on_wire.ensures
