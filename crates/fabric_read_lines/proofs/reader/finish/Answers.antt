use Rattle.std.proofs.Common.{◌∙◌, sym}
use Rattle.std.proofs.lemmas.Bool.{false≢true}
use Rattle.fabric_read_lines.proofs.PieceLemmas.{unended}
use Rattle.fabric_read_lines.proofs.reader.finish.Goals as goal

pub returns-then-not-may_end-clause-refused : goal.returns-then-not-may_end-clause-refused
returns-then-not-may_end-clause-refused g c start bytes read =
    rw c.no_end.ensures (unended (g.T.TakesLines.adds c.args.fabric.now) (g.T.TakesLines.is_faulty c.args.fabric.now) g.T.TakesLines.is_ended g.Cause.TextCause.no_end start bytes c.read_last.new.told c.read_last.new.line (c.in_default.ensures.read start bytes read)
    (λ ended. false≢true (sym c.if-not-may_end.true ∙ c.may_end.ensures.1 ended)))
