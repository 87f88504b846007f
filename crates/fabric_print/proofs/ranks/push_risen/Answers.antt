use Rattle.std.proofs.Common.{◌∙◌, ap, sym, ◌++◌, Option}
use Rattle.std.proofs.lemmas.Result.{on_ok_weaker}
use Rattle.common_lines.specs.Lines.{lines_text}
use Rattle.fabric_print.specs.declared.ranks.Risen.{Risen}
use Rattle.fabric_print.specs.Ranks.{risen_rows}
use Rattle.fabric_print.proofs.RowLemmas.{risen_is}
use Rattle.fabric_print.proofs.ranks.push_risen.Goals as goal

pub returns : goal.returns
returns c = on_ok_weaker c.push-3.result (λ last. risen_is c.in-Some.rise c.args.text.now.items c.push_row-2.new.text.items c.push.new.text.items c.push-2.new.text.items c.push-3.new.text.items c.in_ok-push_row.ensures c.in_ok-push.ensures c.in_ok-push-2.ensures last ∙ ap (λ (r : Option Risen). c.args.text.now.items ++ lines_text (risen_rows r)) (sym c.in-Some.is)) c.push-3.ensures
