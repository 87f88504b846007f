use Rattle.std.proofs.Common.{arith}
use Rattle.common_lines.proofs.FormTexts.{pairs_more}
use Rattle.row_text.specs.TableForms.{table_words}
use Rattle.expect_text.specs.Expect.{number_form}
use Rattle.expect_text.proofs.expect.push_numbers.Goals as goal

pub numbers-preserved : goal.numbers-preserved
numbers-preserved c =
    let e = c.index-entries-i.result in
    pairs_more table_words (number_form c.args.lives.now.script.now) c.args.entries.now c.args.numbers.now c.numbers.i e _ 0 c.args.text.now.items c.numbers.text.items c.push_numbered.new.text.items (omega arith) (omega (arith, c.requires)) c.index-entries-i.is c.numbers.invariant c.in_ok-push_numbered.ensures
