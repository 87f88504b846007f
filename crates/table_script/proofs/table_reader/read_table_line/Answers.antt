use Rattle.std.proofs.Common.{rules, ◌≡◌, ◌∙◌, sym, ap, refl, arith, nat_le, true, None}
use Rattle.std.specs.List.{list_all}
use Rattle.std.proofs.lemmas.Bool.Decides.{nat_tests}
use Rattle.common_lines.specs.Lines.{is_line_byte, parts_of, words_of}
use Rattle.net_script.specs.Texts.{bytes_cause}
use Rattle.table_script.proofs.LineStep.{line_step, empty_line}
use Rattle.table_script.proofs.table_reader.read_table_line.Goals as goal

pub read_table_words-requires-clause-words : goal.read_table_words-requires-clause-words
unfolding words_of
read_table_words-requires-clause-words c = sym (ap parts_of c.before_comment.ensures) ∙ c.in-Some.ensures.some

pub returns-in-Some-clause-step : goal.returns-in-Some-clause-step
unfolding words_of
returns-in-Some-clause-step c =
    let bytes : bytes_cause 4000 c.args.line.now ≡ None = search rules in
    line_step c.read_table_words.result c.args.network.now.script.now c.args.draft.now c.read_table_words.new.draft c.args.line.now c.in-Some.first.now (parts_of c.in-Some.rest.now) bytes (sym (ap parts_of c.before_comment.ensures) ∙ c.in-Some.ensures.some) c.read_table_words.ensures.step

pub returns-in-None-clause-step : goal.returns-in-None-clause-step
unfolding words_of
returns-in-None-clause-step c =
    let bytes : bytes_cause 4000 c.args.line.now ≡ None = search rules in
    empty_line c.args.network.now.script.now c.args.draft.now c.args.line.now bytes (sym (ap parts_of c.before_comment.ensures) ∙ c.in-None.ensures.none)
