use Rattle.std.proofs.Common.{sym, ◌∙◌}
use Rattle.table_script.proofs.KeptLemmas.{step_kept}
use Rattle.table_script.proofs.table_reader.read_table_words.Goals as goal

pub returns-then-is-clause-kept : goal.returns-then-is-clause-kept
returns-then-is-clause-kept c = step_kept c.read_row_words.result c.args.network.now.script.now c.args.draft.now c.read_row_words.new.draft _ _ c.requires.kept (sym c.is_ended.ensures ∙ c.if-is_ended.false) c.read_row_words.ensures

pub returns-clause-kept : goal.returns-clause-kept
returns-clause-kept c = step_kept c.read_table_form.result c.args.network.now.script.now c.args.draft.now c.read_table_form.new.draft _ _ c.requires.kept (sym c.is_ended.ensures ∙ c.if-is_ended.false) c.read_table_form.ensures
