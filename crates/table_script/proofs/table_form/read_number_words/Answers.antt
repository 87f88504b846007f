use Rattle.table_script.proofs.TableFormOf.{number_words}
use Rattle.table_script.proofs.table_form.read_number_words.Goals as goal

pub returns-in-len2 : goal.returns-in-len2
returns-in-len2 c = number_words c.read_number_line.result c.args.network.now.script.now c.args.draft.now c.read_number_line.new.draft c.args.words.now _ _ c.in-len2.len_at_least c.in-len2.len_below c.read_number_line.ensures
