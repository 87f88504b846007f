use Rattle.std.proofs.Common.{sym, ◌∙◌, rules}
use Rattle.net_script.proofs.FieldLemmas.{not_taken}
use Rattle.net_script.proofs.field.new_name.Goals as goal

pub returns-clause-is_new : goal.returns-clause-is_new
returns-clause-is_new c = record { is_name = search rules; is_new = not_taken c.args.script.now c.args.word.now (sym c.is_taken.ensures ∙ c.if-is_taken.false) }
