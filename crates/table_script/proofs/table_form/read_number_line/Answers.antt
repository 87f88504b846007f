use Rattle.std.proofs.Common.{sym, ◌∙◌}
use Rattle.table_script.proofs.LabelLemmas.{taken_is}
use Rattle.table_script.proofs.NumberLineLemmas.{number_twice, number_new}
use Rattle.table_script.proofs.table_form.read_number_line.Goals as goal

pub returns-then-is_number_taken : goal.returns-then-is_number_taken
returns-then-is_number_taken c = number_twice c.args.network.now.script.now c.args.draft.now c.args.name.now c.args.n.now c.in_ok-s.s c.in_ok-number.field-0 c.in_ok-s.ensures.place.0 c.in_ok-s.ensures.place.1 (sym c.is_numbered.ensures ∙ c.if-is_numbered.false) c.in_ok-number.ensures.number.0 c.in_ok-number.ensures.number.1
    (sym (taken_is c.args.network.now.script.now.wires c.args.draft.now c.args.network.now.labels.now c.in_ok-s.s c.in_ok-number.field-0 c.args.network.now.fit c.requires.kept.numbers c.in_ok-s.ensures.range) ∙ sym c.is_number_taken.ensures ∙ c.if-is_number_taken.true)

pub returns : goal.returns
returns c = number_new c.args.network.now.script.now c.args.draft.now c.push_number.new.self c.args.name.now c.args.n.now c.in_ok-s.s c.in_ok-number.field-0 c.in_ok-s.ensures.place.0 c.in_ok-s.ensures.place.1 (sym c.is_numbered.ensures ∙ c.if-is_numbered.false) c.in_ok-number.ensures.number.0 c.in_ok-number.ensures.number.1
    (sym (taken_is c.args.network.now.script.now.wires c.args.draft.now c.args.network.now.labels.now c.in_ok-s.s c.in_ok-number.field-0 c.args.network.now.fit c.requires.kept.numbers c.in_ok-s.ensures.range) ∙ sym c.is_number_taken.ensures ∙ c.if-is_number_taken.false) c.in_ok-push_number.ensures
