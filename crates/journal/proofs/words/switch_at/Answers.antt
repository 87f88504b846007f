use Rattle.journal.specs.Events.{IsSwitch}
use Rattle.journal.proofs.FieldLemmas.{name_field}
use Rattle.journal.proofs.words.switch_at.Goals as goal

pub returns : goal.returns
returns c = rw c.ok_or.ensures.value (name_field (IsSwitch c.args.script.now) c.args.script.now.switch_names c.args.word.now c.place_of_switch.result c.place_of_switch.ensures.place c.place_of_switch.ensures.range)
